-- The lines of a source, the parts of a line, and their columns.
use Rattle.std.specs.Prelude.{ℕ, ◌+◌, ◌-◌, ◌^◌, min, List, [], ◌∷◌, ◌++◌, Option, option_map}
use Rattle.hm_text_base.specs.Spans.{Lines, lines_of}
use Rattle.hm_line.specs.Sources.{before_comment, instruction_of, label_of}
use Rattle.hm_line.specs.Texts.{column}
use Rattle.hm_tokens.specs.Tokens.{skip}

-- the lines that are ended, and a last one that is not, where it has a byte
abbrev pub with_last : Lines → List (List ℕ)
with_last (ls, []) = ls
with_last (ls, b ∷ rest) = ls ++ (b ∷ rest) ∷ []

-- the lines of a source, without the ends of lines; the last may have no end
abbrev pub source_lines : List ℕ → List (List ℕ)
source_lines source = with_last (lines_of source)

-- the name of the label, where the line has one
abbrev pub name_of : List ℕ → Option (List ℕ)
name_of line = option_map (λ x. x.0) (label_of (before_comment line))

-- the instruction or directive, from its first word on
abbrev pub text_of : List ℕ → List ℕ
text_of line = instruction_of (before_comment line)

-- COLUMNS
-- the column of a line's first token, which is its label where it has one
abbrev pub name_column : List ℕ → ℕ
name_column line = column (before_comment line) (skip (before_comment line))

-- the column at which the instruction or directive of a line begins
abbrev pub text_column : List ℕ → ℕ
text_column line = column (before_comment line) (text_of line)

-- a column of a text that begins at a column of its line, as one of the line; those past 2^32 - 1 are told as that
abbrev pub shifted : ℕ → ℕ → ℕ
shifted begin c = min (begin - 1 + c) (2 ^ 32 - 1)
