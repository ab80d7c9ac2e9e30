-- A line of a source: what is its label, and what its instruction or directive.
use Rattle.std.specs.Prelude.{◌≡◌, ℕ, Bool, true, false, List, Option, Some, None, option_map, option_and_then, not}
use Rattle.hm_text_base.specs.Spans.{span}
use Rattle.hm_tokens.specs.declared.marks.Mark.TheVariants as marks
use Rattle.hm_tokens.specs.Tokens.{skip}
use Rattle.hm_line.specs.declared.form.Form.TheVariants as forms
use Rattle.hm_tokens.specs.Names.{is_label_name}
use Rattle.hm_line.specs.Fronts.{behind_mark, word_in_front}
use Rattle.hm_line.specs.Texts.{IsOfForm, IsRefused, column}

-- `@`, with which a comment begins
abbrev pub comment_sign : ℕ
comment_sign = 64

-- a line up to its comment, which begins with the first `@`
abbrev pub before_comment : List ℕ → List ℕ
before_comment line = (span comment_sign line).0

-- the first word and what stands behind its `:`, where `:` follows it
abbrev pub label_of : List ℕ → Option (List ℕ × List ℕ)
label_of text = option_and_then (λ x. option_map (λ rest. (x.0, rest)) (behind_mark marks.Colon x.1)) (word_in_front text)

-- that word is no name for a label
abbrev pub is_bad : Option (List ℕ × List ℕ) → Bool
is_bad None = false
is_bad (Some x) = not (is_label_name x.0)

-- whether a text begins with a word and `:`, and the word is no name for a label
abbrev pub has_bad_label : List ℕ → Bool
has_bad_label text = is_bad (label_of text)

-- what stands behind the label, or the whole text where it has none
abbrev pub behind_label : List ℕ → Option (List ℕ × List ℕ) → List ℕ
behind_label text None = text
behind_label text (Some x) = x.1

-- the instruction or directive, from its first word on
abbrev pub instruction_of : List ℕ → List ℕ
instruction_of text = skip (behind_label text (label_of text))

-- a line, without its comment, is of the form of a line, and its label, where it has one, has a name for a label
abbrev pub IsLine : List ℕ → Type 0
IsLine line = (has_bad_label (before_comment line) ≡ false) × IsOfForm forms.Line (before_comment line)

-- a word before `:` that is no name for a label is refused at that word, before all else
abbrev pub IsLineRefused : List ℕ → ℕ → Type 0
IsLineRefused line c =
    (has_bad_label (before_comment line) ≡ true → c ≡ column (before_comment line) (skip (before_comment line)))
    × (has_bad_label (before_comment line) ≡ false → IsRefused forms.Line (before_comment line) c)
