-- Words: parts of a line that one space separates.
use Rattle.std.specs.Prelude.{ℕ, Bool, not, List, [], ◌∷◌, length, slice_index, codes, Option, Some, None, is_none, option_and_then, ◌==◌}
use Rattle.std.specs.Prelude.{nat_lt, ◌&&◌, ◌||◌, if◌then◌else◌, bytes_eq}
use Rattle.std.specs.Char.{is_ascii_alphanumeric, is_ascii_digit, is_ascii_lowercase}
use Rattle.std.specs.List.{list_all, slice_split}
use Rattle.hm_text_base.specs.Marks.{space}
use Rattle.hm_text_base.specs.Numbers.{word_in}
use Rattle.hm_kernel_lang.specs.declared.text.Op.{Op}
use Rattle.hm_kernel_lang.specs.declared.text.Op.TheVariants as op

-- the words of a text
abbrev pub words_of : List ℕ → List (List ℕ)
words_of text = slice_split (λ b. b == space) text

-- the words behind a place: none at the end, else those behind the space that stands there
abbrev pub words_behind : List ℕ → List (List ℕ)
words_behind [] = []
words_behind (b ∷ text) = words_of text

-- the operation that a word is
unfoldable pub op_in : List ℕ → Option Op
op_in w =
    if bytes_eq w (codes "add") then Some op.Add
    else if bytes_eq w (codes "sub") then Some op.Sub
    else if bytes_eq w (codes "mul") then Some op.Mul
    else if bytes_eq w (codes "min") then Some op.Min
    else if bytes_eq w (codes "max") then Some op.Max
    else if bytes_eq w (codes "and") then Some op.And
    else if bytes_eq w (codes "or") then Some op.Or
    else if bytes_eq w (codes "xor") then Some op.Xor
    else None

-- A NAME: a lower-case letter, then letters of either case and digits, and no operation's word
unfoldable pub is_name : List ℕ → Bool
is_name w = is_ascii_lowercase (slice_index w 0) && (list_all is_ascii_alphanumeric w && is_none (op_in w))

-- a number of any size: decimal digits with no leading zero
unfoldable pub is_numeral : List ℕ → Bool
is_numeral w = not (length w == 0) && (list_all is_ascii_digit w && ((length w == 1) || not (slice_index w 0 == 48)))

-- the number of a numeral, where it is below a limit of at most 2 ^ 32
abbrev pub number_below : ℕ → List ℕ → Option ℕ
number_below limit w = option_and_then (λ n. if nat_lt n limit then Some n else None) (word_in w)
