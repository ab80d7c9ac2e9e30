-- What a text gives numbers for, read without a refusal, since the row that is found is asked for its text.
use Rattle.std.specs.Prelude.{ℕ, Bool, true, false, List, [], ◌∷◌, Option, length, get_or, codes, bytes_eq, ◌==◌, if◌then◌else◌, unwrap_or}
use Rattle.hm_tokens.specs.declared.marks.Mark.TheVariants as marks
use Rattle.hm_tokens.specs.Names.{register_in, vector_in}
use Rattle.hm_tokens.specs.Tokens.{Tok, word, number, mark}
use Rattle.hm_text_rows.specs.Names.{named}
use Rattle.hm_text_rows.specs.Operands.{added, back_in, before, is_vector_name, operand, size_of, token_behind, value_by}
use Rattle.hm_textv_rows.specs.Mnemonics.{compare_condition}
use Rattle.hm_textv_codes.specs.declared.operands.Kind.{Kind}
use Rattle.hm_textv_codes.specs.declared.operands.Kind.TheVariants as kinds
use Rattle.hm_textv_codes.specs.declared.operands.Operands.{Operands}

-- V20: the number of the condition of VCMP or VPT that a word names, 0 to 7 for eq, ne, cs, hi, ge, lt, gt and le; None where it names none
-- (DDI0553, "VCMP (vector)" and "VPT")
abbrev pub compare_condition_in : List ℕ → Option ℕ
compare_condition_in w = named compare_condition (0 ∷ 1 ∷ 2 ∷ 3 ∷ 4 ∷ 5 ∷ 6 ∷ 7 ∷ []) w

-- the number of another word: 15 of `zr`, 1 of `msl`, which brings in ones, and of `uxtw`, which scales an offset; else 0
abbrev pub other_vector_word_value : List ℕ → ℕ
other_vector_word_value w =
    if bytes_eq w (codes "zr") then 15
    else if bytes_eq w (codes "msl") then 1
    else if bytes_eq w (codes "uxtw") then 1
    else 0

-- the number that a word stands for: of a vector, else of a core register, else of a condition, else of another word
unfoldable pub vector_word_value : List ℕ → ℕ
vector_word_value w = unwrap_or (vector_in w) (unwrap_or (register_in w) (unwrap_or (compare_condition_in w) (other_vector_word_value w)))

-- the number that a token stands for
abbrev pub vector_value : Tok → ℕ
vector_value = value_by vector_word_value

-- what a word is as an operand, where this says whether it names a vector
abbrev pub kind_by : Bool → Kind
kind_by true = kinds.Vector
kind_by false = kinds.Word

-- what a token is as an operand: the name of a vector, another word, or a number; and a mark where the operand is missing
abbrev pub kind_of : Tok → Kind
kind_of (word w) = kind_by (is_vector_name w)
kind_of (number n) = kinds.Number
kind_of (mark c) = kinds.Missing

-- `u`, which stands behind the point where the elements are unsigned
abbrev pub unsigned_letter : ℕ
unsigned_letter = 117

-- 1 where the letter behind the point is u
unfoldable pub sign_of : List ℕ → ℕ
sign_of suffix = if get_or suffix 1 0 == unsigned_letter then 1 else 0

-- what tokens stand for as numbers, the first being a mnemonic with this suffix: the sign and the size of the elements, the operands
-- behind the mnemonic and what the third is, how the address is written, and what its base is: a number where there is no address
abbrev pub read_vector_operands : List ℕ → List Tok → Operands
read_vector_operands suffix ts = record {
  is_bare = length suffix == 0;
  sign = sign_of suffix;
  size = size_of suffix;
  third_kind = kind_of (operand 3 ts);
  first = vector_value (operand 1 ts);
  second = vector_value (operand 2 ts);
  third = vector_value (operand 3 ts);
  fourth = vector_value (operand 4 ts);
  fifth = vector_value (operand 5 ts);
  added = added ts;
  before = before ts;
  back = back_in ts;
  base_kind = kind_of (token_behind marks.OpenBracket ts);
}
