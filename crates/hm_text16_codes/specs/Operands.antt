-- What a text gives numbers for, read without a refusal, since the row that is found is asked for its text.
use Rattle.std.specs.Prelude.{ℕ, List, codes, bytes_eq, if◌then◌else◌, unwrap_or}
use Rattle.hm_tokens.specs.Names.{condition_in, register_in}
use Rattle.hm_tokens.specs.Tokens.{Tok, word, number, mark}
use Rattle.hm_text_rows.specs.Operands.{bits_of, braced, operand, value_by}
use Rattle.hm_text16_codes.specs.declared.operands.Kind.{Kind}
use Rattle.hm_text16_codes.specs.declared.operands.Kind.TheVariants as kinds
use Rattle.hm_text16_codes.specs.declared.operands.Operands.{Operands}

-- the number of a register or a condition, `al` among them; 0 of another word
unfoldable pub narrow_word_value : List ℕ → ℕ
narrow_word_value w = unwrap_or (register_in w) (unwrap_or (condition_in w) (if bytes_eq w (codes "al") then 14 else 0))

-- the number that a token stands for
abbrev pub narrow_value : Tok → ℕ
narrow_value = value_by narrow_word_value

-- what a token is as an operand: a word or a number, and a mark where the operand is missing
abbrev pub kind_of : Tok → Kind
kind_of (word w) = kinds.Word
kind_of (number n) = kinds.Number
kind_of (mark c) = kinds.Missing

-- what stands behind the mnemonic of tokens, as numbers: three operands, what the second and the third are, and the registers in braces
abbrev pub read_narrow_operands : List Tok → Operands
read_narrow_operands ts = record {
  first = narrow_value (operand 1 ts);
  second = narrow_value (operand 2 ts);
  third = narrow_value (operand 3 ts);
  second_kind = kind_of (operand 2 ts);
  third_kind = kind_of (operand 3 ts);
  registers = bits_of (braced ts);
}
