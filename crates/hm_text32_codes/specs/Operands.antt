-- What a text gives numbers for, read without a refusal, since the row that is found is asked for its text.
use Rattle.std.specs.Prelude.{ℕ, ◌%◌, ◌^◌, List, [], ◌∷◌, length, codes, bytes_eq, Option, Some, None, option_map, ◌==◌, if◌then◌else◌, unwrap_or}
use Rattle.std.specs.Option.{option_or}
use Rattle.hm_isa.specs.declared.system.ReadName.{ReadName}
use Rattle.hm_isa.specs.SystemCodes.{read_base}
use Rattle.hm_text_base.specs.Spans.{span}
use Rattle.hm_tokens.specs.declared.marks.Mark.TheVariants as marks
use Rattle.hm_tokens.specs.Names.{condition_in, double_in, register_in, vector_in}
use Rattle.hm_tokens.specs.Tokens.{Tok, word, number, is_number, is_the_mark, point}
use Rattle.hm_text_rows.specs.Names.{named}
use Rattle.hm_text_rows.specs.Operands.{added, back_in, before, bits_of, braced, first_of, first_word, is_vector, operand, size_of, value_by}
use Rattle.hm_text32_rows.specs.Mnemonics.{carry_mnemonic, read_name, shift_mnemonic}
use Rattle.hm_text32_codes.specs.declared.operands.Operands.{Operands}
use Rattle.hm_text32_codes.specs.Names.{shift_numbers, special_names}

-- the number of the shift that a word names; `rrx` is a rotation by 0 (DDI0553, "DecodeImmShift")
abbrev pub shift_in : List ℕ → Option ℕ
shift_in w = option_or (named shift_mnemonic shift_numbers w) (if bytes_eq w (carry_mnemonic 0) then Some 3 else None)

-- T18: SYSm, the number of a special register, the lowest byte of the code of MRS that reads it (DDI0553, "MRS")
abbrev pub special_number : ReadName → ℕ
special_number name = read_base name % 2 ^ 8

-- the number of the special register that a word names
abbrev pub special_in : List ℕ → Option ℕ
special_in w = option_map special_number (named read_name special_names w)

-- the number of another word: 15 of `zr` and of `apsr_nzcv`, 1 of `fpscr`, 12 of `vpr` and 13 of `p0`; else 0
abbrev pub other_wide_word_value : List ℕ → ℕ
other_wide_word_value w =
    if bytes_eq w (codes "zr") then 15
    else if bytes_eq w (codes "fpscr") then 1
    else if bytes_eq w (codes "vpr") then 12
    else if bytes_eq w (codes "p0") then 13
    else if bytes_eq w (codes "apsr_nzcv") then 15
    else 0

-- the number that a word stands for: a register's, a vector's, a condition's, a half of a vector's, a shift's, a special register's or another's
unfoldable pub wide_word_value : List ℕ → ℕ
wide_word_value w =
    unwrap_or (register_in w)
    (unwrap_or (vector_in w)
    (unwrap_or (condition_in w) (unwrap_or (double_in w) (unwrap_or (shift_in w) (unwrap_or (special_in w) (other_wide_word_value w))))))

-- the number that a token stands for
abbrev pub wide_value : Tok → ℕ
wide_value = value_by wide_word_value

-- 1 where `!` stands behind the second token
abbrev pub second_bang : List Tok → ℕ
second_bang [] = 0
second_bang (t ∷ []) = 0
second_bang (t ∷ u ∷ ts) = if is_the_mark marks.Bang (first_of ts) then 1 else 0

-- what tokens stand for as numbers, the first being a mnemonic with this suffix: the element size, five operands behind the mnemonic,
-- what they are, how an address is written, and the registers in braces
abbrev pub read_wide_operands : List ℕ → List Tok → Operands
read_wide_operands suffix ts = record {
  is_bare = length ts == 1;
  is_single = length ts == 2;
  size = size_of suffix;
  is_vector = is_vector (operand 1 ts);
  second_is_number = is_number (operand 2 ts);
  third_is_number = is_number (operand 3 ts);
  first = wide_value (operand 1 ts);
  second = wide_value (operand 2 ts);
  third = wide_value (operand 3 ts);
  fourth = wide_value (operand 4 ts);
  fifth = wide_value (operand 5 ts);
  added = added ts;
  before = before ts;
  back = back_in ts;
  bang = second_bang ts;
  registers = bits_of (braced ts);
}

-- the operands of tokens
abbrev pub operands_in : List Tok → Operands
operands_in ts = read_wide_operands (span point (first_word ts)).1 ts
