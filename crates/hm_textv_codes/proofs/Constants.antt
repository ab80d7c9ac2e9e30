-- Immediates: the texts of rows V15 give their mnemonics and operands, and are printed and read back.
use Rattle.std.proofs.Common.{◌≡◌, ℕ, suc, ◌<◌, true, false, List, [], ◌++◌, get_or, refl, arith}
use Rattle.std.specs.Prelude.{codes}
use Rattle.hm_isa.specs.declared.fields.Below.{Below}
use Rattle.hm_textv_codes.specs.declared.operands.Kind.TheVariants as kinds
use Rattle.hm_textv_codes.specs.Asked.{constant_given, constant_number, given}
use Rattle.hm_textv_codes.specs.Names.{constant_mnemonic}
use Rattle.hm_textv_codes.specs.Operands.{vector_word_value}
use Rattle.hm_text_rows.specs.Operands.{is_vector_name}
use Rattle.hm_text_rows.proofs.Words.{◌▹◌, at_below, is_mnemonic}
use Rattle.hm_textv_rows.specs.Mnemonics.{constant_merge_mnemonic, constant_move_mnemonic}
use Rattle.hm_textv_rows.specs.Rows.{constant_forms, shifted}
use Rattle.hm_textv_codes.proofs.Endings.{Suffix, suffix_integer, suffix_whole}
use Rattle.hm_textv_codes.proofs.Forms.{Operand, Reads, a_vector, reads_constant, reads_shifted}

lsl : Operand (codes "lsl") 0 kinds.Word
unfolding vector_word_value is_vector_name
lsl = record { value = refl; is_kind = refl; is = refl }

msl : Operand (codes "msl") 1 kinds.Word
unfolding vector_word_value is_vector_name
msl = record { value = refl; is_kind = refl; is = refl }

-- one text of an immediate that is shifted
with_shift : (s : List ℕ) {f v : List ℕ} {z m i : ℕ} (d : Below 8) → i < 1000 → (n : ℕ) → is_mnemonic s ≡ true → Suffix f false 0 z → Operand v m kinds.Word
    → n < 1000
    → Reads (shifted (s ++ f) v n d.value i) s (given false 0 z kinds.Word d.value i m n)
with_shift s d hi n mnemonic g o hn = reads_shifted mnemonic g (a_vector d) o hi hn

abbrev FormReads : ℕ → ℕ → ℕ → ℕ → Type 0
FormReads op d x cm = Reads (get_or (constant_forms op d x) cm []) (constant_mnemonic (constant_number op cm)) (constant_given op cm d x)

pub constant_reads : (op cm x : ℕ) (d : Below 8) → op < 2 → cm < 15 → x < 1000 → FormReads op d.value x cm
constant_reads (suc (suc op)) cm x d ho hc hx = absurd (omega arith)
constant_reads op cm x d ho hc hx =
    let words = suffix_integer {z = 2} (omega arith) in
    let halves = suffix_integer {z = 1} (omega arith) in
    at_below (FormReads op d.value x) 15 cm
    (reads_constant {s = codes "vmov"} refl (suffix_whole op ho) (a_vector d) hx
    ▹ with_shift (constant_move_mnemonic op) d hx 16 refl words msl (omega arith)
    ▹ with_shift (constant_move_mnemonic op) d hx 8 refl words msl (omega arith)
    ▹ with_shift (constant_merge_mnemonic op) d hx 8 refl halves lsl (omega arith)
    ▹ with_shift (constant_move_mnemonic op) d hx 8 refl halves lsl (omega arith)
    ▹ with_shift (constant_merge_mnemonic op) d hx 0 refl halves lsl (omega arith)
    ▹ with_shift (constant_move_mnemonic op) d hx 0 refl halves lsl (omega arith)
    ▹ with_shift (constant_merge_mnemonic op) d hx 24 refl words lsl (omega arith)
    ▹ with_shift (constant_move_mnemonic op) d hx 24 refl words lsl (omega arith)
    ▹ with_shift (constant_merge_mnemonic op) d hx 16 refl words lsl (omega arith)
    ▹ with_shift (constant_move_mnemonic op) d hx 16 refl words lsl (omega arith)
    ▹ with_shift (constant_merge_mnemonic op) d hx 8 refl words lsl (omega arith)
    ▹ with_shift (constant_move_mnemonic op) d hx 8 refl words lsl (omega arith)
    ▹ with_shift (constant_merge_mnemonic op) d hx 0 refl words lsl (omega arith)
    ▹ with_shift (constant_move_mnemonic op) d hx 0 refl words lsl (omega arith)
    ▹ tt)
    hc
