-- Every row of one halfword: its text gives its operands, and is printed and read back.
use Rattle.std.proofs.Common.{ℕ, ◌*◌, ◌<◌, ltb, refl, arith}
use Rattle.std.specs.Prelude.{codes}
use Rattle.std.proofs.lemmas.Bool.{ltb-true}
use Rattle.hm_isa.specs.declared.narrow.BaseName.{BaseName}
use Rattle.hm_isa.specs.declared.narrow.PlainName.{PlainName}
use Rattle.hm_isa.specs.declared.narrow.S25.TheVariants as s25
use Rattle.hm_isa.specs.declared.narrow.ShiftName.{ShiftName}
use Rattle.hm_isa.specs.declared.narrow.ShiftName.TheVariants as shift
use Rattle.hm_isa.specs.declared.widths.NarrowRow.{NarrowRow}
use Rattle.hm_isa.specs.declared.widths.NarrowRow.TheVariants as narrow
use Rattle.hm_isa.specs.Letters.{access_size, base_register, plain_access, shift_amount}
use Rattle.hm_text_rows.proofs.Branches.{mnemonic_branch}
use Rattle.hm_text_rows.proofs.Words.{below_holds}
use Rattle.hm_text16_codes.specs.Operands.{narrow_word_value}
use Rattle.hm_text16_codes.proofs.Asked.{RowLaw, label_row, plain_row}
use Rattle.hm_text16_codes.proofs.Forms.{reads_by_number, reads_by_register, reads_constant, reads_label, reads_none, reads_one, reads_one_constant}
use Rattle.hm_text16_codes.proofs.Forms.{reads_register_label, reads_three, reads_two, reads_two_constant}
use Rattle.hm_text16_codes.proofs.Lists.{row_s20, row_s21}
use Rattle.hm_text16_codes.proofs.Words.{Operand, a_low, a_register}

-- numbers are few digits
shift_small : (name : ShiftName) (i : ℕ) → i < 32 → shift_amount name i < 10000
shift_small shift.Lsl i lt = omega arith
shift_small shift.Lsr i lt = ltb-true _ _ (below_holds (λ j. ltb (shift_amount shift.Lsr j) 10000) 32 i refl lt)
shift_small shift.Asr i lt = ltb-true _ _ (below_holds (λ j. ltb (shift_amount shift.Asr j) 10000) 32 i refl lt)

few : (n i : ℕ) → i < n → n < 10000 → i < 10000
few n i lt small = omega arith

few_words : (n i : ℕ) → i < n → n < 2500 → 4 * i < 10000
few_words n i lt small = omega arith

offset_fits : (name : PlainName) (i : ℕ) → i < 32 → access_size (plain_access name) * i < 10000
offset_fits name i lt = grind arith

base_below : (name : BaseName) → base_register name < 16
base_below name = grind arith

the_i : Operand (codes "i") 0
unfolding narrow_word_value
the_i = record { value = refl; is = refl }

low : (n : ℕ) → n < 8 → n < 16
low n lt = omega arith

pub row_law : (r : NarrowRow) → RowLaw r
row_law (narrow.S1 i) =
    plain_row (narrow.S1 i) _ refl (λ t. refl)
    (reads_two_constant _ _ _ _ _ _ (grind arith) (a_low i.d.value i.d.in_range) (a_low i.m.value i.m.in_range) (shift_small i.name i.i.value i.i.in_range))
row_law (narrow.S2 i) =
    plain_row (narrow.S2 i) _ refl (λ t. refl)
    (reads_three _ _ _ _ _ _ _ (grind arith) (a_low i.d.value i.d.in_range) (a_low i.n.value i.n.in_range) (a_low i.m.value i.m.in_range))
row_law (narrow.S3 i) =
    plain_row (narrow.S3 i) _ refl (λ t. refl)
    (reads_two_constant _ _ _ _ _ _ (grind arith) (a_low i.d.value i.d.in_range) (a_low i.n.value i.n.in_range)
    (few 8 i.i.value i.i.in_range (omega arith)))
row_law (narrow.S4 i) =
    plain_row (narrow.S4 i) _ refl (λ t. refl)
    (reads_one_constant _ _ _ _ (grind arith) (a_low i.d.value i.d.in_range) (few 256 i.i.value i.i.in_range (omega arith)))
row_law (narrow.S5 i) =
    plain_row (narrow.S5 i) _ refl (λ t. refl) (reads_two _ _ _ _ _ (grind arith) (a_low i.d.value i.d.in_range) (a_low i.m.value i.m.in_range))
row_law (narrow.S6 i) =
    plain_row (narrow.S6 i) _ refl (λ t. refl)
    (reads_two (codes "add") _ _ _ _ refl (a_register i.d.value i.d.in_range) (a_register i.m.value i.m.in_range))
row_law (narrow.S7 i) =
    plain_row (narrow.S7 i) _ refl (λ t. refl)
    (reads_two (codes "cmp") _ _ _ _ refl (a_register i.d.value i.d.in_range) (a_register i.m.value i.m.in_range))
row_law (narrow.S8 i) =
    plain_row (narrow.S8 i) _ refl (λ t. refl)
    (reads_two (codes "mov") _ _ _ _ refl (a_register i.d.value i.d.in_range) (a_register i.m.value i.m.in_range))
row_law (narrow.S9 i) =
    plain_row (narrow.S9 i) _ refl (λ t. refl)
    (reads_two_constant (codes "add") _ _ _ _ _ refl (a_low i.d.value i.d.in_range) (a_register (base_register i.name) (base_below i.name))
    (few_words 256 i.i.value i.i.in_range (omega arith)))
row_law (narrow.S10 i) =
    plain_row (narrow.S10 i) _ refl (λ t. refl)
    (reads_one_constant _ _ _ _ (grind arith) (a_register 13 (omega arith)) (few_words 128 i.i.value i.i.in_range (omega arith)))
row_law (narrow.S11 i) =
    plain_row (narrow.S11 i) _ refl (λ t. refl) (reads_two _ _ _ _ _ (grind arith) (a_low i.d.value i.d.in_range) (a_low i.m.value i.m.in_range))
row_law (narrow.S12 i) =
    plain_row (narrow.S12 i) _ refl (λ t. refl) (reads_two _ _ _ _ _ (grind arith) (a_low i.d.value i.d.in_range) (a_low i.m.value i.m.in_range))
row_law (narrow.S13 i) = plain_row (narrow.S13 i) _ refl (λ t. refl) (reads_one _ _ _ (grind arith) the_i)
row_law (narrow.S14 i) = label_row (narrow.S14 i) refl (reads_register_label (codes "ldr") _ _ refl (a_low i.t.value i.t.in_range))
row_law (narrow.S15 i) =
    plain_row (narrow.S15 i) _ refl (λ t. refl)
    (reads_by_register _ _ _ _ (grind arith) (low i.t.value i.t.in_range) (low i.n.value i.n.in_range) (low i.m.value i.m.in_range))
row_law (narrow.S16 i) =
    plain_row (narrow.S16 i) _ refl (λ t. refl)
    (reads_by_number _ _ _ _ (grind arith) (low i.t.value i.t.in_range) (low i.n.value i.n.in_range) (offset_fits i.name i.i.value i.i.in_range))
row_law (narrow.S17 i) =
    plain_row (narrow.S17 i) _ refl (λ t. refl)
    (reads_by_number _ _ _ _ (grind arith) (low i.t.value i.t.in_range) (omega arith) (few_words 256 i.i.value i.i.in_range (omega arith)))
row_law (narrow.S18 i) =
    plain_row (narrow.S18 i) _ refl (λ t. refl) (reads_constant (codes "bkpt") _ refl (few 256 i.i.value i.i.in_range (omega arith)))
row_law (narrow.S19 i) = plain_row (narrow.S19 i) _ refl (λ t. refl) (reads_none _ (grind arith))
row_law (narrow.S20 i) = row_s20 i
row_law (narrow.S21 i) = row_s21 i
row_law (narrow.S23 i) = plain_row (narrow.S23 i) _ refl (λ t. refl) (reads_one _ _ _ (grind arith) (a_register i.m.value i.m.in_range))
row_law (narrow.S24 i) = label_row (narrow.S24 i) refl (reads_register_label _ _ _ (grind arith) (a_low i.n.value i.n.in_range))
row_law (narrow.S25 (s25.Conditional i)) = label_row (narrow.S25 (s25.Conditional i)) refl (reads_label _ (mnemonic_branch i.c.value i.c.in_range))
row_law (narrow.S25 (s25.Always i)) = label_row (narrow.S25 (s25.Always i)) refl (reads_label (codes "b") refl)
