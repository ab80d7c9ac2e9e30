-- Rows of a register and numbers, T3 to T7: their texts give their mnemonics and their operands.
use Rattle.std.proofs.Common.{ℕ, ◌+◌, ◌-◌, ◌*◌, ◌<◌, ◌^◌, cond, eqb, List, refl, inl, inr, arith}
use Rattle.std.specs.Prelude.{codes, nat_eq}
use Rattle.std.proofs.lemmas.Bool.{cases_Bool}
use Rattle.hm_isa.specs.declared.data.SaturateName.{SaturateName}
use Rattle.hm_isa.specs.declared.data.T3.{T3}
use Rattle.hm_isa.specs.declared.data.T4.{T4}
use Rattle.hm_isa.specs.declared.data.T5.{T5}
use Rattle.hm_isa.specs.declared.data.T6.{T6}
use Rattle.hm_isa.specs.declared.data.T7.{T7}
use Rattle.hm_isa.specs.declared.widths.WideRow.TheVariants as rows
use Rattle.hm_isa.specs.Words.{imm12, imm16, imm5}
use Rattle.hm_tokens.specs.Tokens.{Tok}
use Rattle.hm_text_rows.specs.Shapes.{and_constant, one, r, two}
use Rattle.hm_text32_rows.specs.Rows.{saturated_bits}
use Rattle.hm_text32_codes.specs.Asked.{insert_operands}
use Rattle.hm_text32_codes.proofs.Asked.{RowReads}
use Rattle.hm_text32_codes.proofs.Inverses.{five_below}
use Rattle.hm_text32_codes.proofs.Forms.{Reads, a_kind, a_register, bare, no_suffix, reads_one_constant, reads_one_constants, reads_saturate}
use Rattle.hm_text32_codes.proofs.Forms.{reads_two_constant, reads_two_constants}

-- T3
pub row_t3 : (i : T3) → RowReads (rows.T3 i)
row_t3 i =
    let small : imm12 i.i.value i.i3.value i.i8.value < 2 ^ 32 = let x = i.i.in_range in let y = i.i3.in_range in let z = i.i8.in_range in omega arith in
    bare _ _ _
    (reads_two_constant _ _ _ _ _ _ _ _ _ _ (grind arith) no_suffix (a_register i.d.value i.d.in_range) (a_register i.n.value i.n.in_range) small)

-- T4
sixteen_small : (h i j l : ℕ) → h < 16 → i < 2 → j < 8 → l < 256 → imm16 h i j l < 2 ^ 32
sixteen_small h i j l hh hi hj hl = omega arith

pub row_t4 : (i : T4) → RowReads (rows.T4 i)
row_t4 i =
    bare _ _ _
    (reads_one_constant _ _ _ _ _ _ _ (grind arith) no_suffix (a_register i.d.value i.d.in_range)
    (sixteen_small i.i4.value i.i.value i.i3.value i.i8.value i.i4.in_range i.i.in_range i.i3.in_range i.i8.in_range))

-- T5
five_small : (j l : ℕ) → j < 8 → l < 4 → imm5 j l < 2 ^ 32
five_small j l hj hl = omega arith

bits_small : (name : SaturateName) (s : ℕ) → s < 32 → saturated_bits name s < 2 ^ 32
bits_small name s lt = grind arith

pub row_t5 : (i : T5) → RowReads (rows.T5 i)
row_t5 i =
    bare _ _ _
    (reads_saturate _ _ _ _ _ _ _ _ _ _ _ _ _ _ (grind arith) no_suffix (a_register i.d.value i.d.in_range) (bits_small i.name i.s.value i.s.in_range)
    (a_register i.n.value i.n.in_range) (let lt = i.sh.in_range in a_kind (2 * i.sh.value) (omega arith))
    (five_small i.i3.value i.i2.value i.i3.in_range i.i2.in_range))

-- T6
pub row_t6 : (i : T6) → RowReads (rows.T6 i)
row_t6 i =
    bare _ _ _
    (reads_two_constants _ _ _ _ _ _ _ _ _ _ _ (grind arith) no_suffix (a_register i.d.value i.d.in_range) (a_register i.n.value i.n.in_range)
    (five_small i.i3.value i.i2.value i.i3.in_range i.i2.in_range) (let lt = i.w.in_range in omega arith))

-- T7
abbrev inserted : ℕ → ℕ → ℕ → ℕ → List Tok
inserted n d x y = and_constant (and_constant (cond (nat_eq n 15) (one (codes "bfc") (r d)) (two (codes "bfi") (r d) (r n))) x) y

insert_reads : (n d x e : ℕ) → n < 16 → d < 16 → x < 32 → e < 32
    → Reads (inserted n d x (e + 1 - x)) (cond (nat_eq n 15) (codes "bfc") (codes "bfi")) (insert_operands n d x e)
insert_reads n d x e hn hd hx he =
    elim (cases_Bool (eqb n 15)) [
      | inl none ↦ rw none (reads_one_constants (codes "bfc") _ _ _ _ _ _ _ refl no_suffix (a_register d hd) (omega arith) (omega arith))
      | inr some ↦ rw some
          (reads_two_constants (codes "bfi") _ _ _ _ _ _ _ _ _ _ refl no_suffix (a_register d hd) (a_register n hn) (omega arith) (omega arith))
    ]

pub row_t7 : (i : T7) → RowReads (rows.T7 i)
row_t7 i =
    insert_reads i.n.value i.d.value (imm5 i.i3.value i.i2.value) i.e.value i.n.in_range i.d.in_range
    (five_below i.i3.value i.i2.value i.i3.in_range i.i2.in_range) i.e.in_range
