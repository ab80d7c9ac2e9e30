-- Shifts, products, quotients and choices, T8 to T11 and T20: their texts give their mnemonics and their operands.
use Rattle.std.proofs.Common.{arith}
use Rattle.hm_isa.specs.declared.arith.Accumulate.{Accumulate}
use Rattle.hm_isa.specs.declared.arith.BitsName.{BitsName}
use Rattle.hm_isa.specs.declared.arith.LongProduct.{LongProduct}
use Rattle.hm_isa.specs.declared.arith.Operation.{Operation}
use Rattle.hm_isa.specs.declared.arith.T8.{T8}
use Rattle.hm_isa.specs.declared.arith.T9.{T9}
use Rattle.hm_isa.specs.declared.arith.T10.{T10}
use Rattle.hm_isa.specs.declared.arith.T20.{T20}
use Rattle.hm_isa.specs.declared.arith.T11.TheVariants as t11
use Rattle.hm_isa.specs.declared.widths.WideRow.TheVariants as rows
use Rattle.hm_text_rows.specs.Operands.{size_of}
use Rattle.hm_text32_rows.specs.Mnemonics.{bits_suffix}
use Rattle.hm_text32_codes.proofs.Asked.{RowReads}
use Rattle.hm_text32_codes.proofs.Forms.{Suffix, a_condition, a_kind, a_register, a_register_or_zero, bare, no_suffix, reads_four, reads_three}
use Rattle.hm_text32_codes.proofs.Forms.{reads_two, reads_two_shift, suffix_wide}

-- T8
pub row_t8 : (i : T8) → RowReads (rows.T8 i)
row_t8 i =
    reads_three _ _ _ _ _ _ _ _ _ _ _ _ (let lt = i.s.in_range in grind arith) suffix_wide (a_register i.d.value i.d.in_range)
    (a_register i.n.value i.n.in_range) (a_register i.m.value i.m.in_range)

-- T9
pub row_t9 : (i : T9) → RowReads (rows.T9 i)
row_t9 i =
    reads_two_shift _ _ _ _ _ _ _ _ _ _ _ _ _ (grind arith) suffix_wide (a_register i.d.value i.d.in_range) (a_register i.m.value i.m.in_range)
    (a_kind 3 (omega arith))
    (let lt = i.r.in_range in omega arith)

-- T10
suffix_bits : (name : BitsName) → Suffix (bits_suffix name) 0
unfolding size_of
suffix_bits name = grind arith

pub row_t10 : (i : T10) → RowReads (rows.T10 i)
row_t10 i =
    reads_two _ _ _ _ _ _ _ _ _ (grind arith) (suffix_bits i.name) (a_register i.d.value i.d.in_range) (a_register i.m.value i.m.in_range)

-- T11
pub row_operation : (i : Operation) → RowReads (rows.T11 (t11.Operation i))
row_operation i =
    bare _ _ _
    (reads_three _ _ _ _ _ _ _ _ _ _ _ _ (grind arith) no_suffix (a_register i.d.value i.d.in_range) (a_register i.n.value i.n.in_range)
    (a_register i.m.value i.m.in_range))

pub row_accumulate : (i : Accumulate) → RowReads (rows.T11 (t11.Accumulate i))
row_accumulate i =
    bare _ _ _
    (reads_four _ _ _ _ _ _ _ _ _ _ _ _ _ _ _ (grind arith) no_suffix (a_register i.d.value i.d.in_range) (a_register i.n.value i.n.in_range)
    (a_register i.m.value i.m.in_range) (a_register i.a.value i.a.in_range))

pub row_long : (i : LongProduct) → RowReads (rows.T11 (t11.Long i))
row_long i =
    bare _ _ _
    (reads_four _ _ _ _ _ _ _ _ _ _ _ _ _ _ _ (grind arith) no_suffix (a_register i.l.value i.l.in_range) (a_register i.h.value i.h.in_range)
    (a_register i.n.value i.n.in_range) (a_register i.m.value i.m.in_range))

-- T20
pub row_t20 : (i : T20) → RowReads (rows.T20 i)
row_t20 i =
    bare _ _ _
    (reads_four _ _ _ _ _ _ _ _ _ _ _ _ _ _ _ (grind arith) no_suffix (a_register i.d.value i.d.in_range) (a_register_or_zero i.n.value i.n.in_range)
    (a_register_or_zero i.m.value i.m.in_range) (a_condition i.c.value i.c.in_range))
