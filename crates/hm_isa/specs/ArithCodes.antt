-- What shifts, products, quotients and choices of 32-bit codes are coded as.
use Rattle.std.specs.Prelude.{ℕ, ◌+◌}
use Rattle.hm_isa.specs.declared.narrow.ExtendName.{ExtendName}
use Rattle.hm_isa.specs.declared.narrow.ExtendName.TheVariants as extend
use Rattle.hm_isa.specs.declared.arith.WideShiftName.{WideShiftName}
use Rattle.hm_isa.specs.declared.arith.WideShiftName.TheVariants as wide_shift
use Rattle.hm_isa.specs.declared.arith.T8.{T8}
use Rattle.hm_isa.specs.declared.arith.T9.{T9}
use Rattle.hm_isa.specs.declared.arith.BitsName.{BitsName}
use Rattle.hm_isa.specs.declared.arith.BitsName.TheVariants as bits
use Rattle.hm_isa.specs.declared.arith.T10.{T10}
use Rattle.hm_isa.specs.declared.arith.OperationName.{OperationName}
use Rattle.hm_isa.specs.declared.arith.OperationName.TheVariants as operation
use Rattle.hm_isa.specs.declared.arith.Operation.{Operation}
use Rattle.hm_isa.specs.declared.arith.AccumulateName.{AccumulateName}
use Rattle.hm_isa.specs.declared.arith.AccumulateName.TheVariants as accumulate
use Rattle.hm_isa.specs.declared.arith.Accumulate.{Accumulate}
use Rattle.hm_isa.specs.declared.arith.LongProductName.{LongProductName}
use Rattle.hm_isa.specs.declared.arith.LongProductName.TheVariants as long
use Rattle.hm_isa.specs.declared.arith.LongProduct.{LongProduct}
use Rattle.hm_isa.specs.declared.arith.T11.{T11}
use Rattle.hm_isa.specs.declared.arith.T11.TheVariants as t11
use Rattle.hm_isa.specs.declared.arith.SelectName.{SelectName}
use Rattle.hm_isa.specs.declared.arith.SelectName.TheVariants as select
use Rattle.hm_isa.specs.declared.arith.T20.{T20}
use Rattle.hm_isa.specs.Standing.{◌↑◌}

-- T8: the code of LSL, LSR, ASR and ROR, registers and flag bit 0 (DDI0553, "LSL (register)", "LSR (register)", "ASR (register)" and "ROR (register)")
abbrev pub wide_shift_base : WideShiftName → ℕ
wide_shift_base wide_shift.Lsl = 0xfa00f000
wide_shift_base wide_shift.Lsr = 0xfa20f000
wide_shift_base wide_shift.Asr = 0xfa40f000
wide_shift_base wide_shift.Ror = 0xfa60f000

-- T8: LSL, LSR, ASR and ROR by a register (DDI0553, "LSL (register)", "LSR (register)", "ASR (register)" and "ROR (register)")
abbrev pub code_t8 : T8 → ℕ
code_t8 r = wide_shift_base r.name + r.s.value ↑ 20 + r.n.value ↑ 16 + r.d.value ↑ 8 + r.m.value

-- T9: the code of SXTH, UXTH, SXTB and UXTB, their registers and rotation 0 (DDI0553, "SXTH", "UXTH", "SXTB" and "UXTB")
abbrev pub wide_extend_base : ExtendName → ℕ
wide_extend_base extend.Sxth = 0xfa0ff080
wide_extend_base extend.Uxth = 0xfa1ff080
wide_extend_base extend.Sxtb = 0xfa4ff080
wide_extend_base extend.Uxtb = 0xfa5ff080

-- T9: SXTH, UXTH, SXTB and UXTB of a rotated register (DDI0553, "SXTH", "UXTH", "SXTB" and "UXTB")
abbrev pub code_t9 : T9 → ℕ
code_t9 r = wide_extend_base r.name + r.d.value ↑ 8 + r.r.value ↑ 4 + r.m.value

-- T10: the code of REV, REV16, RBIT, REVSH and CLZ, their registers 0 (DDI0553, "REV", "REV16", "RBIT", "REVSH" and "CLZ")
abbrev pub bits_base : BitsName → ℕ
bits_base bits.Rev = 0xfa90f080
bits_base bits.Rev16 = 0xfa90f090
bits_base bits.Rbit = 0xfa90f0a0
bits_base bits.Revsh = 0xfa90f0b0
bits_base bits.Clz = 0xfab0f080

-- T10: REV, REV16, RBIT, REVSH and CLZ, whose operand stands there twice (DDI0553, "REV", "REV16", "RBIT", "REVSH" and "CLZ")
abbrev pub code_t10 : T10 → ℕ
code_t10 r = bits_base r.name + r.m.value ↑ 16 + r.d.value ↑ 8 + r.m.value

-- T11: the code of MUL, SDIV and UDIV, their registers 0 (DDI0553, "MUL", "SDIV" and "UDIV")
abbrev pub operation_base : OperationName → ℕ
operation_base operation.Mul = 0xfb00f000
operation_base operation.Sdiv = 0xfb90f0f0
operation_base operation.Udiv = 0xfbb0f0f0

-- T11: MUL, SDIV and UDIV (DDI0553, "MUL", "SDIV" and "UDIV")
abbrev pub code_operation : Operation → ℕ
code_operation r = operation_base r.name + r.n.value ↑ 16 + r.d.value ↑ 8 + r.m.value

-- T11: the code of MLA and MLS, their registers 0 (DDI0553, "MLA" and "MLS")
abbrev pub accumulate_base : AccumulateName → ℕ
accumulate_base accumulate.Mla = 0xfb000000
accumulate_base accumulate.Mls = 0xfb000010

-- T11: MLA and MLS (DDI0553, "MLA" and "MLS")
abbrev pub code_accumulate : Accumulate → ℕ
code_accumulate r = accumulate_base r.name + r.n.value ↑ 16 + r.a.value ↑ 12 + r.d.value ↑ 8 + r.m.value

-- T11: the code of SMULL, UMULL, SMLAL and UMLAL, their registers 0 (DDI0553, "SMULL", "UMULL", "SMLAL" and "UMLAL")
abbrev pub long_product_base : LongProductName → ℕ
long_product_base long.Smull = 0xfb800000
long_product_base long.Umull = 0xfba00000
long_product_base long.Smlal = 0xfbc00000
long_product_base long.Umlal = 0xfbe00000

-- T11: SMULL, UMULL, SMLAL and UMLAL (DDI0553, "SMULL", "UMULL", "SMLAL" and "UMLAL")
abbrev pub code_long_product : LongProduct → ℕ
code_long_product r = long_product_base r.name + r.n.value ↑ 16 + r.l.value ↑ 12 + r.h.value ↑ 8 + r.m.value

-- T11: MUL, SDIV, UDIV, MLA, MLS, SMULL, UMULL, SMLAL and UMLAL
-- (DDI0553, "MUL", "MLA", "MLS", "SMULL", "UMULL", "SMLAL", "UMLAL", "SDIV" and "UDIV")
abbrev pub code_t11 : T11 → ℕ
code_t11 (t11.Operation r) = code_operation r
code_t11 (t11.Accumulate r) = code_accumulate r
code_t11 (t11.Long r) = code_long_product r

-- T20: the code of CSEL, CSINC, CSINV and CSNEG, their registers and condition 0 (DDI0553, "CSEL", "CSINC", "CSINV" and "CSNEG")
abbrev pub select_base : SelectName → ℕ
select_base select.Csel = 0xea508000
select_base select.Csinc = 0xea509000
select_base select.Csinv = 0xea50a000
select_base select.Csneg = 0xea50b000

-- T20: CSEL, CSINC, CSINV and CSNEG (DDI0553, "CSEL", "CSINC", "CSINV" and "CSNEG")
abbrev pub code_t20 : T20 → ℕ
code_t20 r = select_base r.name + r.n.value ↑ 16 + r.d.value ↑ 8 + r.c.value ↑ 4 + r.m.value
