-- What shifts, products, quotients and choices of 32-bit codes do.
use Rattle.std.specs.Prelude.{ℕ, ◌+◌, ◌-◌, ◌*◌, ◌/◌, ◌%◌, ◌^◌, cond, nat_eq, if◌then◌else◌}
use Rattle.std.proofs.Math.Bool.{beq}
use Rattle.std.specs.Int.{w32, reverse_bits, leading_zeros}
use Rattle.hm_isa.specs.declared.narrow.SwapName.TheVariants as swap_
use Rattle.hm_isa.specs.declared.arith.WideShiftName.{WideShiftName}
use Rattle.hm_isa.specs.declared.arith.WideShiftName.TheVariants as wide_shift
use Rattle.hm_isa.specs.declared.arith.BitsName.{BitsName}
use Rattle.hm_isa.specs.declared.arith.BitsName.TheVariants as bits
use Rattle.hm_isa.specs.declared.arith.OperationName.{OperationName}
use Rattle.hm_isa.specs.declared.arith.OperationName.TheVariants as operation
use Rattle.hm_isa.specs.declared.arith.AccumulateName.{AccumulateName}
use Rattle.hm_isa.specs.declared.arith.AccumulateName.TheVariants as accumulate
use Rattle.hm_isa.specs.declared.arith.LongProductName.{LongProductName}
use Rattle.hm_isa.specs.declared.arith.LongProductName.TheVariants as long
use Rattle.hm_isa.specs.declared.arith.SelectName.{SelectName}
use Rattle.hm_isa.specs.declared.arith.SelectName.TheVariants as select
use Rattle.hm_isa.specs.declared.arith.T8.{T8}
use Rattle.hm_isa.specs.declared.arith.T9.{T9}
use Rattle.hm_isa.specs.declared.arith.T10.{T10}
use Rattle.hm_isa.specs.declared.arith.Operation.{Operation}
use Rattle.hm_isa.specs.declared.arith.Accumulate.{Accumulate}
use Rattle.hm_isa.specs.declared.arith.LongProduct.{LongProduct}
use Rattle.hm_isa.specs.declared.arith.T11.{T11}
use Rattle.hm_isa.specs.declared.arith.T11.TheVariants as t11_
use Rattle.hm_isa.specs.declared.arith.T20.{T20}
use Rattle.hm_regs.specs.declared.Regs.{Regs}
use Rattle.hm_isa.specs.Words.{negative, rotated, shift_c, sign_extended_64}
use Rattle.hm_thumb.specs.Arithmetic.{inverted}
use Rattle.hm_thumb.specs.Blocks.{condition_holds}
use Rattle.hm_thumb.specs.RegisterRows.{extended_by, put, reg, reg_or_zero, swapped, with_nzc}
use Rattle.hm_isa.specs.declared.words.Shifted.{Shifted}
use Rattle.hm_isa.specs.declared.words.ShiftType.{ShiftType}
use Rattle.hm_isa.specs.declared.words.ShiftType.TheVariants as type

-- T8: the type of shift of LSL, LSR, ASR and ROR (DDI0553, "LSL (register)", "LSR (register)", "ASR (register)" and "ROR (register)")
abbrev pub wide_shift_of : WideShiftName → ShiftType
wide_shift_of wide_shift.Lsl = type.Lsl
wide_shift_of wide_shift.Lsr = type.Lsr
wide_shift_of wide_shift.Asr = type.Asr
wide_shift_of wide_shift.Ror = type.Ror

-- T8: register d gets what LSL, LSR, ASR and ROR shifted, and the flags N, Z and C tell it where s is 1, in an IT block too
-- (DDI0553, "LSL (register)", "LSR (register)", "ASR (register)" and "ROR (register)")
abbrev pub put_told : ℕ → ℕ → Shifted → Regs → Regs
put_told s d x r = let t = put d x.result r in cond (nat_eq s 1) (with_nzc x t) t

-- T8: LSL, LSR, ASR and ROR by a register (DDI0553, "LSL (register)", "LSR (register)", "ASR (register)" and "ROR (register)")
abbrev pub t8 : T8 → Regs → Regs
t8 i r = put_told i.s.value i.d.value (shift_c (wide_shift_of i.name) (reg i.n.value r) (reg i.m.value r % 256) r.c) r

-- T9: SXTH, UXTH, SXTB and UXTB of a register rotated by whole bytes (DDI0553, "SXTH", "UXTH", "SXTB" and "UXTB", encodings T2)
abbrev pub t9 : T9 → Regs → Regs
t9 i r = put i.d.value (extended_by i.name (rotated (reg i.m.value r) (8 * i.r.value))) r

-- T10: what REV, REV16, RBIT, REVSH and CLZ make of a word (DDI0553, "REV", "REV16", "RBIT", "REVSH" and "CLZ")
abbrev pub bits_of : BitsName → ℕ → ℕ
bits_of bits.Rev x = swapped swap_.Rev x
bits_of bits.Rev16 x = swapped swap_.Rev16 x
bits_of bits.Rbit x = reverse_bits w32 x
bits_of bits.Revsh x = swapped swap_.Revsh x
bits_of bits.Clz x = leading_zeros w32 x

-- T10: REV, REV16, RBIT, REVSH and CLZ (DDI0553, "REV", "REV16", "RBIT", "REVSH" and "CLZ")
abbrev pub t10 : T10 → Regs → Regs
t10 i r = put i.d.value (bits_of i.name (reg i.m.value r)) r

-- -x as a word
abbrev pub negated : ℕ → ℕ
negated x = (2 ^ 32 - x) % 2 ^ 32

-- the magnitude of a word as a number with its sign
abbrev pub magnitude : ℕ → ℕ
magnitude x = if negative x then 2 ^ 32 - x else x

-- T11: the quotient of SDIV, of numbers with their signs, rounded towards 0, of which -2 ^ 31 by -1 gives -2 ^ 31 (DDI0553, "SDIV")
abbrev pub signed_quotient : ℕ → ℕ → ℕ
signed_quotient x y =
    let q = magnitude x / magnitude y in if beq (negative x) (negative y) then q else negated q

-- T11: the product of MUL and the quotients of SDIV and UDIV, of which one by 0 is 0 (DDI0553, "MUL", "SDIV" and "UDIV")
abbrev pub operated : OperationName → ℕ → ℕ → ℕ
operated operation.Mul x y = x * y % 2 ^ 32
operated operation.Sdiv x y = if nat_eq y 0 then 0 else signed_quotient x y
operated operation.Udiv x y = if nat_eq y 0 then 0 else x / y

-- T11: MUL, SDIV and UDIV (DDI0553, "MUL", encoding T2, "SDIV" and "UDIV")
abbrev pub operation_row : Operation → Regs → Regs
operation_row i r = put i.d.value (operated i.name (reg i.n.value r) (reg i.m.value r)) r

-- T11: a product added to a number by MLA, or taken from it by MLS, modulo 2 ^ 32 (DDI0553, "MLA" and "MLS")
abbrev pub accumulated : AccumulateName → ℕ → ℕ → ℕ
accumulated accumulate.Mla a x = (a + x) % 2 ^ 32
accumulated accumulate.Mls a x = (a + negated x) % 2 ^ 32

-- T11: MLA and MLS (DDI0553, "MLA" and "MLS")
abbrev pub accumulate_row : Accumulate → Regs → Regs
accumulate_row i r =
    put i.d.value (accumulated i.name (reg i.a.value r) (reg i.n.value r * reg i.m.value r % 2 ^ 32)) r

-- T11: the product of SMULL and SMLAL, of numbers with their signs, modulo 2 ^ 64 (DDI0553, "SMULL" and "SMLAL")
abbrev pub signed_product : ℕ → ℕ → ℕ
signed_product x y = sign_extended_64 x * sign_extended_64 y % 2 ^ 64

-- T11: the product of SMULL and UMULL of 64 bits, and added by SMLAL and UMLAL (DDI0553, "SMULL", "UMULL", "SMLAL" and "UMLAL")
abbrev pub long_result : LongProductName → ℕ → ℕ → ℕ → ℕ
long_result long.Smull old x y = signed_product x y
long_result long.Umull old x y = x * y
long_result long.Smlal old x y = (old + signed_product x y) % 2 ^ 64
long_result long.Umlal old x y = (old + x * y) % 2 ^ 64

-- T11: the low word of what SMULL, UMULL, SMLAL and UMLAL give into register l, and the high one into register h
-- (DDI0553, "SMULL", "UMULL", "SMLAL" and "UMLAL")
abbrev pub put_long : ℕ → ℕ → ℕ → Regs → Regs
put_long l h x r = put h (x / 2 ^ 32) (put l (x % 2 ^ 32) r)

-- T11: SMULL, UMULL, SMLAL and UMLAL (DDI0553, "SMULL", "UMULL", "SMLAL" and "UMLAL")
abbrev pub long_row : LongProduct → Regs → Regs
long_row i r =
    let old = reg i.h.value r * 2 ^ 32 + reg i.l.value r in
    put_long i.l.value i.h.value (long_result i.name old (reg i.n.value r) (reg i.m.value r)) r

-- T11: MUL, SDIV, UDIV, MLA, MLS, SMULL, UMULL, SMLAL and UMLAL (DDI0553, "MUL", "MLA", "MLS", "SMULL", "UMULL", "SMLAL", "UMLAL", "SDIV" and "UDIV")
abbrev pub t11 : T11 → Regs → Regs
t11 (t11_.Operation i) r = operation_row i r
t11 (t11_.Accumulate i) r = accumulate_row i r
t11 (t11_.Long i) r = long_row i r

-- T20: what CSEL, CSINC, CSINV, CSNEG give of the second operand where the condition does not hold (DDI0553, "CSEL", "CSINC", "CSINV" and "CSNEG")
abbrev pub otherwise : SelectName → ℕ → ℕ
otherwise select.Csel y = y
otherwise select.Csinc y = (y + 1) % 2 ^ 32
otherwise select.Csinv y = inverted y
otherwise select.Csneg y = negated y

-- T20: CSEL, CSINC, CSINV and CSNEG (DDI0553, "CSEL", "CSINC", "CSINV" and "CSNEG")
abbrev pub t20 : T20 → Regs → Regs
t20 i r = put i.d.value (cond (condition_holds i.c.value r) (reg_or_zero i.n.value r) (otherwise i.name (reg_or_zero i.m.value r))) r
