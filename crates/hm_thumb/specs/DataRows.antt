-- What the rows T1 to T7 do.
use Rattle.std.specs.Prelude.{ℕ, ◌+◌, ◌-◌, ◌*◌, ◌/◌, ◌%◌, ◌^◌, Bool, true, false, cond, not, ◌||◌, nat_eq, min, max, bit_and, bit_or, bit_xor, if◌then◌else◌}
use Rattle.hm_base.specs.Bits.{field, put_field}
use Rattle.hm_isa.specs.declared.data.DataName.{DataName}
use Rattle.hm_isa.specs.declared.data.DataName.TheVariants as data_
use Rattle.hm_isa.specs.declared.data.HalfName.{HalfName}
use Rattle.hm_isa.specs.declared.data.HalfName.TheVariants as half
use Rattle.hm_isa.specs.declared.data.SaturateName.{SaturateName}
use Rattle.hm_isa.specs.declared.data.SaturateName.TheVariants as saturate
use Rattle.hm_isa.specs.declared.data.ExtractName.{ExtractName}
use Rattle.hm_isa.specs.declared.data.ExtractName.TheVariants as bits
use Rattle.hm_isa.specs.declared.data.T1.{T1}
use Rattle.hm_isa.specs.declared.data.T2.{T2}
use Rattle.hm_isa.specs.declared.data.T3.{T3}
use Rattle.hm_isa.specs.declared.data.T4.{T4}
use Rattle.hm_isa.specs.declared.data.T5.{T5}
use Rattle.hm_isa.specs.declared.data.T6.{T6}
use Rattle.hm_isa.specs.declared.data.T7.{T7}
use Rattle.hm_regs.specs.declared.Regs.{Regs}
use Rattle.hm_isa.specs.Words.{bit_is_set, expand_imm_c, imm12, imm16, imm5, is_by_carry, negative, shift_c, shift_number, shift_type, sign_extended}
use Rattle.hm_thumb.specs.Arithmetic.{inverted, add_with_carry}
use Rattle.hm_thumb.specs.RegisterRows.{reg, reg_or_zero, base_of, put, with_nzc, with_nzcv, sum_of}
use Rattle.hm_thumb.specs.declared.arithmetic.Sum.{Sum}
use Rattle.hm_isa.specs.declared.words.Shifted.{Shifted}

-- THE SECOND OPERAND
-- RRX_C(x, carry): a shift to the right by one, with the carry above and the bit that goes out (DDI0553, "RRX_C")
abbrev pub rrx_c : ℕ → Bool → Shifted
rrx_c x carry = record { result = x / 2 + cond carry (2 ^ 31) 0; carry = bit_is_set x 0 }

-- Shift_C(x, type, n, carry) with the type and the number of DecodeImmShift(ty, k) (DDI0553, "Shift_C" and "DecodeImmShift")
abbrev pub imm_shift_c : ℕ → ℕ → ℕ → Bool → Shifted
imm_shift_c ty k x carry = if is_by_carry ty k then rrx_c x carry else shift_c (shift_type ty) x (shift_number ty k) carry

-- THE ROWS
-- register d gets a result; 15 stands for no register
abbrev pub put_if : ℕ → ℕ → Regs → Regs
put_if d x r = cond (nat_eq d 15) r (put d x r)

-- register d, if there is one, gets the result of a logical operation; with s the flags N, Z and C tell it, in an IT block too
abbrev pub put_logical : ℕ → ℕ → ℕ → Bool → Regs → Regs
put_logical s d x carry r = let t = put_if d x r in cond (nat_eq s 1) (with_nzc (record { result = x; carry = carry }) t) t

-- register d, if there is one, gets a sum; with s the flags N, Z, C and V tell it, in an IT block too
abbrev pub put_data_sum : ℕ → ℕ → Sum → Regs → Regs
put_data_sum s d x r = let t = put_if d x.result r in cond (nat_eq s 1) (with_nzcv x t) t

-- T1 and T2: AND and TST, BIC, ORR and MOV, ORN and MVN, EOR and TEQ, ADD and CMN, ADC, SBC, SUB and CMP, and RSB, with s, d, the first operand and
-- the second, whose carry is what C gets of logical operations; LSL, LSR, ASR, ROR and RRX of T2 are MOV of what is shifted
-- (DDI0553, "Data-processing (modified immediate)" and "Data-processing (shifted register)")
abbrev pub data_row : DataName → ℕ → ℕ → ℕ → Shifted → Regs → Regs
data_row data_.And s d x y r = put_logical s d (bit_and x y.result) y.carry r
data_row data_.Bic s d x y r = put_logical s d (bit_and x (inverted y.result)) y.carry r
data_row data_.Orr s d x y r = put_logical s d (bit_or x y.result) y.carry r
data_row data_.Orn s d x y r = put_logical s d (bit_or x (inverted y.result)) y.carry r
data_row data_.Eor s d x y r = put_logical s d (bit_xor x y.result) y.carry r
data_row data_.Add s d x y r = put_data_sum s d (add_with_carry x y.result false) r
data_row data_.Adc s d x y r = put_data_sum s d (add_with_carry x y.result r.c) r
data_row data_.Sbc s d x y r = put_data_sum s d (add_with_carry x (inverted y.result) r.c) r
data_row data_.Sub s d x y r = put_data_sum s d (add_with_carry x (inverted y.result) true) r
data_row data_.Rsb s d x y r = put_data_sum s d (add_with_carry (inverted x) y.result true) r

-- T1: AND, BIC, ORR, ORN, EOR, ADD, ADC, SBC, SUB, RSB, MOV, MVN, TST, TEQ, CMN and CMP with a constant (DDI0553, "Data-processing (modified immediate)")
abbrev pub t1 : T1 → Regs → Regs
t1 i r = data_row i.name i.s.value i.d.value (reg_or_zero i.n.value r) (expand_imm_c (imm12 i.i.value i.i3.value i.i8.value) r.c) r

-- T2: AND, BIC, ORR, ORN, EOR, ADD, ADC, SBC, SUB, RSB, MOV, MVN, LSL, LSR, ASR, ROR, RRX, TST, TEQ, CMN and CMP with a shifted register
-- (DDI0553, "Data-processing (shifted register)")
abbrev pub t2 : T2 → Regs → Regs
t2 i r =
    data_row i.name i.s.value i.d.value (reg_or_zero i.n.value r) (imm_shift_c i.ty.value (imm5 i.i3.value i.i2.value) (reg i.m.value r) r.c) r

-- T3: ADDW, SUBW and ADR
-- (DDI0553, "ADD (immediate)" and "ADD (SP plus immediate)", encodings T4, "SUB (immediate)", encoding T4, "SUB (SP minus immediate)", encoding T3,
-- and "ADR", encodings T2 and T3)
abbrev pub t3 : T3 → Regs → Regs
t3 i r = put i.d.value (sum_of i.name (base_of i.n.value r) (imm12 i.i.value i.i3.value i.i8.value)).result r

-- T4: MOVW, the low halfword with zeros above it, or MOVT, the high halfword (DDI0553, "MOV (immediate)" and "MOVT")
abbrev pub half_put : HalfName → ℕ → ℕ → ℕ
half_put half.Movw x old = x
half_put half.Movt x old = x * 2 ^ 16 + old % 2 ^ 16

-- T4: MOVW and MOVT (DDI0553, "MOV (immediate)", encoding T3, and "MOVT")
abbrev pub t4 : T4 → Regs → Regs
t4 i r = put i.d.value (half_put i.name (imm16 i.i4.value i.i.value i.i3.value i.i8.value) (reg i.d.value r)) r

-- T5: SignedSatQ(SInt(x), s + 1) of SSAT and UnsignedSatQ(SInt(x), s) of USAT, as words: the nearest number from -2 ^ s, or from 0,
-- to 2 ^ s - 1 (DDI0553, "SSAT" and "USAT")
abbrev pub saturated : SaturateName → ℕ → ℕ → ℕ
saturated saturate.Ssat s x = if negative x then max x (2 ^ 32 - 2 ^ s) else min x (2 ^ s - 1)
saturated saturate.Usat s x = if negative x then 0 else min x (2 ^ s - 1)

-- T5: where another number than x is the nearest, SSAT and USAT set Q (DDI0553, "SSAT" and "USAT")
abbrev pub put_saturated : ℕ → ℕ → ℕ → Regs → Regs
put_saturated d y x r = let t = put d y r in record t { q = t.q || not (nat_eq y x) }

-- T5: SSAT and USAT (DDI0553, "SSAT" and "USAT")
abbrev pub t5 : T5 → Regs → Regs
t5 i r =
    let x = (imm_shift_c (2 * i.sh.value) (imm5 i.i3.value i.i2.value) (reg i.n.value r) r.c).result in
    put_saturated i.d.value (saturated i.name i.s.value x) x r

-- T6: so many bits, with their sign by SBFX or with zeros by UBFX (DDI0553, "SBFX" and "UBFX")
abbrev pub bits_with : ExtractName → ℕ → ℕ → ℕ
bits_with bits.Sbfx width x = sign_extended width x
bits_with bits.Ubfx width x = x

-- T6: SBFX and UBFX (DDI0553, "SBFX" and "UBFX")
abbrev pub t6 : T6 → Regs → Regs
t6 i r = put i.d.value (bits_with i.name (i.w.value + 1) (field (imm5 i.i3.value i.i2.value) (i.w.value + 1) (reg i.n.value r))) r

-- T7: BFI and BFC: the bits from lsb to e get the lowest ones of the first operand, which is 0 of BFC (DDI0553, "BFI" and "BFC")
abbrev pub t7 : T7 → Regs → Regs
t7 i r =
    let lsb = imm5 i.i3.value i.i2.value in
    put i.d.value (put_field lsb (i.e.value + 1 - lsb) (reg_or_zero i.n.value r) (reg i.d.value r)) r
