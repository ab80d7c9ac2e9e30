-- What the rows T1 to T7 are coded as, the first halfword in bits 31 to 16.
use Rattle.std.specs.Prelude.{ℕ, ◌+◌}
use Rattle.hm_isa.specs.Standing.{◌↑◌}
use Rattle.hm_isa.specs.declared.narrow.SumName.{SumName}
use Rattle.hm_isa.specs.declared.narrow.SumName.TheVariants as sum_
use Rattle.hm_isa.specs.declared.data.DataName.{DataName}
use Rattle.hm_isa.specs.declared.data.DataName.TheVariants as data_
use Rattle.hm_isa.specs.declared.data.T1.{T1}
use Rattle.hm_isa.specs.declared.data.T2.{T2}
use Rattle.hm_isa.specs.declared.data.T3.{T3}
use Rattle.hm_isa.specs.declared.data.HalfName.{HalfName}
use Rattle.hm_isa.specs.declared.data.HalfName.TheVariants as half
use Rattle.hm_isa.specs.declared.data.T4.{T4}
use Rattle.hm_isa.specs.declared.data.SaturateName.{SaturateName}
use Rattle.hm_isa.specs.declared.data.SaturateName.TheVariants as saturate
use Rattle.hm_isa.specs.declared.data.T5.{T5}
use Rattle.hm_isa.specs.declared.data.ExtractName.{ExtractName}
use Rattle.hm_isa.specs.declared.data.ExtractName.TheVariants as bits
use Rattle.hm_isa.specs.declared.data.T6.{T6}
use Rattle.hm_isa.specs.declared.data.T7.{T7}

-- T1 and T2: the number of AND and TST, BIC, ORR and MOV, ORN and MVN, EOR and TEQ, ADD and CMN, ADC, SBC, SUB and CMP, and RSB;
-- LSL, LSR, ASR, ROR and RRX of T2 have that of MOV
-- (DDI0553, "Data-processing (modified immediate)" and "Data-processing (shifted register)")
abbrev pub data_operation : DataName → ℕ
data_operation data_.And = 0
data_operation data_.Bic = 1
data_operation data_.Orr = 2
data_operation data_.Orn = 3
data_operation data_.Eor = 4
data_operation data_.Add = 8
data_operation data_.Adc = 10
data_operation data_.Sbc = 11
data_operation data_.Sub = 13
data_operation data_.Rsb = 14

-- T1: AND, TST, BIC, ORR, MOV, ORN, MVN, EOR, TEQ, ADD, CMN, ADC, SBC, SUB, CMP, RSB of a constant (DDI0553, "Data-processing (modified immediate)")
abbrev pub code_t1 : T1 → ℕ
code_t1 r = 0xf0000000 + r.i.value ↑ 26 + data_operation r.name ↑ 21 + r.s.value ↑ 20 + r.n.value ↑ 16 + r.i3.value ↑ 12 + r.d.value ↑ 8 + r.i8.value

-- T2: AND, TST, BIC, ORR, MOV, LSL, LSR, ASR, ROR, RRX, ORN, MVN, EOR, TEQ, ADD, CMN, ADC, SBC, SUB, CMP and RSB of a shifted register
-- (DDI0553, "Data-processing (shifted register)")
abbrev pub code_t2 : T2 → ℕ
code_t2 r =
    0xea000000 + data_operation r.name ↑ 21 + r.s.value ↑ 20 + r.n.value ↑ 16 + r.i3.value ↑ 12 + r.d.value ↑ 8 + r.i2.value ↑ 6 + r.ty.value ↑ 4 + r.m.value

-- T3: the code of ADDW, SUBW and ADR, their registers and constant 0
-- (DDI0553, "ADD (immediate)" and "ADD (SP plus immediate)", encodings T4, "SUB (immediate)", encoding T4, "SUB (SP minus immediate)", encoding T3,
-- and "ADR", encodings T2 and T3)
abbrev pub wide_sum_base : SumName → ℕ
wide_sum_base sum_.Add = 0xf2000000
wide_sum_base sum_.Sub = 0xf2a00000

-- T3: ADDW, SUBW and ADR with a constant of twelve bits
-- (DDI0553, "ADD (immediate)" and "ADD (SP plus immediate)", encodings T4, "SUB (immediate)", encoding T4, "SUB (SP minus immediate)", encoding T3,
-- and "ADR", encodings T2 and T3)
abbrev pub code_t3 : T3 → ℕ
code_t3 r = wide_sum_base r.name + r.i.value ↑ 26 + r.n.value ↑ 16 + r.i3.value ↑ 12 + r.d.value ↑ 8 + r.i8.value

-- T4: the code of MOVW and MOVT, their register and constant 0 (DDI0553, "MOV (immediate)" and "MOVT")
abbrev pub half_base : HalfName → ℕ
half_base half.Movw = 0xf2400000
half_base half.Movt = 0xf2c00000

-- T4: MOVW and MOVT (DDI0553, "MOV (immediate)" and "MOVT")
abbrev pub code_t4 : T4 → ℕ
code_t4 r = half_base r.name + r.i4.value ↑ 16 + r.i.value ↑ 26 + r.i3.value ↑ 12 + r.d.value ↑ 8 + r.i8.value

-- T5: the code of SSAT and USAT, their registers, shift and number of bits 0 (DDI0553, "SSAT" and "USAT")
abbrev pub saturate_base : SaturateName → ℕ
saturate_base saturate.Ssat = 0xf3000000
saturate_base saturate.Usat = 0xf3800000

-- T5: SSAT and USAT (DDI0553, "SSAT" and "USAT")
abbrev pub code_t5 : T5 → ℕ
code_t5 r = saturate_base r.name + r.sh.value ↑ 21 + r.n.value ↑ 16 + r.i3.value ↑ 12 + r.d.value ↑ 8 + r.i2.value ↑ 6 + r.s.value

-- T6: the code of SBFX and UBFX, their registers, lowest bit and width 0 (DDI0553, "SBFX" and "UBFX")
abbrev pub extract_base : ExtractName → ℕ
extract_base bits.Sbfx = 0xf3400000
extract_base bits.Ubfx = 0xf3c00000

-- T6: SBFX and UBFX (DDI0553, "SBFX" and "UBFX")
abbrev pub code_t6 : T6 → ℕ
code_t6 r = extract_base r.name + r.n.value ↑ 16 + r.i3.value ↑ 12 + r.d.value ↑ 8 + r.i2.value ↑ 6 + r.w.value

-- T7: BFI, and BFC where n is 15 (DDI0553, "BFI" and "BFC")
abbrev pub code_t7 : T7 → ℕ
code_t7 r = 0xf3600000 + r.n.value ↑ 16 + r.i3.value ↑ 12 + r.d.value ↑ 8 + r.i2.value ↑ 6 + r.e.value
