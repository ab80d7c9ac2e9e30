-- What each instruction is coded as.
use Rattle.std.specs.Prelude.{ℕ, ◌+◌, ◌*◌, ◌/◌, ◌%◌, List, [], ◌∷◌, length}
use Rattle.hm_isa.specs.declared.narrow.ShiftName.{ShiftName}
use Rattle.hm_isa.specs.declared.narrow.ShiftName.TheVariants as shift
use Rattle.hm_isa.specs.declared.narrow.S1.{S1}
use Rattle.hm_isa.specs.declared.narrow.SumName.{SumName}
use Rattle.hm_isa.specs.declared.narrow.SumName.TheVariants as sum_
use Rattle.hm_isa.specs.declared.narrow.S2.{S2}
use Rattle.hm_isa.specs.declared.narrow.S3.{S3}
use Rattle.hm_isa.specs.declared.narrow.ByteName.{ByteName}
use Rattle.hm_isa.specs.declared.narrow.ByteName.TheVariants as byte
use Rattle.hm_isa.specs.declared.narrow.S4.{S4}
use Rattle.hm_isa.specs.declared.narrow.LogicName.{LogicName}
use Rattle.hm_isa.specs.declared.narrow.LogicName.TheVariants as logic
use Rattle.hm_isa.specs.declared.narrow.S5.{S5}
use Rattle.hm_isa.specs.declared.narrow.S6.{S6}
use Rattle.hm_isa.specs.declared.narrow.S7.{S7}
use Rattle.hm_isa.specs.declared.narrow.S8.{S8}
use Rattle.hm_isa.specs.declared.narrow.BaseName.{BaseName}
use Rattle.hm_isa.specs.declared.narrow.BaseName.TheVariants as base
use Rattle.hm_isa.specs.declared.narrow.S9.{S9}
use Rattle.hm_isa.specs.declared.narrow.S10.{S10}
use Rattle.hm_isa.specs.declared.narrow.ExtendName.{ExtendName}
use Rattle.hm_isa.specs.declared.narrow.ExtendName.TheVariants as extend
use Rattle.hm_isa.specs.declared.narrow.S11.{S11}
use Rattle.hm_isa.specs.declared.narrow.SwapName.{SwapName}
use Rattle.hm_isa.specs.declared.narrow.SwapName.TheVariants as swap_
use Rattle.hm_isa.specs.declared.narrow.S12.{S12}
use Rattle.hm_isa.specs.declared.narrow.MaskingName.{MaskingName}
use Rattle.hm_isa.specs.declared.narrow.MaskingName.TheVariants as masking
use Rattle.hm_isa.specs.declared.narrow.S13.{S13}
use Rattle.hm_isa.specs.declared.narrow.S14.{S14}
use Rattle.hm_isa.specs.declared.narrow.AccessName.{AccessName}
use Rattle.hm_isa.specs.declared.narrow.AccessName.TheVariants as access
use Rattle.hm_isa.specs.declared.narrow.S15.{S15}
use Rattle.hm_isa.specs.declared.narrow.PlainName.{PlainName}
use Rattle.hm_isa.specs.declared.narrow.PlainName.TheVariants as plain
use Rattle.hm_isa.specs.declared.narrow.S16.{S16}
use Rattle.hm_isa.specs.declared.narrow.WordName.{WordName}
use Rattle.hm_isa.specs.declared.narrow.WordName.TheVariants as word
use Rattle.hm_isa.specs.declared.narrow.S17.{S17}
use Rattle.hm_isa.specs.declared.narrow.S18.{S18}
use Rattle.hm_isa.specs.declared.narrow.HintName.{HintName}
use Rattle.hm_isa.specs.declared.narrow.HintName.TheVariants as hint
use Rattle.hm_isa.specs.declared.narrow.S19.{S19}
use Rattle.hm_isa.specs.declared.narrow.ListName.{ListName}
use Rattle.hm_isa.specs.declared.narrow.ListName.TheVariants as list
use Rattle.hm_isa.specs.declared.narrow.S20.{S20}
use Rattle.hm_isa.specs.declared.narrow.S21.{S21}
use Rattle.hm_isa.specs.declared.narrow.JumpName.{JumpName}
use Rattle.hm_isa.specs.declared.narrow.JumpName.TheVariants as jump
use Rattle.hm_isa.specs.declared.narrow.S23.{S23}
use Rattle.hm_isa.specs.declared.narrow.ZeroName.{ZeroName}
use Rattle.hm_isa.specs.declared.narrow.ZeroName.TheVariants as zero_
use Rattle.hm_isa.specs.declared.narrow.S24.{S24}
use Rattle.hm_isa.specs.declared.narrow.Conditional.{Conditional}
use Rattle.hm_isa.specs.declared.narrow.Always.{Always}
use Rattle.hm_isa.specs.declared.narrow.S25.{S25}
use Rattle.hm_isa.specs.declared.narrow.S25.TheVariants as s25
use Rattle.hm_isa.specs.declared.wide.Offset.{Offset}
use Rattle.hm_isa.specs.declared.wide.Indexed.{Indexed}
use Rattle.hm_isa.specs.declared.wide.Shifted.{Shifted}
use Rattle.hm_isa.specs.declared.wide.Literal.{Literal}
use Rattle.hm_isa.specs.declared.wide.T12.{T12}
use Rattle.hm_isa.specs.declared.wide.T12.TheVariants as t12
use Rattle.hm_isa.specs.declared.wide.PairName.{PairName}
use Rattle.hm_isa.specs.declared.wide.PairName.TheVariants as pair
use Rattle.hm_isa.specs.declared.wide.T13.{T13}
use Rattle.hm_isa.specs.declared.wide.WideListName.{WideListName}
use Rattle.hm_isa.specs.declared.wide.WideListName.TheVariants as wide_list
use Rattle.hm_isa.specs.declared.wide.T14.{T14}
use Rattle.hm_isa.specs.declared.wide.StackName.{StackName}
use Rattle.hm_isa.specs.declared.wide.StackName.TheVariants as stack
use Rattle.hm_isa.specs.declared.wide.T15.{T15}
use Rattle.hm_isa.specs.declared.vectors.AddName.{AddName}
use Rattle.hm_isa.specs.declared.vectors.AddName.TheVariants as add
use Rattle.hm_isa.specs.declared.vectors.V1.{V1}
use Rattle.hm_isa.specs.declared.vectors.BitwiseName.{BitwiseName}
use Rattle.hm_isa.specs.declared.vectors.BitwiseName.TheVariants as bitwise
use Rattle.hm_isa.specs.declared.vectors.V2.{V2}
use Rattle.hm_isa.specs.declared.vectors.SignedName.{SignedName}
use Rattle.hm_isa.specs.declared.vectors.SignedName.TheVariants as signed
use Rattle.hm_isa.specs.declared.vectors.V3.{V3}
use Rattle.hm_isa.specs.declared.vectors.VectorShiftName.{VectorShiftName}
use Rattle.hm_isa.specs.declared.vectors.VectorShiftName.TheVariants as by_vector
use Rattle.hm_isa.specs.declared.vectors.V4.{V4}
use Rattle.hm_isa.specs.declared.vectors.DoublingName.{DoublingName}
use Rattle.hm_isa.specs.declared.vectors.DoublingName.TheVariants as doubling
use Rattle.hm_isa.specs.declared.vectors.V5.{V5}
use Rattle.hm_isa.specs.declared.vectors.V6.{V6}
use Rattle.hm_isa.specs.declared.vectors.HighName.{HighName}
use Rattle.hm_isa.specs.declared.vectors.HighName.TheVariants as high
use Rattle.hm_isa.specs.declared.vectors.V7.{V7}
use Rattle.hm_isa.specs.declared.vectors.CarryName.{CarryName}
use Rattle.hm_isa.specs.declared.vectors.CarryName.TheVariants as carry
use Rattle.hm_isa.specs.declared.vectors.V8.{V8}
use Rattle.hm_isa.specs.declared.vectors.ComplexSumName.{ComplexSumName}
use Rattle.hm_isa.specs.declared.vectors.ComplexSumName.TheVariants as complex_sum
use Rattle.hm_isa.specs.declared.vectors.V9.{V9}
use Rattle.hm_isa.specs.declared.vectors.ScalarName.{ScalarName}
use Rattle.hm_isa.specs.declared.vectors.ScalarName.TheVariants as by_scalar
use Rattle.hm_isa.specs.declared.vectors.V10.{V10}
use Rattle.hm_isa.specs.declared.vectors.ConstantShiftName.{ConstantShiftName}
use Rattle.hm_isa.specs.declared.vectors.ConstantShiftName.TheVariants as by_constant
use Rattle.hm_isa.specs.declared.vectors.V11.{V11}
use Rattle.hm_isa.specs.declared.vectors.LongBytes.{LongBytes}
use Rattle.hm_isa.specs.declared.vectors.LongHalves.{LongHalves}
use Rattle.hm_isa.specs.declared.vectors.LongFull.{LongFull}
use Rattle.hm_isa.specs.declared.vectors.V12.{V12}
use Rattle.hm_isa.specs.declared.vectors.V12.TheVariants as v12
use Rattle.hm_isa.specs.declared.vectors.OneName.{OneName}
use Rattle.hm_isa.specs.declared.vectors.OneName.TheVariants as one
use Rattle.hm_isa.specs.declared.vectors.OneElement.{OneElement}
use Rattle.hm_isa.specs.declared.vectors.Invert.{Invert}
use Rattle.hm_isa.specs.declared.vectors.V13.{V13}
use Rattle.hm_isa.specs.declared.vectors.V13.TheVariants as v13
use Rattle.hm_isa.specs.declared.vectors.ReverseName.{ReverseName}
use Rattle.hm_isa.specs.declared.vectors.ReverseName.TheVariants as reverse_
use Rattle.hm_isa.specs.declared.vectors.V14.{V14}
use Rattle.hm_isa.specs.declared.vectors.V15.{V15}
use Rattle.hm_isa.specs.declared.vectors.NarrowingName.{NarrowingName}
use Rattle.hm_isa.specs.declared.vectors.NarrowingName.TheVariants as narrowing
use Rattle.hm_isa.specs.declared.vectors.V16.{V16}
use Rattle.hm_isa.specs.declared.vectors.V17.{V17}
use Rattle.hm_isa.specs.declared.vectors.Element.{Element}
use Rattle.hm_isa.specs.declared.vectors.Element.TheVariants as element
use Rattle.hm_isa.specs.declared.vectors.V18.{V18}
use Rattle.hm_isa.specs.declared.vectors.OffsetsName.{OffsetsName}
use Rattle.hm_isa.specs.declared.vectors.OffsetsName.TheVariants as offsets
use Rattle.hm_isa.specs.declared.vectors.Offsets.{Offsets}
use Rattle.hm_isa.specs.declared.vectors.WrappedOffsets.{WrappedOffsets}
use Rattle.hm_isa.specs.declared.vectors.V19.{V19}
use Rattle.hm_isa.specs.declared.vectors.V19.TheVariants as v19
use Rattle.hm_isa.specs.declared.vectors.CompareVectors.{CompareVectors}
use Rattle.hm_isa.specs.declared.vectors.CompareScalar.{CompareScalar}
use Rattle.hm_isa.specs.declared.vectors.V20.{V20}
use Rattle.hm_isa.specs.declared.vectors.V20.TheVariants as v20
use Rattle.hm_isa.specs.declared.vectors.Block.{Block}
use Rattle.hm_isa.specs.declared.vectors.Select.{Select}
use Rattle.hm_isa.specs.declared.vectors.Tail.{Tail}
use Rattle.hm_isa.specs.declared.vectors.V21.{V21}
use Rattle.hm_isa.specs.declared.vectors.V21.TheVariants as v21
use Rattle.hm_isa.specs.declared.vectors.Sum.{Sum}
use Rattle.hm_isa.specs.declared.vectors.Dot.{Dot}
use Rattle.hm_isa.specs.declared.vectors.LongSum.{LongSum}
use Rattle.hm_isa.specs.declared.vectors.LongDot.{LongDot}
use Rattle.hm_isa.specs.declared.vectors.V22.{V22}
use Rattle.hm_isa.specs.declared.vectors.V22.TheVariants as v22
use Rattle.hm_isa.specs.declared.vectors.ExtremeName.{ExtremeName}
use Rattle.hm_isa.specs.declared.vectors.ExtremeName.TheVariants as extreme
use Rattle.hm_isa.specs.declared.vectors.V23.{V23}
use Rattle.hm_isa.specs.DataCodes.{code_t1, code_t2, code_t3, code_t4, code_t5, code_t6, code_t7}
use Rattle.hm_isa.specs.declared.Vector.{Vector}
use Rattle.hm_isa.specs.declared.Vector.TheVariants as vector
use Rattle.hm_isa.specs.declared.Instr.{Instr}
use Rattle.hm_isa.specs.declared.widths.NarrowRow.{NarrowRow}
use Rattle.hm_isa.specs.declared.widths.NarrowRow.TheVariants as narrow
use Rattle.hm_isa.specs.declared.widths.WideRow.{WideRow}
use Rattle.hm_isa.specs.declared.widths.WideRow.TheVariants as wide
use Rattle.hm_isa.specs.declared.widths.ByWidth.{ByWidth}
use Rattle.hm_isa.specs.declared.widths.ByWidth.TheVariants as by
use Rattle.hm_isa.specs.Widths.{by_width}
use Rattle.hm_isa.specs.Standing.{◌↑◌}
use Rattle.hm_isa.specs.JumpCodes.{code_t16, code_t17, code_t23}
use Rattle.hm_isa.specs.ArithCodes.{code_t8, code_t9, code_t10, code_t11, code_t20}
use Rattle.hm_isa.specs.SystemCodes.{code_t18, code_t19, code_t21, code_t22}
use Rattle.hm_isa.specs.MemoryCodes.{code_v24, code_v25, code_v26, code_v27, code_v28}

-- CODES OF ONE HALFWORD

-- S1: the code of LSLS, LSRS and ASRS, their registers and shift 0 (DDI0553, "LSL (immediate)", "LSR (immediate)" and "ASR (immediate)")
abbrev pub shift_base : ShiftName → ℕ
shift_base shift.Lsl = 0x0000
shift_base shift.Lsr = 0x0800
shift_base shift.Asr = 0x1000

-- S1: LSLS, LSRS and ASRS by a constant (DDI0553, "LSL (immediate)", "LSR (immediate)" and "ASR (immediate)")
abbrev pub code_s1 : S1 → ℕ
code_s1 r = shift_base r.name + r.i.value ↑ 6 + r.m.value ↑ 3 + r.d.value

-- S2 and S3: the code of ADDS and SUBS of two registers, their registers 0, which with bit 10 is that of ADDS and SUBS of a register and a constant
-- (DDI0553, "ADD (register)", "SUB (register)", "ADD (immediate)" and "SUB (immediate)")
abbrev pub sum_base : SumName → ℕ
sum_base sum_.Add = 0x1800
sum_base sum_.Sub = 0x1a00

-- S2: ADDS and SUBS of two registers (DDI0553, "ADD (register)" and "SUB (register)")
abbrev pub code_s2 : S2 → ℕ
code_s2 r = sum_base r.name + r.m.value ↑ 6 + r.n.value ↑ 3 + r.d.value

-- S3: ADDS and SUBS of a register and a constant of three bits (DDI0553, "ADD (immediate)" and "SUB (immediate)")
abbrev pub code_s3 : S3 → ℕ
code_s3 r = sum_base r.name + 0x0400 + r.i.value ↑ 6 + r.n.value ↑ 3 + r.d.value

-- S4: the code of MOVS, CMP, ADDS, SUBS, register and constant 0 (DDI0553, "MOV (immediate)", "CMP (immediate)", "ADD (immediate)", "SUB (immediate)")
abbrev pub byte_base : ByteName → ℕ
byte_base byte.Mov = 0x2000
byte_base byte.Cmp = 0x2800
byte_base byte.Add = 0x3000
byte_base byte.Sub = 0x3800

-- S4: MOVS, CMP, ADDS and SUBS of eight bits (DDI0553, "MOV (immediate)", "CMP (immediate)", "ADD (immediate)" and "SUB (immediate)")
abbrev pub code_s4 : S4 → ℕ
code_s4 r = byte_base r.name + r.d.value ↑ 8 + r.i.value

-- S5: the code of ANDS, EORS, LSLS, LSRS, ASRS, ADCS, SBCS, RORS, TST, RSBS, CMP, CMN, ORRS, MULS, BICS and MVNS, their registers 0
-- (DDI0553, the register form of each, as "AND (register)", "RSB (immediate)" and "MUL")
abbrev pub logic_base : LogicName → ℕ
logic_base logic.Ands = 0x4000
logic_base logic.Eors = 0x4040
logic_base logic.Lsls = 0x4080
logic_base logic.Lsrs = 0x40c0
logic_base logic.Asrs = 0x4100
logic_base logic.Adcs = 0x4140
logic_base logic.Sbcs = 0x4180
logic_base logic.Rors = 0x41c0
logic_base logic.Tst = 0x4200
logic_base logic.Rsbs = 0x4240
logic_base logic.Cmp = 0x4280
logic_base logic.Cmn = 0x42c0
logic_base logic.Orrs = 0x4300
logic_base logic.Muls = 0x4340
logic_base logic.Bics = 0x4380
logic_base logic.Mvns = 0x43c0

-- S5: ANDS, EORS, LSLS, LSRS, ASRS, ADCS, SBCS, RORS, TST, RSBS, CMP, CMN, ORRS, MULS, BICS and MVNS of two low registers
-- (DDI0553, the register form of each, as "AND (register)", "RSB (immediate)" and "MUL")
abbrev pub code_s5 : S5 → ℕ
code_s5 r = logic_base r.name + r.m.value ↑ 3 + r.d.value

-- S6: ADD of registers, high ones too (DDI0553, "ADD (register)" and "ADD (SP plus register)")
abbrev pub code_s6 : S6 → ℕ
code_s6 r = 0x4400 + (r.d.value / 8) ↑ 7 + r.m.value ↑ 3 + r.d.value % 8

-- S7: CMP of registers, one of them high (DDI0553, "CMP (register)")
abbrev pub code_s7 : S7 → ℕ
code_s7 r = 0x4500 + (r.d.value / 8) ↑ 7 + r.m.value ↑ 3 + r.d.value % 8

-- S8: MOV of registers, high ones too (DDI0553, "MOV (register)")
abbrev pub code_s8 : S8 → ℕ
code_s8 r = 0x4600 + (r.d.value / 8) ↑ 7 + r.m.value ↑ 3 + r.d.value % 8

-- S9: the code of ADR, and of ADD of sp and a constant, their register and constant 0 (DDI0553, "ADR" and "ADD (SP plus immediate)")
abbrev pub address_base : BaseName → ℕ
address_base base.Pc = 0xa000
address_base base.Sp = 0xa800

-- S9: ADR, and ADD of sp and a constant (DDI0553, "ADR" and "ADD (SP plus immediate)")
abbrev pub code_s9 : S9 → ℕ
code_s9 r = address_base r.name + r.d.value ↑ 8 + r.i.value

-- S10: the code of ADD and SUB into sp, their constant 0 (DDI0553, "ADD (SP plus immediate)" and "SUB (SP minus immediate)")
abbrev pub stack_sum_base : SumName → ℕ
stack_sum_base sum_.Add = 0xb000
stack_sum_base sum_.Sub = 0xb080

-- S10: ADD and SUB of sp and a constant into sp (DDI0553, "ADD (SP plus immediate)" and "SUB (SP minus immediate)")
abbrev pub code_s10 : S10 → ℕ
code_s10 r = stack_sum_base r.name + r.i.value

-- S11: the code of SXTH, SXTB, UXTH and UXTB, their registers 0 (DDI0553, "SXTH", "SXTB", "UXTH" and "UXTB")
abbrev pub extend_base : ExtendName → ℕ
extend_base extend.Sxth = 0xb200
extend_base extend.Sxtb = 0xb240
extend_base extend.Uxth = 0xb280
extend_base extend.Uxtb = 0xb2c0

-- S11: SXTH, SXTB, UXTH and UXTB (DDI0553, "SXTH", "SXTB", "UXTH" and "UXTB")
abbrev pub code_s11 : S11 → ℕ
code_s11 r = extend_base r.name + r.m.value ↑ 3 + r.d.value

-- S12: the code of REV, REV16 and REVSH, their registers 0 (DDI0553, "REV", "REV16" and "REVSH")
abbrev pub swap_base : SwapName → ℕ
swap_base swap_.Rev = 0xba00
swap_base swap_.Rev16 = 0xba40
swap_base swap_.Revsh = 0xbac0

-- S12: REV, REV16 and REVSH (DDI0553, "REV", "REV16" and "REVSH")
abbrev pub code_s12 : S12 → ℕ
code_s12 r = swap_base r.name + r.m.value ↑ 3 + r.d.value

-- S13: the code of CPSIE and CPSID of PRIMASK (DDI0553, "CPS")
abbrev pub masking_base : MaskingName → ℕ
masking_base masking.Cpsie = 0xb662
masking_base masking.Cpsid = 0xb672

-- S13: CPSIE and CPSID of PRIMASK (DDI0553, "CPS")
abbrev pub code_s13 : S13 → ℕ
code_s13 r = masking_base r.name

-- S14: LDR of a word forward of pc (DDI0553, "LDR (literal)")
abbrev pub code_s14 : S14 → ℕ
code_s14 r = 0x4800 + r.t.value ↑ 8 + r.i.value

-- S15: the code of STR, STRH, STRB, LDRSB, LDR, LDRH, LDRB, LDRSH, their registers 0 (DDI0553, the register form of each, as "STR (register)")
abbrev pub access_base : AccessName → ℕ
access_base access.Str = 0x5000
access_base access.Strh = 0x5200
access_base access.Strb = 0x5400
access_base access.Ldrsb = 0x5600
access_base access.Ldr = 0x5800
access_base access.Ldrh = 0x5a00
access_base access.Ldrb = 0x5c00
access_base access.Ldrsh = 0x5e00

-- S15: STR, STRH, STRB, LDRSB, LDR, LDRH, LDRB, LDRSH at the sum of two registers (DDI0553, the register form of each, as "STR (register)")
abbrev pub code_s15 : S15 → ℕ
code_s15 r = access_base r.name + r.m.value ↑ 6 + r.n.value ↑ 3 + r.t.value

-- S16: the code of STR, LDR, STRB, LDRB, STRH, LDRH, registers and offset 0 (DDI0553, the immediate form of each, as "STR (immediate)")
abbrev pub plain_base : PlainName → ℕ
plain_base plain.Str = 0x6000
plain_base plain.Ldr = 0x6800
plain_base plain.Strb = 0x7000
plain_base plain.Ldrb = 0x7800
plain_base plain.Strh = 0x8000
plain_base plain.Ldrh = 0x8800

-- S16: STR, LDR, STRB, LDRB, STRH, LDRH at an offset from a register (DDI0553, the immediate form of each, as "STR (immediate)")
abbrev pub code_s16 : S16 → ℕ
code_s16 r = plain_base r.name + r.i.value ↑ 6 + r.n.value ↑ 3 + r.t.value

-- S17: the code of STR and LDR at an offset from sp, their register and offset 0 (DDI0553, "STR (immediate)" and "LDR (immediate)")
abbrev pub word_base : WordName → ℕ
word_base word.Str = 0x9000
word_base word.Ldr = 0x9800

-- S17: STR and LDR at an offset from sp (DDI0553, "STR (immediate)" and "LDR (immediate)")
abbrev pub code_s17 : S17 → ℕ
code_s17 r = word_base r.name + r.t.value ↑ 8 + r.i.value

-- S18: BKPT (DDI0553, "BKPT")
abbrev pub code_s18 : S18 → ℕ
code_s18 r = 0xbe00 + r.i.value

-- S19: the code of NOP, YIELD, WFE, WFI and SEV (DDI0553, "NOP", "YIELD", "WFE", "WFI" and "SEV")
abbrev pub hint_base : HintName → ℕ
hint_base hint.Nop = 0xbf00
hint_base hint.Yield = 0xbf10
hint_base hint.Wfe = 0xbf20
hint_base hint.Wfi = 0xbf30
hint_base hint.Sev = 0xbf40

-- S19: NOP, YIELD, WFE, WFI and SEV (DDI0553, "NOP", "YIELD", "WFE", "WFI" and "SEV")
abbrev pub code_s19 : S19 → ℕ
code_s19 r = hint_base r.name

-- S20: the code of PUSH, POP, STM and LDM, their base and list 0 (DDI0553, "STMDB, STMFD", "LDM, LDMIA, LDMFD" and "STM, STMIA, STMEA")
abbrev pub list_base : ListName → ℕ
list_base list.Push = 0xb400
list_base list.Pop = 0xbc00
list_base list.Stm = 0xc000
list_base list.Ldm = 0xc800

-- S20: PUSH, encoding T2 of "STMDB, STMFD"; POP and LDM, encodings T3 and T1 of "LDM, LDMIA, LDMFD"; STM, encoding T1 of "STM, STMIA, STMEA"
-- (DDI0553); x is 0 where n is not, and n is 0 where x is not
abbrev pub code_s20 : S20 → ℕ
code_s20 r = list_base r.name + r.x.value ↑ 8 + r.n.value ↑ 8 + r.list.value

-- S21: IT with its condition and mask (DDI0553, "IT")
abbrev pub code_s21 : S21 → ℕ
code_s21 r = 0xbf00 + r.c.value ↑ 4 + r.mask.value

-- S23: the code of BX and BLX, their register 0 (DDI0553, "BX, BXNS" and "BLX, BLXNS")
abbrev pub jump_base : JumpName → ℕ
jump_base jump.Bx = 0x4700
jump_base jump.Blx = 0x4780

-- S23: BX and BLX (DDI0553, "BX, BXNS" and "BLX, BLXNS")
abbrev pub code_s23 : S23 → ℕ
code_s23 r = jump_base r.name + r.m.value ↑ 3

-- S24: the code of CBZ and CBNZ, their register and distance 0 (DDI0553, "CBNZ, CBZ")
abbrev pub zero_base : ZeroName → ℕ
zero_base zero_.Cbz = 0xb100
zero_base zero_.Cbnz = 0xb900

-- S24: CBZ and CBNZ (DDI0553, "CBNZ, CBZ")
abbrev pub code_s24 : S24 → ℕ
code_s24 r = zero_base r.name + (r.i.value / 32) ↑ 9 + (r.i.value % 32) ↑ 3 + r.n.value

-- S25: B under a condition (DDI0553, "B", encoding T1)
abbrev pub code_conditional : Conditional → ℕ
code_conditional r = 0xd000 + r.c.value ↑ 8 + r.i.value

-- S25: B under no condition (DDI0553, "B", encoding T2)
abbrev pub code_always : Always → ℕ
code_always r = 0xe000 + r.i.value

-- S25: B with a condition or with none (DDI0553, "B")
abbrev pub code_s25 : S25 → ℕ
code_s25 (s25.Conditional r) = code_conditional r
code_s25 (s25.Always r) = code_always r

-- CODES OF TWO HALFWORDS, the first in bits 31 to 16

-- T12: the code of STRB, STRH, STR, LDRB, LDRH, LDR, LDRSB, LDRSH, registers and shift 0 (DDI0553, the register form of each, as "STR (register)")
abbrev pub wide_access_base : AccessName → ℕ
wide_access_base access.Strb = 0xf8000000
wide_access_base access.Strh = 0xf8200000
wide_access_base access.Str = 0xf8400000
wide_access_base access.Ldrb = 0xf8100000
wide_access_base access.Ldrh = 0xf8300000
wide_access_base access.Ldr = 0xf8500000
wide_access_base access.Ldrsb = 0xf9100000
wide_access_base access.Ldrsh = 0xf9300000

-- T12: STR, STRH, STRB, LDR, LDRH, LDRB, LDRSH, LDRSB at a register plus twelve bits (DDI0553, the immediate form of each, as "LDR (immediate)")
abbrev pub code_offset : Offset → ℕ
code_offset r = wide_access_base r.name + 0x00800000 + r.n.value ↑ 16 + r.t.value ↑ 12 + r.i.value

-- T12: STR, STRH, STRB, LDR, LDRH, LDRB, LDRSH, LDRSB at a register and eight bits that are added or taken off
-- (DDI0553, the immediate form of each, as "LDR (immediate)")
abbrev pub code_indexed : Indexed → ℕ
code_indexed r = wide_access_base r.name + 0x0800 + r.n.value ↑ 16 + r.t.value ↑ 12 + r.p.value ↑ 10 + r.u.value ↑ 9 + r.w.value ↑ 8 + r.i.value

-- T12: STR, STRH, STRB, LDR, LDRH, LDRB, LDRSH, LDRSB at a register plus a shifted one (DDI0553, the register form of each, as "LDR (register)")
abbrev pub code_shifted : Shifted → ℕ
code_shifted r = wide_access_base r.name + r.n.value ↑ 16 + r.t.value ↑ 12 + r.i.value ↑ 4 + r.m.value

-- T12: LDR, LDRH, LDRB, LDRSH and LDRSB at a constant distance from pc (DDI0553, the literal form of each, as "LDR (literal)")
abbrev pub code_literal : Literal → ℕ
code_literal r = wide_access_base r.name + 0x000f0000 + r.u.value ↑ 23 + r.t.value ↑ 12 + r.i.value

-- T12: STR, STRH, STRB, LDR, LDRH, LDRB, LDRSH, LDRSB
-- (DDI0553, the immediate and register form of each, and the literal form of each load, as "LDR (immediate)", "LDR (register)" and "LDR (literal)")
abbrev pub code_t12 : T12 → ℕ
code_t12 (t12.Offset r) = code_offset r
code_t12 (t12.Indexed r) = code_indexed r
code_t12 (t12.Shifted r) = code_shifted r
code_t12 (t12.Literal r) = code_literal r

-- T13: the code of STRD and LDRD, all else 0 (DDI0553, "STRD (immediate)", "LDRD (immediate)" and "LDRD (literal)")
abbrev pub pair_base : PairName → ℕ
pair_base pair.Strd = 0xe8400000
pair_base pair.Ldrd = 0xe8500000

-- T13: STRD and LDRD (DDI0553, "STRD (immediate)", "LDRD (immediate)" and "LDRD (literal)")
abbrev pub code_t13 : T13 → ℕ
code_t13 r = pair_base r.name + r.p.value ↑ 24 + r.add.value ↑ 23 + r.w.value ↑ 21 + r.n.value ↑ 16 + r.t.value ↑ 12 + r.u.value ↑ 8 + r.i.value

-- T14: the code of STMIA, LDMIA, STMDB, LDMDB, all else 0 (DDI0553, "STM, STMIA, STMEA", "LDM, LDMIA, LDMFD", "STMDB, STMFD", "LDMDB, LDMEA")
abbrev pub wide_list_base : WideListName → ℕ
wide_list_base wide_list.Stmia = 0xe8800000
wide_list_base wide_list.Ldmia = 0xe8900000
wide_list_base wide_list.Stmdb = 0xe9000000
wide_list_base wide_list.Ldmdb = 0xe9100000

-- T14: STMIA, LDMIA, STMDB and LDMDB (DDI0553, "STM, STMIA, STMEA", "LDM, LDMIA, LDMFD", "STMDB, STMFD" and "LDMDB, LDMEA")
abbrev pub code_t14 : T14 → ℕ
code_t14 r = wide_list_base r.name + r.w.value ↑ 21 + r.n.value ↑ 16 + r.list.value

-- T15: the code of VPUSH and VPOP, their first register and count 0 (DDI0553, "VPUSH" and "VPOP")
abbrev pub stack_base : StackName → ℕ
stack_base stack.Vpush = 0xed2d0b00
stack_base stack.Vpop = 0xecbd0b00

-- T15: VPUSH and VPOP (DDI0553, "VPUSH" and "VPOP")
abbrev pub code_t15 : T15 → ℕ
code_t15 r = stack_base r.name + r.v.value ↑ 12 + r.k.value ↑ 1

-- CODES OF THE VECTOR ROWS

-- V1: the code of VADD, VSUB and VMUL, their size and registers 0 (DDI0553, "VADD (vector)", "VSUB (vector)" and "VMUL (vector)")
abbrev pub add_base : AddName → ℕ
add_base add.Add = 0xef000840
add_base add.Sub = 0xff000840
add_base add.Mul = 0xef000950

-- V1: VADD, VSUB and VMUL of vectors (DDI0553, "VADD (vector)", "VSUB (vector)" and "VMUL (vector)")
abbrev pub code_v1 : V1 → ℕ
code_v1 r = add_base r.name + r.z.value ↑ 20 + r.n.value ↑ 17 + r.d.value ↑ 13 + r.m.value ↑ 1

-- V2: the code of VAND, VBIC, VORR, VORN and VEOR, their registers 0 (DDI0553, "VAND", "VBIC (register)", "VORR", "VORN" and "VEOR")
abbrev pub bitwise_base : BitwiseName → ℕ
bitwise_base bitwise.And = 0xef000150
bitwise_base bitwise.Bic = 0xef100150
bitwise_base bitwise.Orr = 0xef200150
bitwise_base bitwise.Orn = 0xef300150
bitwise_base bitwise.Eor = 0xff000150

-- V2: VAND, VBIC, VORR, VORN and VEOR of vectors (DDI0553, "VAND", "VBIC (register)", "VORR", "VORN" and "VEOR")
abbrev pub code_v2 : V2 → ℕ
code_v2 r = bitwise_base r.name + r.n.value ↑ 17 + r.d.value ↑ 13 + r.m.value ↑ 1

-- V3: the code of VMAX, VMIN, VABD, VHADD, VRHADD, VHSUB, VQADD, VQSUB of signed elements, all else 0
-- (DDI0553, "VMAX, VMAXA", "VMIN, VMINA", "VABD", "VHADD", "VRHADD", "VHSUB", "VQADD" and "VQSUB")
abbrev pub signed_base : SignedName → ℕ
signed_base signed.Max = 0xef000640
signed_base signed.Min = 0xef000650
signed_base signed.Abd = 0xef000740
signed_base signed.Hadd = 0xef000040
signed_base signed.Rhadd = 0xef000140
signed_base signed.Hsub = 0xef000240
signed_base signed.Qadd = 0xef000050
signed_base signed.Qsub = 0xef000250

-- V3: VMAX, VMIN, VABD, VHADD, VRHADD, VHSUB, VQADD and VQSUB of vectors
-- (DDI0553, "VMAX, VMAXA", "VMIN, VMINA", "VABD", "VHADD", "VRHADD", "VHSUB", "VQADD" and "VQSUB")
abbrev pub code_v3 : V3 → ℕ
code_v3 r = signed_base r.name + r.u.value ↑ 28 + r.z.value ↑ 20 + r.n.value ↑ 17 + r.d.value ↑ 13 + r.m.value ↑ 1

-- V4: the code of VSHL, VQSHL, VRSHL and VQRSHL of signed elements, all else 0 (DDI0553, "VSHL", "VQSHL, VQSHLU", "VRSHL" and "VQRSHL")
abbrev pub vector_shift_base : VectorShiftName → ℕ
vector_shift_base by_vector.Shl = 0xef000440
vector_shift_base by_vector.Qshl = 0xef000450
vector_shift_base by_vector.Rshl = 0xef000540
vector_shift_base by_vector.Qrshl = 0xef000550

-- V4: VSHL, VQSHL, VRSHL and VQRSHL by a vector (DDI0553, "VSHL", "VQSHL, VQSHLU", "VRSHL" and "VQRSHL")
abbrev pub code_v4 : V4 → ℕ
code_v4 r = vector_shift_base r.name + r.u.value ↑ 28 + r.z.value ↑ 20 + r.n.value ↑ 17 + r.d.value ↑ 13 + r.m.value ↑ 1

-- V5: the code of VQDMULH and VQRDMULH, their size and registers 0 (DDI0553, "VQDMULH, VQRDMULH (vector)")
abbrev pub doubling_base : DoublingName → ℕ
doubling_base doubling.Qdmulh = 0xef000b40
doubling_base doubling.Qrdmulh = 0xff000b40

-- V5: VQDMULH and VQRDMULH of vectors (DDI0553, "VQDMULH, VQRDMULH (vector)")
abbrev pub code_v5 : V5 → ℕ
code_v5 r = doubling_base r.name + r.z.value ↑ 20 + r.n.value ↑ 17 + r.d.value ↑ 13 + r.m.value ↑ 1

-- V6: VMULLB and VMULLT (DDI0553, "VMULL (integer)")
abbrev pub code_v6 : V6 → ℕ
code_v6 r = 0xee010e00 + r.u.value ↑ 28 + r.z.value ↑ 20 + r.t.value ↑ 12 + r.n.value ↑ 17 + r.d.value ↑ 13 + r.m.value ↑ 1

-- V7: the code of VMULH and VRMULH of signed elements, their size and registers 0 (DDI0553, "VMULH, VRMULH")
abbrev pub high_base : HighName → ℕ
high_base high.Mulh = 0xee010e01
high_base high.Rmulh = 0xee011e01

-- V7: VMULH and VRMULH (DDI0553, "VMULH, VRMULH")
abbrev pub code_v7 : V7 → ℕ
code_v7 r = high_base r.name + r.u.value ↑ 28 + r.z.value ↑ 20 + r.n.value ↑ 17 + r.d.value ↑ 13 + r.m.value ↑ 1

-- V8: the code of VADC, VADCI, VSBC and VSBCI, their registers 0 (DDI0553, "VADC" and "VSBC")
abbrev pub carry_base : CarryName → ℕ
carry_base carry.Adc = 0xee300f00
carry_base carry.Adci = 0xee301f00
carry_base carry.Sbc = 0xfe300f00
carry_base carry.Sbci = 0xfe301f00

-- V8: VADC, VADCI, VSBC and VSBCI (DDI0553, "VADC" and "VSBC")
abbrev pub code_v8 : V8 → ℕ
code_v8 r = carry_base r.name + r.n.value ↑ 17 + r.d.value ↑ 13 + r.m.value ↑ 1

-- V9: the code of VCADD and VHCADD with a rotation by 90 degrees, their size and registers 0 (DDI0553, "VCADD" and "VHCADD")
abbrev pub complex_sum_base : ComplexSumName → ℕ
complex_sum_base complex_sum.Cadd = 0xfe000f00
complex_sum_base complex_sum.Hcadd = 0xee000f00

-- V9: VCADD and VHCADD (DDI0553, "VCADD" and "VHCADD")
abbrev pub code_v9 : V9 → ℕ
code_v9 r = complex_sum_base r.name + r.z.value ↑ 20 + r.t.value ↑ 12 + r.n.value ↑ 17 + r.d.value ↑ 13 + r.m.value ↑ 1

-- V10: the code of VADD, VSUB, VMUL, VHADD, VHSUB, VQADD, VQSUB, VQDMULH, VQRDMULH, VMLA and VMLAS with a sign bit of 0, size and registers 0
-- (DDI0553, the forms with a scalar of "VADD (vector)", "VSUB (vector)", "VMUL (vector)", "VHADD", "VHSUB", "VQADD", "VQSUB" and
-- "VQDMULH, VQRDMULH (vector)", and "VMLA (vector by scalar plus vector)" and "VMLAS (vector by vector plus scalar)")
abbrev pub scalar_base : ScalarName → ℕ
scalar_base by_scalar.Add = 0xee010f40
scalar_base by_scalar.Sub = 0xee011f40
scalar_base by_scalar.Mul = 0xee011e60
scalar_base by_scalar.Hadd = 0xee000f40
scalar_base by_scalar.Hsub = 0xee001f40
scalar_base by_scalar.Qadd = 0xee000f60
scalar_base by_scalar.Qsub = 0xee001f60
scalar_base by_scalar.Qdmulh = 0xee010e60
scalar_base by_scalar.Qrdmulh = 0xfe010e60
scalar_base by_scalar.Mla = 0xee010e40
scalar_base by_scalar.Mlas = 0xee011e40

-- V10: VADD, VSUB, VMUL, VHADD, VHSUB, VQADD, VQSUB, VQDMULH, VQRDMULH, VMLA and VMLAS of a vector and a core register
-- (DDI0553, the forms with a scalar of "VADD (vector)", "VSUB (vector)", "VMUL (vector)", "VHADD", "VHSUB", "VQADD", "VQSUB" and
-- "VQDMULH, VQRDMULH (vector)", and "VMLA (vector by scalar plus vector)" and "VMLAS (vector by vector plus scalar)")
abbrev pub code_v10 : V10 → ℕ
code_v10 r = scalar_base r.name + r.u.value ↑ 28 + r.z.value ↑ 20 + r.n.value ↑ 17 + r.d.value ↑ 13 + r.m.value

-- V11: the code of VSHR, VRSHR, VQSHL, VQSHLU, VSHL, VSRI and VSLI with a sign bit of 0, all else 0
-- (DDI0553, "VSHR", "VRSHR", "VQSHL, VQSHLU", "VSHL", "VSRI" and "VSLI")
abbrev pub constant_shift_base : ConstantShiftName → ℕ
constant_shift_base by_constant.Shr = 0xef800050
constant_shift_base by_constant.Rshr = 0xef800250
constant_shift_base by_constant.Qshl = 0xef800750
constant_shift_base by_constant.Qshlu = 0xff800650
constant_shift_base by_constant.Shl = 0xef800550
constant_shift_base by_constant.Sri = 0xff800450
constant_shift_base by_constant.Sli = 0xff800550

-- V11: VSHR, VRSHR, VQSHL, VQSHLU, VSHL, VSRI, VSLI by a constant (DDI0553, "VSHR", "VRSHR", "VQSHL, VQSHLU", "VSHL", "VSRI" and "VSLI")
abbrev pub code_v11 : V11 → ℕ
code_v11 r = constant_shift_base r.name + r.u.value ↑ 28 + r.x.value ↑ 16 + r.d.value ↑ 13 + r.m.value ↑ 1

-- V12: VSHLLB and VSHLLT of bytes by less than 8, which stands behind 101 in bits 21 to 16, and VMOVLB and VMOVLT of bytes
-- (DDI0553, "VSHLL" and "VMOVL")
abbrev pub code_long_bytes : LongBytes → ℕ
code_long_bytes r = 0xeea80f40 + r.u.value ↑ 28 + r.k.value ↑ 16 + r.t.value ↑ 12 + r.d.value ↑ 13 + r.m.value ↑ 1

-- V12: VSHLLB and VSHLLT of halfwords by less than 16, which stands behind 11 in bits 21 to 16, and VMOVLB and VMOVLT of halfwords
-- (DDI0553, "VSHLL" and "VMOVL")
abbrev pub code_long_halves : LongHalves → ℕ
code_long_halves r = 0xeeb00f40 + r.u.value ↑ 28 + r.k.value ↑ 16 + r.t.value ↑ 12 + r.d.value ↑ 13 + r.m.value ↑ 1

-- V12: VSHLLB and VSHLLT by the size of the elements (DDI0553, "VSHLL")
abbrev pub code_long_full : LongFull → ℕ
code_long_full r = 0xee310e01 + r.u.value ↑ 28 + r.z.value ↑ 18 + r.t.value ↑ 12 + r.d.value ↑ 13 + r.m.value ↑ 1

-- V12: VSHLLB, VSHLLT, VMOVLB and VMOVLT (DDI0553, "VSHLL" and "VMOVL")
abbrev pub code_v12 : V12 → ℕ
code_v12 (v12.Bytes r) = code_long_bytes r
code_v12 (v12.Halves r) = code_long_halves r
code_v12 (v12.Full r) = code_long_full r

-- V13: the code of VCLS, VCLZ, VABS, VNEG, VQABS, VQNEG, size and registers 0 (DDI0553, "VCLS", "VCLZ", "VABS (vector)", "VNEG (vector)", "VQABS" and "VQNEG")
abbrev pub one_base : OneName → ℕ
one_base one.Cls = 0xffb00440
one_base one.Clz = 0xffb004c0
one_base one.Abs = 0xffb10340
one_base one.Neg = 0xffb103c0
one_base one.Qabs = 0xffb00740
one_base one.Qneg = 0xffb007c0

-- V13: VCLS, VCLZ, VABS, VNEG, VQABS and VQNEG (DDI0553, "VCLS", "VCLZ", "VABS (vector)", "VNEG (vector)", "VQABS" and "VQNEG")
abbrev pub code_one_element : OneElement → ℕ
code_one_element r = one_base r.name + r.z.value ↑ 18 + r.d.value ↑ 13 + r.m.value ↑ 1

-- V13: VMVN of a vector (DDI0553, "VMVN (register)")
abbrev pub code_invert : Invert → ℕ
code_invert r = 0xffb005c0 + r.d.value ↑ 13 + r.m.value ↑ 1

-- V13: VCLS, VCLZ, VABS, VNEG, VQABS, VQNEG and VMVN (DDI0553, "VCLS", "VCLZ", "VABS (vector)", "VNEG (vector)", "VQABS", "VQNEG" and "VMVN (register)")
abbrev pub code_v13 : V13 → ℕ
code_v13 (v13.Elements r) = code_one_element r
code_v13 (v13.Not r) = code_invert r

-- V14: the code of VREV64, VREV32 and VREV16, their size and registers 0 (DDI0553, "VREV64", "VREV32" and "VREV16")
abbrev pub reverse_base : ReverseName → ℕ
reverse_base reverse_.Rev64 = 0xffb00040
reverse_base reverse_.Rev32 = 0xffb000c0
reverse_base reverse_.Rev16 = 0xffb00140

-- V14: VREV64, VREV32 and VREV16 (DDI0553, "VREV64", "VREV32" and "VREV16")
abbrev pub code_v14 : V14 → ℕ
code_v14 r = reverse_base r.name + r.z.value ↑ 18 + r.d.value ↑ 13 + r.m.value ↑ 1

-- V15: VMOV, VMVN, VORR, VBIC of an immediate (DDI0553, "VMOV (immediate) (vector)", "VMVN (immediate)", "VORR (immediate)", "VBIC (immediate)")
abbrev pub code_v15 : V15 → ℕ
code_v15 r = 0xef800050 + r.i.value ↑ 28 + r.i3.value ↑ 16 + r.d.value ↑ 13 + r.cm.value ↑ 8 + r.op.value ↑ 5 + r.i4.value

-- V16: the code of VMOVNB and VMOVNT, VQMOVUNB and VQMOVUNT, and VQMOVNB and VQMOVNT of signed and of unsigned elements, all else 0
-- (DDI0553, "VMOVN", "VQMOVUN" and "VQMOVN")
abbrev pub narrowing_base : NarrowingName → ℕ
narrowing_base narrowing.Plain = 0xfe310e81
narrowing_base narrowing.ToUnsigned = 0xee310e81
narrowing_base narrowing.Signed = 0xee330e01
narrowing_base narrowing.Unsigned = 0xfe330e01

-- V16: VMOVNB, VMOVNT, VQMOVUNB, VQMOVUNT, VQMOVNB and VQMOVNT (DDI0553, "VMOVN", "VQMOVUN" and "VQMOVN")
abbrev pub code_v16 : V16 → ℕ
code_v16 r = narrowing_base r.name + r.z.value ↑ 18 + r.t.value ↑ 12 + r.d.value ↑ 13 + r.m.value ↑ 1

-- V17: VSHLC (DDI0553, "VSHLC")
abbrev pub code_v17 : V17 → ℕ
code_v17 r = 0xeea00fc0 + r.k.value ↑ 16 + r.d.value ↑ 13 + r.m.value

-- V18: the code of VDUP for each size of elements, its registers 0 (DDI0553, "VDUP")
abbrev pub dup_base : Element → ℕ
dup_base element.Bytes = 0xeee00b10
dup_base element.Halves = 0xeea00b30
dup_base element.Words = 0xeea00b10

-- V18: VDUP (DDI0553, "VDUP")
abbrev pub code_v18 : V18 → ℕ
code_v18 r = dup_base r.size + r.d.value ↑ 17 + r.t.value ↑ 12

-- V19: the code of VIWDUP, which goes up, and VDWDUP, which goes down, all else 0; VIDUP and VDDUP have bits 3 to 1 besides
-- (DDI0553, "VIDUP, VIWDUP" and "VDDUP, VDWDUP")
abbrev pub offsets_base : OffsetsName → ℕ
offsets_base offsets.Up = 0xee010f60
offsets_base offsets.Down = 0xee011f60

-- V19: the step of VIDUP, VDDUP, VIWDUP, VDWDUP, bit 1 in bit 7 and bit 0 in bit 0 (DDI0553, "VIDUP, VIWDUP" and "VDDUP, VDWDUP")
abbrev pub step_code : ℕ → ℕ
step_code k = (k / 2) ↑ 7 + k % 2

-- V19: VIDUP and VDDUP, which do not wrap (DDI0553, "VIDUP, VIWDUP" and "VDDUP, VDWDUP")
abbrev pub code_offsets : Offsets → ℕ
code_offsets r = offsets_base r.name + 0xe + r.z.value ↑ 20 + r.n.value ↑ 17 + r.d.value ↑ 13 + step_code r.k.value

-- V19: VIWDUP and VDWDUP, which wrap (DDI0553, "VIDUP, VIWDUP" and "VDDUP, VDWDUP")
abbrev pub code_wrapped_offsets : WrappedOffsets → ℕ
code_wrapped_offsets r = offsets_base r.name + r.z.value ↑ 20 + r.n.value ↑ 17 + r.d.value ↑ 13 + step_code r.k.value + r.r.value ↑ 1

-- V19: VIDUP, VDDUP, VIWDUP and VDWDUP (DDI0553, "VIDUP, VIWDUP" and "VDDUP, VDWDUP")
abbrev pub code_v19 : V19 → ℕ
code_v19 (v19.Free r) = code_offsets r
code_v19 (v19.Wrapped r) = code_wrapped_offsets r

-- V20 and V21: the mask of VPT and VPST, which VCMP and VPNOT have as 0, its bit 3 in bit 22 and the others in bits 15 to 13
-- (DDI0553, "VPT", "VPST", "VCMP (vector)" and "VPNOT")
abbrev pub mask_code : ℕ → ℕ
mask_code k = (k / 8) ↑ 22 + (k % 8) ↑ 13

-- V20: VCMP and VPT of two vectors (DDI0553, "VCMP (vector)" and "VPT")
abbrev pub code_compare_vectors : CompareVectors → ℕ
code_compare_vectors r =
    0xfe010f00 + mask_code r.k.value + r.z.value ↑ 20 + r.n.value ↑ 17 + (r.c.value / 4) ↑ 12 + (r.c.value % 2) ↑ 7 + r.m.value ↑ 1
    + r.c.value / 2 % 2

-- V20: VCMP and VPT of a vector and a core register or zero (DDI0553, "VCMP (vector)" and "VPT")
abbrev pub code_compare_scalar : CompareScalar → ℕ
code_compare_scalar r =
    0xfe010f40 + mask_code r.k.value + r.z.value ↑ 20 + r.n.value ↑ 17 + (r.c.value / 4) ↑ 12 + (r.c.value % 2) ↑ 7
    + (r.c.value / 2 % 2) ↑ 5 + r.m.value

-- V20: VCMP and VPT (DDI0553, "VCMP (vector)" and "VPT")
abbrev pub code_v20 : V20 → ℕ
code_v20 (v20.Vectors r) = code_compare_vectors r
code_v20 (v20.Scalar r) = code_compare_scalar r

-- V21: VPST, and VPNOT where the mask is 0 (DDI0553, "VPST" and "VPNOT")
abbrev pub code_block : Block → ℕ
code_block r = 0xfe310f4d + mask_code r.k.value

-- V21: VPSEL (DDI0553, "VPSEL")
abbrev pub code_select : Select → ℕ
code_select r = 0xfe310f01 + r.n.value ↑ 17 + r.d.value ↑ 13 + r.m.value ↑ 1

-- V21: VCTP (DDI0553, "VCTP")
abbrev pub code_tail : Tail → ℕ
code_tail r = 0xf000e801 + r.z.value ↑ 20 + r.n.value ↑ 16

-- V21: VPST, VPNOT, VPSEL and VCTP (DDI0553, "VPST", "VPNOT", "VPSEL" and "VCTP")
abbrev pub code_v21 : V21 → ℕ
code_v21 (v21.Block r) = code_block r
code_v21 (v21.Select r) = code_select r
code_v21 (v21.Tail r) = code_tail r

-- V22: VADDV and VADDVA (DDI0553, "VADDV")
abbrev pub code_sum : Sum → ℕ
code_sum r = 0xeef10f00 + r.u.value ↑ 28 + r.z.value ↑ 18 + r.l.value ↑ 13 + r.a.value ↑ 5 + r.m.value ↑ 1

-- V22: the code of VMLADAV for each size of signed elements, its registers 0; with the accumulate bit it is that of VMLADAVA (DDI0553, "VMLADAV")
abbrev pub dot_base : Element → ℕ
dot_base element.Bytes = 0xeef00f00
dot_base element.Halves = 0xeef00e00
dot_base element.Words = 0xeef10e00

-- V22: VMLADAV and VMLADAVA (DDI0553, "VMLADAV")
abbrev pub code_dot : Dot → ℕ
code_dot r = dot_base r.size + r.u.value ↑ 28 + r.n.value ↑ 17 + r.l.value ↑ 13 + r.a.value ↑ 5 + r.m.value ↑ 1

-- V22: VADDLV and VADDLVA (DDI0553, "VADDLV")
abbrev pub code_long_sum : LongSum → ℕ
code_long_sum r = 0xee890f00 + r.u.value ↑ 28 + r.h.value ↑ 20 + r.l.value ↑ 13 + r.a.value ↑ 5 + r.m.value ↑ 1

-- V22: VMLALDAV and VMLALDAVA (DDI0553, "VMLALDAV")
abbrev pub code_long_dot : LongDot → ℕ
code_long_dot r = 0xee800e00 + r.u.value ↑ 28 + r.h.value ↑ 20 + r.n.value ↑ 17 + r.s.value ↑ 16 + r.l.value ↑ 13 + r.a.value ↑ 5 + r.m.value ↑ 1

-- V22: VADDV, VADDVA, VMLADAV, VMLADAVA, VADDLV, VADDLVA, VMLALDAV and VMLALDAVA
-- (DDI0553, "VADDV", "VMLADAV", "VADDLV" and "VMLALDAV")
abbrev pub code_v22 : V22 → ℕ
code_v22 (v22.Sum r) = code_sum r
code_v22 (v22.Dot r) = code_dot r
code_v22 (v22.LongSum r) = code_long_sum r
code_v22 (v22.LongDot r) = code_long_dot r

-- V23: the code of VMAXV and VMINV of signed elements, their size and registers 0 (DDI0553, "VMAXV, VMAXAV" and "VMINV, VMINAV")
abbrev pub extreme_base : ExtremeName → ℕ
extreme_base extreme.Max = 0xeee20f00
extreme_base extreme.Min = 0xeee20f80

-- V23: VMAXV and VMINV (DDI0553, "VMAXV, VMAXAV" and "VMINV, VMINAV")
abbrev pub code_v23 : V23 → ℕ
code_v23 r = extreme_base r.name + r.u.value ↑ 28 + r.z.value ↑ 18 + r.t.value ↑ 12 + r.m.value ↑ 1

-- THE HALFWORDS of a code, one or two
-- a code of one halfword, as a list of it alone
abbrev pub one_half : ℕ → List ℕ
one_half c = c ∷ []

-- a code of two halfwords, the first of which stands in bits 31 to 16
abbrev pub two_halves : ℕ → List ℕ
two_halves c = c / 65536 ∷ c % 65536 ∷ []

-- the code of an instruction of the rows S1 to S21 and S23 to S25 (DDI0553, "T32 instruction set encoding", the 16-bit codes)
abbrev pub narrow_code : NarrowRow → ℕ
narrow_code (narrow.S1 r) = code_s1 r
narrow_code (narrow.S2 r) = code_s2 r
narrow_code (narrow.S3 r) = code_s3 r
narrow_code (narrow.S4 r) = code_s4 r
narrow_code (narrow.S5 r) = code_s5 r
narrow_code (narrow.S6 r) = code_s6 r
narrow_code (narrow.S7 r) = code_s7 r
narrow_code (narrow.S8 r) = code_s8 r
narrow_code (narrow.S9 r) = code_s9 r
narrow_code (narrow.S10 r) = code_s10 r
narrow_code (narrow.S11 r) = code_s11 r
narrow_code (narrow.S12 r) = code_s12 r
narrow_code (narrow.S13 r) = code_s13 r
narrow_code (narrow.S14 r) = code_s14 r
narrow_code (narrow.S15 r) = code_s15 r
narrow_code (narrow.S16 r) = code_s16 r
narrow_code (narrow.S17 r) = code_s17 r
narrow_code (narrow.S18 r) = code_s18 r
narrow_code (narrow.S19 r) = code_s19 r
narrow_code (narrow.S20 r) = code_s20 r
narrow_code (narrow.S21 r) = code_s21 r
narrow_code (narrow.S23 r) = code_s23 r
narrow_code (narrow.S24 r) = code_s24 r
narrow_code (narrow.S25 r) = code_s25 r

-- the code of an instruction of the rows T1 to T23, the first halfword in bits 31 to 16 (DDI0553, "T32 instruction set encoding", the 32-bit codes)
abbrev pub wide_code : WideRow → ℕ
wide_code (wide.T1 r) = code_t1 r
wide_code (wide.T2 r) = code_t2 r
wide_code (wide.T3 r) = code_t3 r
wide_code (wide.T4 r) = code_t4 r
wide_code (wide.T5 r) = code_t5 r
wide_code (wide.T6 r) = code_t6 r
wide_code (wide.T7 r) = code_t7 r
wide_code (wide.T8 r) = code_t8 r
wide_code (wide.T9 r) = code_t9 r
wide_code (wide.T10 r) = code_t10 r
wide_code (wide.T11 r) = code_t11 r
wide_code (wide.T12 r) = code_t12 r
wide_code (wide.T13 r) = code_t13 r
wide_code (wide.T14 r) = code_t14 r
wide_code (wide.T15 r) = code_t15 r
wide_code (wide.T16 r) = code_t16 r
wide_code (wide.T17 r) = code_t17 r
wide_code (wide.T18 r) = code_t18 r
wide_code (wide.T19 r) = code_t19 r
wide_code (wide.T20 r) = code_t20 r
wide_code (wide.T21 r) = code_t21 r
wide_code (wide.T22 r) = code_t22 r
wide_code (wide.T23 r) = code_t23 r

-- the code of an instruction of the rows V1 to V28, the first halfword in bits 31 to 16 (DDI0553, "M-profile Vector Extension")
abbrev pub vector_code : Vector → ℕ
vector_code (vector.V1 r) = code_v1 r
vector_code (vector.V2 r) = code_v2 r
vector_code (vector.V3 r) = code_v3 r
vector_code (vector.V4 r) = code_v4 r
vector_code (vector.V5 r) = code_v5 r
vector_code (vector.V6 r) = code_v6 r
vector_code (vector.V7 r) = code_v7 r
vector_code (vector.V8 r) = code_v8 r
vector_code (vector.V9 r) = code_v9 r
vector_code (vector.V10 r) = code_v10 r
vector_code (vector.V11 r) = code_v11 r
vector_code (vector.V12 r) = code_v12 r
vector_code (vector.V13 r) = code_v13 r
vector_code (vector.V14 r) = code_v14 r
vector_code (vector.V15 r) = code_v15 r
vector_code (vector.V16 r) = code_v16 r
vector_code (vector.V17 r) = code_v17 r
vector_code (vector.V18 r) = code_v18 r
vector_code (vector.V19 r) = code_v19 r
vector_code (vector.V20 r) = code_v20 r
vector_code (vector.V21 r) = code_v21 r
vector_code (vector.V22 r) = code_v22 r
vector_code (vector.V23 r) = code_v23 r
vector_code (vector.V24 r) = code_v24 r
vector_code (vector.V25 r) = code_v25 r
vector_code (vector.V26 r) = code_v26 r
vector_code (vector.V27 r) = code_v27 r
vector_code (vector.V28 r) = code_v28 r

-- the halfwords of an instruction by the width of its code
abbrev pub halves_by_width : ByWidth → List ℕ
halves_by_width (by.Narrow r) = one_half (narrow_code r)
halves_by_width (by.Wide r) = two_halves (wide_code r)
halves_by_width (by.Vector r) = two_halves (vector_code r)

-- the halfwords of an instruction, one or two, as they stand one after another in memory
abbrev pub halfwords : Instr → List ℕ
halfwords i = halves_by_width (by_width i)

-- how many bytes the code of an instruction has
abbrev pub width_of : Instr → ℕ
width_of i = 2 * length (halfwords i)
