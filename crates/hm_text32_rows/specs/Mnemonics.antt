-- The mnemonics of rows of two halfwords, but for those whose names rows of one share, and the names that stand for operands.
use Rattle.std.specs.Prelude.{ℕ, ◌*◌, List, [], ◌∷◌, ◌++◌, get_or, codes}
use Rattle.hm_isa.specs.declared.narrow.SumName.{SumName}
use Rattle.hm_isa.specs.declared.narrow.SumName.TheVariants as sum_
use Rattle.hm_isa.specs.declared.arith.AccumulateName.{AccumulateName}
use Rattle.hm_isa.specs.declared.arith.AccumulateName.TheVariants as accumulate
use Rattle.hm_isa.specs.declared.arith.BitsName.{BitsName}
use Rattle.hm_isa.specs.declared.arith.BitsName.TheVariants as bits
use Rattle.hm_isa.specs.declared.arith.LongProductName.{LongProductName}
use Rattle.hm_isa.specs.declared.arith.LongProductName.TheVariants as long
use Rattle.hm_isa.specs.declared.arith.OperationName.{OperationName}
use Rattle.hm_isa.specs.declared.arith.OperationName.TheVariants as operation
use Rattle.hm_isa.specs.declared.arith.SelectName.{SelectName}
use Rattle.hm_isa.specs.declared.arith.SelectName.TheVariants as select
use Rattle.hm_isa.specs.declared.arith.WideShiftName.{WideShiftName}
use Rattle.hm_isa.specs.declared.arith.WideShiftName.TheVariants as wide_shift
use Rattle.hm_isa.specs.declared.data.DataName.{DataName}
use Rattle.hm_isa.specs.declared.data.DataName.TheVariants as data_
use Rattle.hm_isa.specs.declared.data.ExtractName.{ExtractName}
use Rattle.hm_isa.specs.declared.data.ExtractName.TheVariants as extract
use Rattle.hm_isa.specs.declared.data.HalfName.{HalfName}
use Rattle.hm_isa.specs.declared.data.HalfName.TheVariants as half
use Rattle.hm_isa.specs.declared.data.SaturateName.{SaturateName}
use Rattle.hm_isa.specs.declared.data.SaturateName.TheVariants as saturate
use Rattle.hm_isa.specs.declared.jumps.TableName.{TableName}
use Rattle.hm_isa.specs.declared.jumps.TableName.TheVariants as table
use Rattle.hm_isa.specs.declared.jumps.WideBranchName.{WideBranchName}
use Rattle.hm_isa.specs.declared.jumps.WideBranchName.TheVariants as wide_branch
use Rattle.hm_isa.specs.declared.wide.PairName.{PairName}
use Rattle.hm_isa.specs.declared.wide.PairName.TheVariants as pair
use Rattle.hm_isa.specs.declared.wide.WideListName.{WideListName}
use Rattle.hm_isa.specs.declared.wide.WideListName.TheVariants as wide_list
use Rattle.hm_isa.specs.declared.wide.StackName.{StackName}
use Rattle.hm_isa.specs.declared.wide.StackName.TheVariants as stack
use Rattle.hm_isa.specs.declared.system.BarrierName.{BarrierName}
use Rattle.hm_isa.specs.declared.system.BarrierName.TheVariants as barrier
use Rattle.hm_isa.specs.declared.system.ReadName.{ReadName}
use Rattle.hm_isa.specs.declared.system.ReadName.TheVariants as read
use Rattle.hm_isa.specs.declared.system.WrittenName.{WrittenName}
use Rattle.hm_isa.specs.declared.system.WrittenName.TheVariants as written
use Rattle.hm_text_rows.specs.Shapes.{either}

-- `.w`, behind the mnemonic of a row that is wide
abbrev pub wide : List ℕ
wide = codes ".w"

-- MNEMONICS
-- T1 and T2: the mnemonic of AND, BIC, ORR, ORN, EOR, ADD, ADC, SBC, SUB and RSB, with s where the flags tell the result
-- (DDI0553, "Data-processing (modified immediate)" and "Data-processing (shifted register)")
abbrev pub data_mnemonic : DataName → ℕ → List ℕ
data_mnemonic data_.And s = either s (codes "and") (codes "ands")
data_mnemonic data_.Bic s = either s (codes "bic") (codes "bics")
data_mnemonic data_.Orr s = either s (codes "orr") (codes "orrs")
data_mnemonic data_.Orn s = either s (codes "orn") (codes "orns")
data_mnemonic data_.Eor s = either s (codes "eor") (codes "eors")
data_mnemonic data_.Add s = either s (codes "add") (codes "adds")
data_mnemonic data_.Adc s = either s (codes "adc") (codes "adcs")
data_mnemonic data_.Sbc s = either s (codes "sbc") (codes "sbcs")
data_mnemonic data_.Sub s = either s (codes "sub") (codes "subs")
data_mnemonic data_.Rsb s = either s (codes "rsb") (codes "rsbs")

-- T1 and T2: the mnemonic of TST, TEQ, CMN and CMP, which have no register for the result; the others are no tests
-- (DDI0553, "Data-processing (modified immediate)" and "Data-processing (shifted register)")
abbrev pub test_mnemonic : DataName → List ℕ
test_mnemonic data_.And = codes "tst"
test_mnemonic data_.Eor = codes "teq"
test_mnemonic data_.Add = codes "cmn"
test_mnemonic data_.Sub = codes "cmp"
test_mnemonic name = []

-- T1 and T2: the mnemonic of MOV and MVN, which have no first register, with s where the flags tell the result; the others have one
-- (DDI0553, "Data-processing (modified immediate)" and "Data-processing (shifted register)")
abbrev pub move_mnemonic : DataName → ℕ → List ℕ
move_mnemonic data_.Orr s = either s (codes "mov") (codes "movs")
move_mnemonic data_.Orn s = either s (codes "mvn") (codes "mvns")
move_mnemonic name s = []

-- T2 and T8: the mnemonic of LSL, LSR, ASR and ROR, by the number of the shift, and in T2 and T5 the operand that says how a register is shifted
-- (DDI0553, "Data-processing (shifted register)", "LSL (register)", "LSR (register)", "ASR (register)", "ROR (register)", "SSAT" and "USAT")
abbrev pub shift_mnemonic : ℕ → List ℕ
shift_mnemonic ty = get_or (codes "lsl" ∷ codes "lsr" ∷ codes "asr" ∷ codes "ror" ∷ []) ty []

-- T2 and T8: the mnemonic of LSL, LSR, ASR and ROR, by the number of the shift, with s where the flags tell the result
-- (DDI0553, "Data-processing (shifted register)", "LSL (register)", "LSR (register)", "ASR (register)" and "ROR (register)")
abbrev pub shift_mnemonic_with_flags : ℕ → ℕ → List ℕ
shift_mnemonic_with_flags ty s = shift_mnemonic ty ++ either s [] (codes "s")

-- T2: RRX, or RRXS where the flags tell the result (DDI0553, "Data-processing (shifted register)")
abbrev pub carry_mnemonic : ℕ → List ℕ
carry_mnemonic s = either s (codes "rrx") (codes "rrxs")

-- T3: the mnemonic of each name, ADDW and SUBW
-- (DDI0553, "ADD (immediate)" and "ADD (SP plus immediate)", encodings T4, "SUB (immediate)", encoding T4, "SUB (SP minus immediate)", encoding T3,
-- and "ADR", encodings T2 and T3)
abbrev pub wide_sum_mnemonic : SumName → List ℕ
wide_sum_mnemonic sum_.Add = codes "addw"
wide_sum_mnemonic sum_.Sub = codes "subw"

-- T4: the mnemonic of each name, MOVW and MOVT (DDI0553, "MOV (immediate)" and "MOVT")
abbrev pub half_mnemonic : HalfName → List ℕ
half_mnemonic half.Movw = codes "movw"
half_mnemonic half.Movt = codes "movt"

-- T5: the mnemonic of each name, SSAT and USAT (DDI0553, "SSAT" and "USAT")
abbrev pub saturate_mnemonic : SaturateName → List ℕ
saturate_mnemonic saturate.Ssat = codes "ssat"
saturate_mnemonic saturate.Usat = codes "usat"

-- T6: the mnemonic of each name, SBFX and UBFX (DDI0553, "SBFX" and "UBFX")
abbrev pub extract_mnemonic : ExtractName → List ℕ
extract_mnemonic extract.Sbfx = codes "sbfx"
extract_mnemonic extract.Ubfx = codes "ubfx"

-- T8: the mnemonic of each name, LSL, LSR, ASR and ROR, with s where the flags tell the result
-- (DDI0553, "LSL (register)", "LSR (register)", "ASR (register)" and "ROR (register)")
abbrev pub wide_shift_mnemonic : WideShiftName → ℕ → List ℕ
wide_shift_mnemonic wide_shift.Lsl s = shift_mnemonic_with_flags 0 s
wide_shift_mnemonic wide_shift.Lsr s = shift_mnemonic_with_flags 1 s
wide_shift_mnemonic wide_shift.Asr s = shift_mnemonic_with_flags 2 s
wide_shift_mnemonic wide_shift.Ror s = shift_mnemonic_with_flags 3 s

-- T10: the mnemonic of each name, REV, REV16, RBIT, REVSH and CLZ (DDI0553, "REV", "REV16", "RBIT", "REVSH" and "CLZ")
abbrev pub bits_mnemonic : BitsName → List ℕ
bits_mnemonic bits.Rev = codes "rev"
bits_mnemonic bits.Rev16 = codes "rev16"
bits_mnemonic bits.Rbit = codes "rbit"
bits_mnemonic bits.Revsh = codes "revsh"
bits_mnemonic bits.Clz = codes "clz"

-- T10: what stands behind the mnemonic: REV, REV16 and REVSH, which a row of one halfword has too, are wide, and behind RBIT and CLZ nothing stands
-- (DDI0553, "REV", "REV16", "RBIT", "REVSH" and "CLZ")
abbrev pub bits_suffix : BitsName → List ℕ
bits_suffix bits.Rbit = []
bits_suffix bits.Clz = []
bits_suffix name = wide

-- T11: the mnemonic of each name, MUL, SDIV and UDIV (DDI0553, "MUL", "SDIV" and "UDIV")
abbrev pub operation_mnemonic : OperationName → List ℕ
operation_mnemonic operation.Mul = codes "mul"
operation_mnemonic operation.Sdiv = codes "sdiv"
operation_mnemonic operation.Udiv = codes "udiv"

-- T11: the mnemonic of each name, MLA and MLS (DDI0553, "MLA" and "MLS")
abbrev pub accumulate_mnemonic : AccumulateName → List ℕ
accumulate_mnemonic accumulate.Mla = codes "mla"
accumulate_mnemonic accumulate.Mls = codes "mls"

-- T11: the mnemonic of each name, SMULL, UMULL, SMLAL and UMLAL (DDI0553, "SMULL", "UMULL", "SMLAL" and "UMLAL")
abbrev pub long_mnemonic : LongProductName → List ℕ
long_mnemonic long.Smull = codes "smull"
long_mnemonic long.Umull = codes "umull"
long_mnemonic long.Smlal = codes "smlal"
long_mnemonic long.Umlal = codes "umlal"

-- T20: the mnemonic of each name, CSEL, CSINC, CSINV and CSNEG (DDI0553, "CSEL", "CSINC", "CSINV" and "CSNEG")
abbrev pub select_mnemonic : SelectName → List ℕ
select_mnemonic select.Csel = codes "csel"
select_mnemonic select.Csinc = codes "csinc"
select_mnemonic select.Csinv = codes "csinv"
select_mnemonic select.Csneg = codes "csneg"

-- T17: the mnemonic of each name, TBB and TBH (DDI0553, "TBB, TBH")
abbrev pub table_mnemonic : TableName → List ℕ
table_mnemonic table.Tbb = codes "tbb"
table_mnemonic table.Tbh = codes "tbh"

-- T19: the mnemonic of each name, DSB, DMB and ISB (DDI0553, "DSB", "DMB" and "ISB")
abbrev pub barrier_mnemonic : BarrierName → List ℕ
barrier_mnemonic barrier.Dsb = codes "dsb"
barrier_mnemonic barrier.Dmb = codes "dmb"
barrier_mnemonic barrier.Isb = codes "isb"

-- T15: the mnemonic of each name, VPUSH and VPOP (DDI0553, "VPUSH" and "VPOP")
abbrev pub stack_mnemonic : StackName → List ℕ
stack_mnemonic stack.Vpush = codes "vpush"
stack_mnemonic stack.Vpop = codes "vpop"

-- T13: the mnemonic of each name, STRD and LDRD (DDI0553, "STRD (immediate)", "LDRD (immediate)" and "LDRD (literal)")
abbrev pub pair_mnemonic : PairName → List ℕ
pair_mnemonic pair.Strd = codes "strd"
pair_mnemonic pair.Ldrd = codes "ldrd"

-- T14: the mnemonic of each name, STMIA, LDMIA, STMDB and LDMDB (DDI0553, "STM, STMIA, STMEA", "LDM, LDMIA, LDMFD", "STMDB, STMFD" and "LDMDB, LDMEA")
abbrev pub wide_list_mnemonic : WideListName → List ℕ
wide_list_mnemonic wide_list.Stmia = codes "stmia"
wide_list_mnemonic wide_list.Ldmia = codes "ldmia"
wide_list_mnemonic wide_list.Stmdb = codes "stmdb"
wide_list_mnemonic wide_list.Ldmdb = codes "ldmdb"

-- T14: what stands behind the mnemonic: STMIA and LDMIA, which a row of one halfword has too, are wide, and behind STMDB and LDMDB nothing stands
-- (DDI0553, "STM, STMIA, STMEA", "LDM, LDMIA, LDMFD", "STMDB, STMFD" and "LDMDB, LDMEA")
abbrev pub wide_list_suffix : WideListName → List ℕ
wide_list_suffix wide_list.Stmia = wide
wide_list_suffix wide_list.Ldmia = wide
wide_list_suffix wide_list.Stmdb = []
wide_list_suffix wide_list.Ldmdb = []

-- T16: the mnemonic of each name, B and BL (DDI0553, "B", encoding T4, and "BL", encoding T1)
abbrev pub wide_branch_mnemonic : WideBranchName → List ℕ
wide_branch_mnemonic wide_branch.B = codes "b"
wide_branch_mnemonic wide_branch.Bl = codes "bl"

-- T16: what stands behind the mnemonic: B, which a row of one halfword has too, is wide, and behind BL nothing stands
-- (DDI0553, "B", encoding T4, and "BL", encoding T1)
abbrev pub wide_branch_suffix : WideBranchName → List ℕ
wide_branch_suffix wide_branch.B = wide
wide_branch_suffix wide_branch.Bl = []

-- T5: how SSAT and USAT shift, LSL or ASR, whose numbers are 0 and 2 (DDI0553, "SSAT" and "USAT")
abbrev pub saturate_shift : ℕ → List ℕ
saturate_shift sh = shift_mnemonic (2 * sh)

-- SPECIAL REGISTERS
-- T18: the name of each special register that MRS reads (DDI0553, "MRS")
abbrev pub read_name : ReadName → List ℕ
read_name read.Apsr = codes "apsr"
read_name read.Ipsr = codes "ipsr"
read_name read.Msp = codes "msp"
read_name read.Psp = codes "psp"
read_name read.Primask = codes "primask"
read_name read.Basepri = codes "basepri"
read_name read.Control = codes "control"

-- T18: the name of each special register that MSR writes (DDI0553, "MSR (register)")
abbrev pub written_name : WrittenName → List ℕ
written_name written.Apsr = codes "apsr"
written_name written.Msp = codes "msp"
written_name written.Psp = codes "psp"
written_name written.Primask = codes "primask"
written_name written.Basepri = codes "basepri"
written_name written.Control = codes "control"
