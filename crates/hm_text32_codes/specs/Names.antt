-- The names of rows of two halfwords, no vector rows, that a mnemonic may be of; numbers of shifts, and special registers.
use Rattle.std.specs.Prelude.{ℕ, List, [], ◌∷◌, Option, option_map}
use Rattle.std.specs.Option.{option_or}
use Rattle.hm_isa.specs.declared.arith.AccumulateName.{AccumulateName}
use Rattle.hm_isa.specs.declared.arith.AccumulateName.TheVariants as accumulate
use Rattle.hm_isa.specs.declared.arith.BitsName.{BitsName}
use Rattle.hm_isa.specs.declared.arith.BitsName.TheVariants as bits
use Rattle.hm_isa.specs.declared.arith.LongProductName.{LongProductName}
use Rattle.hm_isa.specs.declared.arith.LongProductName.TheVariants as long
use Rattle.hm_isa.specs.declared.arith.OperationName.{OperationName}
use Rattle.hm_isa.specs.declared.arith.OperationName.TheVariants as operation
use Rattle.hm_isa.specs.declared.arith.SelectName.{SelectName}
use Rattle.hm_isa.specs.declared.arith.SelectName.TheVariants as select
use Rattle.hm_isa.specs.declared.arith.WideShiftName.{WideShiftName}
use Rattle.hm_isa.specs.declared.arith.WideShiftName.TheVariants as wide_shift
use Rattle.hm_isa.specs.declared.data.DataName.{DataName}
use Rattle.hm_isa.specs.declared.data.DataName.TheVariants as data_
use Rattle.hm_isa.specs.declared.data.ExtractName.{ExtractName}
use Rattle.hm_isa.specs.declared.data.ExtractName.TheVariants as extract
use Rattle.hm_isa.specs.declared.data.HalfName.{HalfName}
use Rattle.hm_isa.specs.declared.data.HalfName.TheVariants as half
use Rattle.hm_isa.specs.declared.data.SaturateName.{SaturateName}
use Rattle.hm_isa.specs.declared.data.SaturateName.TheVariants as saturate
use Rattle.hm_isa.specs.declared.jumps.TableName.{TableName}
use Rattle.hm_isa.specs.declared.jumps.TableName.TheVariants as table
use Rattle.hm_isa.specs.declared.jumps.WideBranchName.{WideBranchName}
use Rattle.hm_isa.specs.declared.jumps.WideBranchName.TheVariants as wide_branch
use Rattle.hm_isa.specs.declared.system.BarrierName.{BarrierName}
use Rattle.hm_isa.specs.declared.system.BarrierName.TheVariants as barrier
use Rattle.hm_isa.specs.declared.system.ReadName.{ReadName}
use Rattle.hm_isa.specs.declared.system.ReadName.TheVariants as read
use Rattle.hm_isa.specs.declared.wide.PairName.{PairName}
use Rattle.hm_isa.specs.declared.wide.PairName.TheVariants as pair
use Rattle.hm_isa.specs.declared.wide.StackName.{StackName}
use Rattle.hm_isa.specs.declared.wide.StackName.TheVariants as stack
use Rattle.hm_isa.specs.declared.wide.WideListName.{WideListName}
use Rattle.hm_isa.specs.declared.wide.WideListName.TheVariants as wide_list
use Rattle.hm_text_rows.specs.Names.{named, named_with_bit}
use Rattle.hm_text32_codes.specs.declared.names.DataKind.{DataKind}
use Rattle.hm_text32_codes.specs.declared.names.DataKind.TheVariants as kind
use Rattle.hm_text32_rows.specs.Mnemonics.{carry_mnemonic, data_mnemonic, move_mnemonic, test_mnemonic, shift_mnemonic_with_flags}

-- T1 and T2: AND, BIC, ORR, ORN, EOR, ADD, ADC, SBC, SUB and RSB (DDI0553, "Data-processing (modified immediate)" and "Data-processing (shifted register)")
abbrev pub data_names : List DataName
data_names =
    data_.And ∷ data_.Bic ∷ data_.Orr ∷ data_.Orn ∷ data_.Eor ∷ data_.Add ∷ data_.Adc ∷ data_.Sbc ∷ data_.Sub ∷ data_.Rsb ∷ []

-- the numbers of the shifts that a word may name, 0 to 3 for LSL, LSR, ASR and ROR (DDI0553, "DecodeImmShift")
abbrev pub shift_numbers : List ℕ
shift_numbers = 0 ∷ 1 ∷ 2 ∷ 3 ∷ []

-- T4: MOVW and MOVT (DDI0553, "MOV (immediate)" and "MOVT")
abbrev pub half_names : List HalfName
half_names = half.Movw ∷ half.Movt ∷ []

-- T5: SSAT and USAT (DDI0553, "SSAT" and "USAT")
abbrev pub saturate_names : List SaturateName
saturate_names = saturate.Ssat ∷ saturate.Usat ∷ []

-- T6: SBFX and UBFX (DDI0553, "SBFX" and "UBFX")
abbrev pub extract_names : List ExtractName
extract_names = extract.Sbfx ∷ extract.Ubfx ∷ []

-- T10: REV, REV16, RBIT, REVSH and CLZ (DDI0553, "REV", "REV16", "REVSH", "RBIT" and "CLZ")
abbrev pub bits_names : List BitsName
bits_names = bits.Rev ∷ bits.Rev16 ∷ bits.Rbit ∷ bits.Revsh ∷ bits.Clz ∷ []

-- T11: MUL, SDIV and UDIV (DDI0553, "MUL", "SDIV" and "UDIV")
abbrev pub operation_names : List OperationName
operation_names = operation.Mul ∷ operation.Sdiv ∷ operation.Udiv ∷ []

-- T11: MLA and MLS (DDI0553, "MLA" and "MLS")
abbrev pub accumulate_names : List AccumulateName
accumulate_names = accumulate.Mla ∷ accumulate.Mls ∷ []

-- T11: SMULL, UMULL, SMLAL and UMLAL (DDI0553, "SMULL", "UMULL", "SMLAL" and "UMLAL")
abbrev pub long_names : List LongProductName
long_names = long.Smull ∷ long.Umull ∷ long.Smlal ∷ long.Umlal ∷ []

-- T13: STRD and LDRD (DDI0553, "STRD (immediate)", "LDRD (immediate)" and "LDRD (literal)")
abbrev pub pair_names : List PairName
pair_names = pair.Strd ∷ pair.Ldrd ∷ []

-- T14: STMIA, LDMIA, STMDB and LDMDB (DDI0553, "STM, STMIA, STMEA", "LDM, LDMIA, LDMFD", "STMDB, STMFD" and "LDMDB, LDMEA")
abbrev pub wide_list_names : List WideListName
wide_list_names = wide_list.Stmia ∷ wide_list.Ldmia ∷ wide_list.Stmdb ∷ wide_list.Ldmdb ∷ []

-- T15: VPUSH and VPOP (DDI0553, "VPUSH" and "VPOP")
abbrev pub stack_names : List StackName
stack_names = stack.Vpush ∷ stack.Vpop ∷ []

-- T16: B under no condition, and BL (DDI0553, "B" and "BL")
abbrev pub wide_branch_names : List WideBranchName
wide_branch_names = wide_branch.B ∷ wide_branch.Bl ∷ []

-- T17: TBB and TBH (DDI0553, "TBB, TBH")
abbrev pub table_names : List TableName
table_names = table.Tbb ∷ table.Tbh ∷ []

-- T18: the special registers of MRS and MSR: APSR, IPSR, MSP, PSP, PRIMASK, BASEPRI and CONTROL (DDI0553, "MRS" and "MSR (register)")
abbrev pub special_names : List ReadName
special_names = read.Apsr ∷ read.Ipsr ∷ read.Msp ∷ read.Psp ∷ read.Primask ∷ read.Basepri ∷ read.Control ∷ []

-- T19: DSB, DMB and ISB (DDI0553, "DSB", "DMB" and "ISB")
abbrev pub barrier_names : List BarrierName
barrier_names = barrier.Dsb ∷ barrier.Dmb ∷ barrier.Isb ∷ []

-- T20: CSEL, CSINC, CSINV and CSNEG (DDI0553, "CSEL", "CSINC", "CSINV" and "CSNEG")
abbrev pub select_names : List SelectName
select_names = select.Csel ∷ select.Csinc ∷ select.Csinv ∷ select.Csneg ∷ []

-- MNEMONICS of some rows alone
-- T1, T2 and T8: the mnemonic that says this, of AND, BIC, ORR, ORN, EOR, ADD, ADC, SBC, SUB, RSB, TST, TEQ, CMN, CMP, MOV, MVN, RRX, LSL, LSR, ASR
-- and ROR
-- (DDI0553, "Data-processing (modified immediate)", "Data-processing (shifted register)", "LSL (register)", "LSR (register)", "ASR (register)" and
-- "ROR (register)")
abbrev pub kind_mnemonic : DataKind → List ℕ
kind_mnemonic (kind.Three name s) = data_mnemonic name s
kind_mnemonic (kind.Test name) = test_mnemonic name
kind_mnemonic (kind.Move name s) = move_mnemonic name s
kind_mnemonic (kind.Carry s) = carry_mnemonic s
kind_mnemonic (kind.Shift ty s) = shift_mnemonic_with_flags ty s

-- T1 and T2: TST, TEQ, CMN and CMP, which have no register for the result, and MOV and MVN, which have no first register
-- (DDI0553, "Data-processing (modified immediate)" and "Data-processing (shifted register)")
abbrev pub move_kinds : List DataKind
move_kinds =
    kind.Test data_.And ∷ kind.Test data_.Eor ∷ kind.Test data_.Add ∷ kind.Test data_.Sub
    ∷ kind.Move data_.Orr 0 ∷ kind.Move data_.Orr 1 ∷ kind.Move data_.Orn 0 ∷ kind.Move data_.Orn 1 ∷ []

-- T2 and T8: RRX, and LSL, LSR, ASR and ROR
-- (DDI0553, "Data-processing (shifted register)", "LSL (register)", "LSR (register)", "ASR (register)" and "ROR (register)")
abbrev pub kinds_of_shifts : List DataKind
kinds_of_shifts =
    kind.Carry 0 ∷ kind.Carry 1 ∷ kind.Shift 0 0 ∷ kind.Shift 0 1 ∷ kind.Shift 1 0 ∷ kind.Shift 1 1 ∷ kind.Shift 2 0 ∷ kind.Shift 2 1
    ∷ kind.Shift 3 0 ∷ kind.Shift 3 1 ∷ []

-- T1, T2 and T8: what a mnemonic says, of AND, BIC, ORR, ORN, EOR, ADD, ADC, SBC, SUB, RSB, TST, TEQ, CMN, CMP, MOV, MVN, RRX, LSL, LSR, ASR and ROR;
-- None of another
-- (DDI0553, "Data-processing (modified immediate)", "Data-processing (shifted register)", "LSL (register)", "LSR (register)", "ASR (register)" and
-- "ROR (register)")
abbrev pub kind_in : List ℕ → Option DataKind
kind_in s =
    option_or (option_map (λ p. kind.Three p.0 p.1) (named_with_bit data_mnemonic data_names s))
    (option_or (named kind_mnemonic move_kinds s) (named kind_mnemonic kinds_of_shifts s))

-- T8: the number of LSL, LSR, ASR and ROR (DDI0553, "LSL (register)", "LSR (register)", "ASR (register)" and "ROR (register)")
abbrev pub shift_number_of : WideShiftName → ℕ
shift_number_of wide_shift.Lsl = 0
shift_number_of wide_shift.Lsr = 1
shift_number_of wide_shift.Asr = 2
shift_number_of wide_shift.Ror = 3
