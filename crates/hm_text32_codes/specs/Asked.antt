-- What the text of each row gives a reader, its mnemonic and its operands as numbers, and what a reader owes for it.
use Rattle.std.specs.Prelude.{◌≡◌, ℕ, Bool, true, false, ◌+◌, ◌-◌, ◌*◌, ◌%◌, ◌^◌, cond, nat_eq, if◌then◌else◌, List, Option, Some, codes}
use Rattle.hm_isa.specs.declared.arith.T11.TheVariants as t11
use Rattle.hm_isa.specs.declared.data.DataName.{DataName}
use Rattle.hm_isa.specs.declared.data.DataName.TheVariants as data_
use Rattle.hm_isa.specs.declared.data.T1.{T1}
use Rattle.hm_isa.specs.declared.data.T2.{T2}
use Rattle.hm_isa.specs.declared.jumps.LoopEndName.{LoopEndName}
use Rattle.hm_isa.specs.declared.jumps.LoopEndName.TheVariants as loop_end
use Rattle.hm_isa.specs.declared.jumps.T16.TheVariants as t16
use Rattle.hm_isa.specs.declared.jumps.T23.{T23}
use Rattle.hm_isa.specs.declared.jumps.T23.TheVariants as t23
use Rattle.hm_isa.specs.declared.jumps.TableName.{TableName}
use Rattle.hm_isa.specs.declared.jumps.TableName.TheVariants as table
use Rattle.hm_isa.specs.declared.system.Barrier.{Barrier}
use Rattle.hm_isa.specs.declared.system.LaneMoveName.{LaneMoveName}
use Rattle.hm_isa.specs.declared.system.LaneMoveName.TheVariants as lane
use Rattle.hm_isa.specs.declared.system.SystemMoveName.{SystemMoveName}
use Rattle.hm_isa.specs.declared.system.SystemMoveName.TheVariants as move
use Rattle.hm_isa.specs.declared.system.T18.TheVariants as t18
use Rattle.hm_isa.specs.declared.system.T19.TheVariants as t19
use Rattle.hm_isa.specs.declared.system.WrittenName.{WrittenName}
use Rattle.hm_isa.specs.declared.wide.T12.{T12}
use Rattle.hm_isa.specs.declared.wide.T12.TheVariants as t12
use Rattle.hm_isa.specs.declared.widths.WideRow.{WideRow}
use Rattle.hm_isa.specs.declared.widths.WideRow.TheVariants as wide
use Rattle.hm_isa.specs.Code.{wide_code}
use Rattle.hm_isa.specs.Standing.{◌↑◌}
use Rattle.hm_isa.specs.SystemCodes.{written_base}
use Rattle.hm_isa.specs.Words.{imm12, imm16, imm5, is_by_carry, shift_number}
use Rattle.hm_tokens.specs.Tokens.{Tok, is_number}
use Rattle.hm_text_rows.specs.Labels.{IsLabel, Reaches}
use Rattle.hm_text_rows.specs.Mnemonics.{access_mnemonic, branch_mnemonic, extend_mnemonic}
use Rattle.hm_text_rows.specs.Operands.{is_vector}
use Rattle.hm_text32_rows.specs.Mnemonics.{accumulate_mnemonic, barrier_mnemonic, bits_mnemonic, extract_mnemonic}
use Rattle.hm_text32_rows.specs.Mnemonics.{half_mnemonic, long_mnemonic, operation_mnemonic, pair_mnemonic, saturate_mnemonic}
use Rattle.hm_text32_rows.specs.Mnemonics.{select_mnemonic, stack_mnemonic, table_mnemonic, wide_branch_mnemonic}
use Rattle.hm_text32_rows.specs.Mnemonics.{wide_list_mnemonic, wide_shift_mnemonic, wide_sum_mnemonic}
use Rattle.hm_text32_rows.specs.Rows.{constant_in, is_unshifted, other_tokens, row_tokens, saturated_bits, tokens_of}
use Rattle.hm_text32_rows.specs.Targets.{target}
use Rattle.hm_text32_codes.specs.declared.names.DataKind.{DataKind}
use Rattle.hm_text32_codes.specs.declared.names.DataKind.TheVariants as kind
use Rattle.hm_text32_codes.specs.declared.operands.Operands.{Operands}
use Rattle.hm_text32_codes.specs.Names.{kind_mnemonic}
use Rattle.hm_text32_codes.specs.Operands.{operands_in, special_number, wide_value}

-- MNEMONICS
-- T1 and T2: the letters of a row, what stands last in its text, the constant or the register m, and how that is shifted
-- (DDI0553, "Data-processing (modified immediate)" and "Data-processing (shifted register)")
pub record Letters : Type 0 where
  pub name : DataName
  pub s : ℕ
  pub n : ℕ
  pub d : ℕ
  pub is_number : Bool
  pub last : ℕ
  pub ty : ℕ
  pub k : ℕ

-- T1 and T2: the letters in this order (DDI0553, "Data-processing (modified immediate)" and "Data-processing (shifted register)")
abbrev pub letters : DataName → ℕ → ℕ → ℕ → Bool → ℕ → ℕ → ℕ → Letters
letters name s n d is_number last ty k = record {
  name = name;
  s = s;
  n = n;
  d = d;
  is_number = is_number;
  last = last;
  ty = ty;
  k = k;
}

-- T1: the letters of AND, BIC, ORR, ORN, EOR, ADD, ADC, SBC, SUB, RSB, TST, TEQ, CMN, CMP, MOV and MVN, whose constant is not shifted
-- (DDI0553, "Data-processing (modified immediate)")
abbrev pub letters_t1 : T1 → Letters
letters_t1 i = letters i.name i.s.value i.n.value i.d.value true (constant_in i.i.value i.i3.value i.i8.value) 0 0

-- T2: the letters of AND, BIC, ORR, ORN, EOR, ADD, ADC, SBC, SUB, RSB, TST, TEQ, CMN, CMP, MOV, MVN, LSL, LSR, ASR, ROR and RRX,
-- whose register m is shifted by k (DDI0553, "Data-processing (shifted register)")
abbrev pub letters_t2 : T2 → Letters
letters_t2 i = letters i.name i.s.value i.n.value i.d.value false i.m.value i.ty.value (imm5 i.i3.value i.i2.value)

-- T1 and T2: what the mnemonic of MOV, of LSL, LSR, ASR and ROR, of RRX, and of MVN says
-- (DDI0553, "Data-processing (modified immediate)" and "Data-processing (shifted register)")
abbrev pub single_kind : DataName → ℕ → ℕ → ℕ → DataKind
single_kind data_.Orr s ty k = if is_by_carry ty k then kind.Carry s else if is_unshifted ty k then kind.Move data_.Orr s else kind.Shift ty s
single_kind name s ty k = kind.Move name s

-- T1 and T2: what the mnemonic of AND, BIC, ORR, ORN, EOR, ADD, ADC, SBC, SUB, RSB, TST, TEQ, CMN, CMP, MOV, MVN, LSL, LSR, ASR, ROR and RRX says,
-- by the registers that stand for none
-- (DDI0553, "Data-processing (modified immediate)" and "Data-processing (shifted register)")
abbrev pub kind_of : Letters → DataKind
kind_of l =
    if nat_eq l.d 15 then kind.Test l.name
    else if nat_eq l.n 15 then single_kind l.name l.s l.ty l.k
    else kind.Three l.name l.s

-- T21: the mnemonic of VMRS and VMSR (DDI0553, "VMRS" and "VMSR")
abbrev pub system_mnemonic : SystemMoveName → List ℕ
system_mnemonic move.ReadFpscr = codes "vmrs"
system_mnemonic move.ReadVpr = codes "vmrs"
system_mnemonic move.ReadP0 = codes "vmrs"
system_mnemonic move.WriteFpscr = codes "vmsr"
system_mnemonic move.WriteVpr = codes "vmsr"
system_mnemonic move.WriteP0 = codes "vmsr"

-- T23: the mnemonic of LE and LETP (DDI0553, "LE, LETP")
abbrev pub loop_end_mnemonic : LoopEndName → List ℕ
loop_end_mnemonic loop_end.LeLr = codes "le"
loop_end_mnemonic loop_end.Letp = codes "letp"
loop_end_mnemonic loop_end.Le = codes "le"

-- the mnemonic of each row, without what stands behind the point; T7: BFC and BFI; T18: MRS and MSR; T19: NOP; T22: VMOV of a word; T23: DLS, WLS,
-- DLSTP, WLSTP and LCTP (DDI0553, "BFC", "BFI", "MRS", "MSR (register)", "NOP", "VMOV (general-purpose register to vector lane)",
-- "VMOV (vector lane to general-purpose register)", "WLS, DLS, WLSTP, DLSTP" and "LCTP")
abbrev pub mnemonic_of : WideRow → List ℕ
mnemonic_of (wide.T1 i) = kind_mnemonic (kind_of (letters_t1 i))
mnemonic_of (wide.T2 i) = kind_mnemonic (kind_of (letters_t2 i))
mnemonic_of (wide.T3 i) = wide_sum_mnemonic i.name
mnemonic_of (wide.T4 i) = half_mnemonic i.name
mnemonic_of (wide.T5 i) = saturate_mnemonic i.name
mnemonic_of (wide.T6 i) = extract_mnemonic i.name
mnemonic_of (wide.T7 i) = cond (nat_eq i.n.value 15) (codes "bfc") (codes "bfi")
mnemonic_of (wide.T8 i) = wide_shift_mnemonic i.name i.s.value
mnemonic_of (wide.T9 i) = extend_mnemonic i.name
mnemonic_of (wide.T10 i) = bits_mnemonic i.name
mnemonic_of (wide.T11 (t11.Operation i)) = operation_mnemonic i.name
mnemonic_of (wide.T11 (t11.Accumulate i)) = accumulate_mnemonic i.name
mnemonic_of (wide.T11 (t11.Long i)) = long_mnemonic i.name
mnemonic_of (wide.T12 (t12.Offset i)) = access_mnemonic i.name
mnemonic_of (wide.T12 (t12.Indexed i)) = access_mnemonic i.name
mnemonic_of (wide.T12 (t12.Shifted i)) = access_mnemonic i.name
mnemonic_of (wide.T12 (t12.Literal i)) = access_mnemonic i.name
mnemonic_of (wide.T13 i) = pair_mnemonic i.name
mnemonic_of (wide.T14 i) = wide_list_mnemonic i.name
mnemonic_of (wide.T15 i) = stack_mnemonic i.name
mnemonic_of (wide.T16 (t16.Conditional i)) = branch_mnemonic i.c.value
mnemonic_of (wide.T16 (t16.Always i)) = wide_branch_mnemonic i.name
mnemonic_of (wide.T17 i) = table_mnemonic i.name
mnemonic_of (wide.T18 (t18.Read i)) = codes "mrs"
mnemonic_of (wide.T18 (t18.Write i)) = codes "msr"
mnemonic_of (wide.T19 t19.Nop) = codes "nop"
mnemonic_of (wide.T19 (t19.Barrier i)) = barrier_mnemonic i.name
mnemonic_of (wide.T20 i) = select_mnemonic i.name
mnemonic_of (wide.T21 i) = system_mnemonic i.name
mnemonic_of (wide.T22 i) = codes "vmov"
mnemonic_of (wide.T23 (t23.Dls i)) = codes "dls"
mnemonic_of (wide.T23 (t23.Wls i)) = codes "wls"
mnemonic_of (wide.T23 (t23.Dlstp i)) = codes "dlstp"
mnemonic_of (wide.T23 (t23.Wlstp i)) = codes "wlstp"
mnemonic_of (wide.T23 (t23.End i)) = loop_end_mnemonic i.name
mnemonic_of (wide.T23 t23.Lctp) = codes "lctp"

-- OPERANDS
-- whether there are none, and whether there is one token alone; the size, and whether the first is a vector register; whether the second
-- and the third are numbers; five operands; how an address is written: 0 for taken off, for behind the brackets, and 1 for written back
abbrev pub given_all : Bool → Bool → ℕ → Bool → Bool → Bool → ℕ → ℕ → ℕ → ℕ → ℕ → ℕ → ℕ → ℕ → Operands
given_all is_bare is_single z is_vector second third a b c e g added before back = record {
  is_bare = is_bare;
  is_single = is_single;
  size = z;
  is_vector = is_vector;
  second_is_number = second;
  third_is_number = third;
  first = a;
  second = b;
  third = c;
  fourth = e;
  fifth = g;
  added = added;
  before = before;
  back = back;
  bang = 0;
  registers = 0;
}

-- operands of a size, with no address
abbrev pub given_sized : ℕ → Bool → Bool → ℕ → ℕ → ℕ → ℕ → ℕ → Operands
given_sized z second third a b c e g = given_all false false z false second third a b c e g 1 1 0

-- of no size, with no number for the second and the third
abbrev pub given : ℕ → ℕ → ℕ → ℕ → ℕ → Operands
given = given_sized 0 false false

-- of no size, with a number for the third
abbrev pub third_numbered : ℕ → ℕ → ℕ → ℕ → ℕ → Operands
third_numbered = given_sized 0 false true

-- of no size, with a number for the second
abbrev pub second_numbered : ℕ → ℕ → ℕ → ℕ → ℕ → Operands
second_numbered = given_sized 0 true false

-- of no size, with numbers for the second and the third
abbrev pub both_numbered : ℕ → ℕ → ℕ → ℕ → ℕ → Operands
both_numbered = given_sized 0 true true

-- no operands
abbrev pub none_given : Operands
none_given = given_all true false 0 false false false 0 0 0 0 0 1 1 0

-- a label alone
abbrev pub label_given : Tok → Operands
label_given t = given_all false true 0 (is_vector t) false false (wide_value t) 0 0 0 0 1 1 0

-- an address, with what P, U and W say of its offset
abbrev pub placed : Bool → ℕ → ℕ → ℕ → ℕ → ℕ → ℕ → ℕ → ℕ → Operands
placed third p u w a b c e g = given_all false false 0 false false third a b c e g u p w

-- T2: how far a register is shifted, as a text has it: by 0 through the carry, by RRX (DDI0553, "Data-processing (shifted register)" and "DecodeImmShift")
abbrev pub number_read : ℕ → ℕ → ℕ
number_read ty k = if is_by_carry ty k then 0 else shift_number ty k

-- T1 and T2: the operands of AND, BIC, ORR, ORN, EOR, ADD, ADC, SBC, SUB, RSB, TST, TEQ, CMN, CMP, MOV, MVN, RRX, LSL, LSR, ASR and ROR,
-- by what the mnemonic says (DDI0553, "Data-processing (modified immediate)" and "Data-processing (shifted register)")
abbrev pub kind_operands : DataKind → Letters → Operands
kind_operands (kind.Three name s) l = given_sized 0 false l.is_number l.d l.n l.last l.ty (number_read l.ty l.k)
kind_operands (kind.Test name) l = given_sized 0 l.is_number false l.n l.last l.ty (number_read l.ty l.k) 0
kind_operands (kind.Move name s) l = given_sized 0 l.is_number false l.d l.last l.ty (number_read l.ty l.k) 0
kind_operands (kind.Carry s) l = given l.d l.last 0 0 0
kind_operands (kind.Shift ty s) l = third_numbered l.d l.last (number_read l.ty l.k) 0 0

-- T7: the operands of BFI and of BFC, at the bit x (DDI0553, "BFI" and "BFC")
abbrev pub insert_operands : ℕ → ℕ → ℕ → ℕ → Operands
insert_operands n d x e = cond (nat_eq n 15) (both_numbered d x (e + 1 - x) 0 0) (third_numbered d n x (e + 1 - x) 0)

-- T12: the operands of STRB, STRH, STR, LDRB, LDRH, LDR, LDRSB and LDRSH
-- (DDI0553, the immediate and register form of each, and the literal form of each load, as "LDR (immediate)", "LDR (register)" and "LDR (literal)")
abbrev pub access_operands : T12 → Operands
access_operands (t12.Offset i) = placed true 1 1 0 i.t.value i.n.value i.i.value 0 0
access_operands (t12.Indexed i) = placed true i.p.value i.u.value i.w.value i.t.value i.n.value i.i.value 0 0
access_operands (t12.Shifted i) = placed false 1 1 0 i.t.value i.n.value i.m.value 0 i.i.value
access_operands (t12.Literal i) = placed true 1 i.u.value 0 i.t.value 15 i.i.value 0 0

-- T17: the operands of TBB and TBH (DDI0553, "TBB, TBH")
abbrev pub table_operands : TableName → ℕ → ℕ → Operands
table_operands table.Tbb n m = given n m 0 0 0
table_operands table.Tbh n m = given n m 0 1 0

-- T18: SYSm of a special register that MSR writes (DDI0553, "MSR (register)")
abbrev pub written_number : WrittenName → ℕ
written_number name = written_base name % 2 ^ 8

-- T21: the operands of VMRS and VMSR: the core register, and FPSCR, VPR or P0 by its number (DDI0553, "VMRS" and "VMSR")
abbrev pub system_operands : SystemMoveName → ℕ → Operands
system_operands move.ReadFpscr t = given t 1 0 0 0
system_operands move.ReadVpr t = given t 12 0 0 0
system_operands move.ReadP0 t = given t 13 0 0 0
system_operands move.WriteFpscr t = given 1 t 0 0 0
system_operands move.WriteVpr t = given 12 t 0 0 0
system_operands move.WriteP0 t = given 13 t 0 0 0

-- T22: the operands of VMOV between a core register and a word of a vector; behind the brackets of a lane that is written stands a comma
-- (DDI0553, "VMOV (general-purpose register to vector lane)" and "VMOV (vector lane to general-purpose register)")
abbrev pub lane_operands : LaneMoveName → ℕ → ℕ → ℕ → Operands
lane_operands lane.ToLane d x t = given_all false false 2 true true false d x t 0 0 1 0 1
lane_operands lane.FromLane d x t = given_sized 2 false true t d x 0 0

-- T23: the operands of LE and LETP (DDI0553, "LE, LETP")
abbrev pub loop_end_operands : LoopEndName → Tok → Operands
loop_end_operands loop_end.LeLr t = given_sized 0 (is_number t) false 14 (wide_value t) 0 0 0
loop_end_operands loop_end.Letp t = given_sized 0 (is_number t) false 14 (wide_value t) 0 0 0
loop_end_operands loop_end.Le t = label_given t

-- T23: the operands of DLS, WLS, DLSTP, WLSTP, LE, LETP and LCTP (DDI0553, "WLS, DLS, WLSTP, DLSTP", "LE, LETP" and "LCTP")
abbrev pub loop_operands : T23 → Tok → Operands
loop_operands (t23.Dls i) t = given 14 i.n.value 0 0 0
loop_operands (t23.Wls i) t = given_sized 0 false (is_number t) 14 i.n.value (wide_value t) 0 0
loop_operands (t23.Dlstp i) t = given_sized i.z.value false false 14 i.n.value 0 0 0
loop_operands (t23.Wlstp i) t = given_sized i.z.value false (is_number t) 14 i.n.value (wide_value t) 0 0
loop_operands (t23.End i) t = loop_end_operands i.name t
loop_operands t23.Lctp t = none_given

-- the operands of each row, where t is the token of its label; T14: of STMIA, LDMIA, STMDB and LDMDB, what is read of its list
-- (DDI0553, "STM, STMIA, STMEA", "LDM, LDMIA, LDMFD", "STMDB, STMFD" and "LDMDB, LDMEA")
abbrev pub operands_of : WideRow → Tok → Operands
operands_of (wide.T1 i) t = kind_operands (kind_of (letters_t1 i)) (letters_t1 i)
operands_of (wide.T2 i) t = kind_operands (kind_of (letters_t2 i)) (letters_t2 i)
operands_of (wide.T3 i) t = third_numbered i.d.value i.n.value (imm12 i.i.value i.i3.value i.i8.value) 0 0
operands_of (wide.T4 i) t = second_numbered i.d.value (imm16 i.i4.value i.i.value i.i3.value i.i8.value) 0 0 0
operands_of (wide.T5 i) t = second_numbered i.d.value (saturated_bits i.name i.s.value) i.n.value (2 * i.sh.value) (imm5 i.i3.value i.i2.value)
operands_of (wide.T6 i) t = third_numbered i.d.value i.n.value (imm5 i.i3.value i.i2.value) (i.w.value + 1) 0
operands_of (wide.T7 i) t = insert_operands i.n.value i.d.value (imm5 i.i3.value i.i2.value) i.e.value
operands_of (wide.T8 i) t = given i.d.value i.n.value i.m.value 0 0
operands_of (wide.T9 i) t = given i.d.value i.m.value (cond (nat_eq (8 * i.r.value) 0) 0 3) (8 * i.r.value) 0
operands_of (wide.T10 i) t = given i.d.value i.m.value 0 0 0
operands_of (wide.T11 (t11.Operation i)) t = given i.d.value i.n.value i.m.value 0 0
operands_of (wide.T11 (t11.Accumulate i)) t = given i.d.value i.n.value i.m.value i.a.value 0
operands_of (wide.T11 (t11.Long i)) t = given i.l.value i.h.value i.n.value i.m.value 0
operands_of (wide.T12 i) t = access_operands i
operands_of (wide.T13 i) t = placed false i.p.value i.add.value i.w.value i.t.value i.u.value i.n.value (4 * i.i.value) 0
operands_of (wide.T14 i) t = operands_in (row_tokens (wide.T14 i))
operands_of (wide.T15 i) t = given i.v.value (i.v.value + i.k.value - 1) 0 0 0
operands_of (wide.T16 i) t = label_given t
operands_of (wide.T17 i) t = table_operands i.name i.n.value i.m.value
operands_of (wide.T18 (t18.Read i)) t = given i.d.value (special_number i.name) 0 0 0
operands_of (wide.T18 (t18.Write i)) t = given (written_number i.name) i.n.value 0 0 0
operands_of (wide.T19 t19.Nop) t = none_given
operands_of (wide.T19 (t19.Barrier i)) t = given i.o.value 0 0 0 0
operands_of (wide.T20 i) t = given i.d.value i.n.value i.m.value i.c.value 0
operands_of (wide.T21 i) t = system_operands i.name i.t.value
operands_of (wide.T22 i) t = lane_operands i.name i.q.value i.x.value i.t.value
operands_of (wide.T23 i) t = loop_operands i t

-- WHAT A READER OWES
-- a mnemonic and operands are those of a row, where t is the token of its label
abbrev pub Asks : WideRow → Tok → List ℕ → Operands → Type 0
Asks r t s o = (s ≡ mnemonic_of r) × (o ≡ operands_of r t)

-- T19: a mnemonic and operands are those of the other text of DSB, DMB or ISB: none, for 15 (DDI0553, "DSB", "DMB" and "ISB")
abbrev pub AsksBare : Barrier → List ℕ → Operands → Type 0
AsksBare i s o = (i.o.value ≡ 15) × (s ≡ barrier_mnemonic i.name) × (o ≡ none_given)

-- a mnemonic and operands are given the code of the row of this kind that asks so; what they are given where none asks is not said
abbrev pub IsCodeOf : {A : Type 0} → (A → WideRow) → List ℕ → Operands → Option ℕ → Type 0
IsCodeOf {A} row s o code = (i : A) (t : Tok) → Asks (row i) t s o → code ≡ Some (wide_code (row i))

-- and of the row that stands at pc, with a label that names the address a
abbrev pub IsCodeAt : {A : Type 0} → (A → WideRow) → List ℕ → Operands → ℕ → ℕ → Option ℕ → Type 0
IsCodeAt {A} row s o pc a code = (i : A) (t : Tok) → Asks (row i) t s o → Reaches (target (row i) pc) a → code ≡ Some (wide_code (row i))

-- T19: and of the one of DSB, DMB and ISB that asks so by its other text (DDI0553, "DSB", "DMB" and "ISB")
abbrev pub IsBareCode : List ℕ → Operands → Option ℕ → Type 0
IsBareCode s o code = (i : Barrier) → AsksBare i s o → code ≡ Some (wide_code (wide.T19 (t19.Barrier i)))

-- T1: a code of T2 with no registers, and two registers, are given the code with this constant
-- (DDI0553, "Data-processing (modified immediate)" and "Data-processing (shifted register)")
abbrev pub IsConstantCode : ℕ → ℕ → ℕ → ℕ → ℕ → Type 0
IsConstantCode base n d c code =
    (i : T1) → constant_in i.i.value i.i3.value i.i8.value ≡ c
    → code ≡ base + 0x06000000 + i.i.value ↑ 26 + n ↑ 16 + i.i3.value ↑ 12 + d ↑ 8 + i.i8.value

-- T2: a code with no registers, and three registers, are given the code with this shift (DDI0553, "Data-processing (shifted register)")
abbrev pub IsShiftedCode : ℕ → ℕ → ℕ → ℕ → ℕ → ℕ → ℕ → Type 0
IsShiftedCode base n d m ty k code =
    (i : T2) → i.ty.value ≡ ty → number_read i.ty.value (imm5 i.i3.value i.i2.value) ≡ k
    → code ≡ base + ty ↑ 4 + n ↑ 16 + i.i3.value ↑ 12 + d ↑ 8 + i.i2.value ↑ 6 + m

-- CODES BY MNEMONICS that `kind_in` gives no kind: what a mnemonic and operands are given, by groups of rows, one within the other
-- T17 to T19, T21 and T22, and T23 with no label: TBB, TBH, MRS, MSR, NOP, DSB, DMB, ISB, VMRS, VMSR, VMOV of a word, DLS, DLSTP and LCTP
-- (DDI0553, "TBB, TBH", "MRS", "MSR (register)", "NOP", "DSB", "DMB", "ISB", "VMRS", "VMSR", "VMOV (general-purpose register to vector lane)",
-- "VMOV (vector lane to general-purpose register)", "WLS, DLS, WLSTP, DLSTP" and "LCTP")
pub record SystemCodes (s : List ℕ) (o : Operands) (code : Option ℕ) : Type 0 where
  pub t17 : IsCodeOf wide.T17 s o code
  pub read : IsCodeOf (λ i. wide.T18 (t18.Read i)) s o code
  pub write : IsCodeOf (λ i. wide.T18 (t18.Write i)) s o code
  pub nop : s ≡ codes "nop" → code ≡ Some (wide_code (wide.T19 t19.Nop))
  pub barrier : IsCodeOf (λ i. wide.T19 (t19.Barrier i)) s o code
  pub bare : IsBareCode s o code
  pub t21 : IsCodeOf wide.T21 s o code
  pub t22 : IsCodeOf wide.T22 s o code
  pub dls : IsCodeOf (λ i. wide.T23 (t23.Dls i)) s o code
  pub dlstp : IsCodeOf (λ i. wide.T23 (t23.Dlstp i)) s o code
  pub lctp : s ≡ codes "lctp" → code ≡ Some (wide_code (wide.T23 t23.Lctp))

-- T12 to T15, and the codes above: STRB, STRH, STR, LDRB, LDRH, LDR, LDRSB, LDRSH, LDRD, STRD, STMIA, LDMIA, STMDB, LDMDB, VPUSH and VPOP
-- (DDI0553, the immediate and register form of each, and the literal form of each load, as "LDR (immediate)", "LDR (register)" and "LDR (literal)",
-- "STRD (immediate)", "LDRD (immediate)", "LDRD (literal)", "STM, STMIA, STMEA", "LDM, LDMIA, LDMFD", "STMDB, STMFD", "LDMDB, LDMEA", "VPUSH" and "VPOP")
pub record MemoryCodes (s : List ℕ) (o : Operands) (code : Option ℕ) : Type 0 where
  pub offset : IsCodeOf (λ i. wide.T12 (t12.Offset i)) s o code
  pub indexed : IsCodeOf (λ i. wide.T12 (t12.Indexed i)) s o code
  pub shifted : IsCodeOf (λ i. wide.T12 (t12.Shifted i)) s o code
  pub literal : IsCodeOf (λ i. wide.T12 (t12.Literal i)) s o code
  pub t13 : IsCodeOf wide.T13 s o code
  pub t14 : IsCodeOf wide.T14 s o code
  pub t15 : IsCodeOf wide.T15 s o code
  pub system : SystemCodes s o code

-- T9 to T11 and T20, and the codes above: SXTH, UXTH, SXTB, UXTB, REV, REV16, RBIT, REVSH, CLZ, MUL, MLA, MLS, SMULL, UMULL, SMLAL, UMLAL, SDIV,
-- UDIV, CSEL, CSINC, CSINV and CSNEG
-- (DDI0553, "SXTH", "UXTH", "SXTB", "UXTB", "REV", "REV16", "REVSH", "RBIT", "CLZ", "MUL", "MLA", "MLS", "SMULL", "UMULL", "SMLAL", "UMLAL", "SDIV",
-- "UDIV", "CSEL", "CSINC", "CSINV" and "CSNEG")
pub record ArithCodes (s : List ℕ) (o : Operands) (code : Option ℕ) : Type 0 where
  pub t9 : IsCodeOf wide.T9 s o code
  pub t10 : IsCodeOf wide.T10 s o code
  pub operation : IsCodeOf (λ i. wide.T11 (t11.Operation i)) s o code
  pub accumulate : IsCodeOf (λ i. wide.T11 (t11.Accumulate i)) s o code
  pub long : IsCodeOf (λ i. wide.T11 (t11.Long i)) s o code
  pub t20 : IsCodeOf wide.T20 s o code
  pub memory : MemoryCodes s o code

-- T3 to T7, and the codes above: ADDW, SUBW, ADR, MOVW, MOVT, SSAT, USAT, SBFX, UBFX, BFI and BFC
-- (DDI0553, "ADD (immediate)", "ADD (SP plus immediate)", "SUB (immediate)", "SUB (SP minus immediate)", "ADR", "MOV (immediate)", "MOVT", "SSAT",
-- "USAT", "SBFX", "UBFX", "BFI" and "BFC")
pub record NumberCodes (s : List ℕ) (o : Operands) (code : Option ℕ) : Type 0 where
  pub t3 : IsCodeOf wide.T3 s o code
  pub t4 : IsCodeOf wide.T4 s o code
  pub t5 : IsCodeOf wide.T5 s o code
  pub t6 : IsCodeOf wide.T6 s o code
  pub t7 : IsCodeOf wide.T7 s o code
  pub arith_rows : ArithCodes s o code

-- T16, and T23 with a label, and the codes above: B, BL, WLS, WLSTP, LE and LETP (DDI0553, "B", "BL", "WLS, DLS, WLSTP, DLSTP" and "LE, LETP")
pub record LabelCodes (s : List ℕ) (o : Operands) (pc a : ℕ) (code : Option ℕ) : Type 0 where
  pub conditional : IsCodeAt (λ i. wide.T16 (t16.Conditional i)) s o pc a code
  pub always : IsCodeAt (λ i. wide.T16 (t16.Always i)) s o pc a code
  pub wls : IsCodeAt (λ i. wide.T23 (t23.Wls i)) s o pc a code
  pub wlstp : IsCodeAt (λ i. wide.T23 (t23.Wlstp i)) s o pc a code
  pub ending : IsCodeAt (λ i. wide.T23 (t23.End i)) s o pc a code
  pub numbers : NumberCodes s o code

-- tokens at pc, where a label names the address a, are given the code of the row with these tokens
abbrev pub IsCodeIn : List Tok → ℕ → ℕ → Option ℕ → Type 0
IsCodeIn ts pc a code = (r : WideRow) (t : Tok) → IsLabel t → Reaches (target r pc) a → ts ≡ tokens_of r t → code ≡ Some (wide_code r)

-- and of the row whose other text they are
abbrev pub IsOtherCodeIn : List Tok → Option ℕ → Type 0
IsOtherCodeIn ts code = (r : WideRow) → other_tokens r ≡ Some ts → code ≡ Some (wide_code r)
