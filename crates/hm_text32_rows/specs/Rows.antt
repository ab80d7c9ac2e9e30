-- The text of rows of two halfwords that are no vector rows, as tokens.
use Rattle.std.specs.Prelude.{ℕ, Bool, true, false, ◌+◌, ◌-◌, ◌*◌, ◌&&◌, cond, List, [], ◌∷◌, ◌++◌, codes, nat_eq, Option, Some, None, if◌then◌else◌}
use Rattle.hm_isa.specs.declared.widths.WideRow.{WideRow}
use Rattle.hm_isa.specs.declared.widths.WideRow.TheVariants.{T1, T2, T3, T4, T5, T6, T7, T8, T9, T10, T11, T12, T13, T14, T15, T16, T17, T18, T19, T20}
use Rattle.hm_isa.specs.declared.widths.WideRow.TheVariants.{T21, T22, T23}
use Rattle.hm_isa.specs.declared.arith.T11.{T11 as ProductRow}
use Rattle.hm_isa.specs.declared.arith.T11.TheVariants as t11
use Rattle.hm_isa.specs.declared.data.DataName.{DataName}
use Rattle.hm_isa.specs.declared.data.DataName.TheVariants as data_
use Rattle.hm_isa.specs.declared.data.SaturateName.{SaturateName}
use Rattle.hm_isa.specs.declared.data.SaturateName.TheVariants as saturate
use Rattle.hm_isa.specs.declared.data.T5.{T5 as SaturateRow}
use Rattle.hm_isa.specs.declared.data.T7.{T7 as InsertRow}
use Rattle.hm_isa.specs.declared.jumps.T16.{T16 as WideBranchRow}
use Rattle.hm_isa.specs.declared.jumps.T16.TheVariants as t16
use Rattle.hm_isa.specs.declared.jumps.LoopEndName.{LoopEndName}
use Rattle.hm_isa.specs.declared.jumps.LoopEndName.TheVariants as loop_end
use Rattle.hm_isa.specs.declared.wide.T12.{T12 as AccessRow}
use Rattle.hm_isa.specs.declared.wide.T12.TheVariants as t12
use Rattle.hm_isa.specs.declared.jumps.TableName.TheVariants as table
use Rattle.hm_isa.specs.declared.jumps.TableName.{TableName}
use Rattle.hm_isa.specs.declared.jumps.T23.{T23 as LoopRow}
use Rattle.hm_isa.specs.declared.jumps.T23.TheVariants as t23
use Rattle.hm_isa.specs.declared.system.T18.{T18 as SpecialRow}
use Rattle.hm_isa.specs.declared.system.T18.TheVariants as t18
use Rattle.hm_isa.specs.declared.system.T19.{T19 as BarrierRow}
use Rattle.hm_isa.specs.declared.system.T19.TheVariants as t19
use Rattle.hm_isa.specs.declared.system.SystemMoveName.{SystemMoveName}
use Rattle.hm_isa.specs.declared.system.SystemMoveName.TheVariants as move
use Rattle.hm_isa.specs.declared.system.LaneMoveName.{LaneMoveName}
use Rattle.hm_isa.specs.declared.system.LaneMoveName.TheVariants as lane
use Rattle.hm_tokens.specs.Names.{condition_name, double_name, register_name}
use Rattle.hm_tokens.specs.Tokens.{Tok, word, number, close_brace, close_bracket, comma, minus_mark, open_brace, open_bracket}
use Rattle.hm_text_rows.specs.Shapes.{and_constant, and_operand, and_shift, and_any_shift, back, braces, constant, four, indexed, inside, one, or_zero, q, r}
use Rattle.hm_text_rows.specs.Shapes.{scaled, three, two}
use Rattle.hm_isa.specs.Words.{expand_imm_c, imm12, imm16, imm5, is_by_carry, shift_number}
use Rattle.hm_text_rows.specs.Mnemonics.{access_mnemonic, branch_mnemonic, element_suffix, extend_mnemonic}
use Rattle.hm_text32_rows.specs.Mnemonics.{accumulate_mnemonic, barrier_mnemonic, bits_mnemonic, bits_suffix, carry_mnemonic, data_mnemonic}
use Rattle.hm_text32_rows.specs.Mnemonics.{extract_mnemonic, half_mnemonic, long_mnemonic, move_mnemonic, operation_mnemonic, pair_mnemonic}
use Rattle.hm_text32_rows.specs.Mnemonics.{read_name, saturate_shift}
use Rattle.hm_text32_rows.specs.Mnemonics.{saturate_mnemonic, select_mnemonic, shift_mnemonic, stack_mnemonic, table_mnemonic, test_mnemonic}
use Rattle.hm_text32_rows.specs.Mnemonics.{shift_mnemonic_with_flags, wide}
use Rattle.hm_text32_rows.specs.Mnemonics.{wide_branch_mnemonic, wide_branch_suffix, wide_list_mnemonic}
use Rattle.hm_text32_rows.specs.Mnemonics.{wide_list_suffix, wide_shift_mnemonic, wide_sum_mnemonic, written_name}

-- DATA
-- T1: the constant that the fields i, i3 and i8 stand for (DDI0553, "Data-processing (modified immediate)")
abbrev pub constant_in : ℕ → ℕ → ℕ → ℕ
constant_in i i3 i8 = (expand_imm_c (imm12 i i3 i8) false).result

-- T1: the tokens of AND, BIC, ORR, ORN, EOR, ADD, ADC, SBC, SUB and RSB with a constant; with 15 for the result TST, TEQ, CMN and CMP,
-- and with 15 for the first register MOV and MVN (DDI0553, "Data-processing (modified immediate)")
abbrev pub constant_tokens : DataName → ℕ → ℕ → ℕ → ℕ → List Tok
constant_tokens name s n d c =
    if nat_eq d 15 then and_constant (one (test_mnemonic name ++ wide) (r n)) c
    else if nat_eq n 15 then and_constant (one (move_mnemonic name s ++ wide) (r d)) c
    else and_constant (two (data_mnemonic name s ++ wide) (r d) (r n)) c

-- T2: whether a register is not shifted: LSL by 0 (DDI0553, "Data-processing (shifted register)")
abbrev pub is_unshifted : ℕ → ℕ → Bool
is_unshifted ty k = nat_eq ty 0 && nat_eq k 0

-- T2: and a shift of the last register, where there is one (DDI0553, "Data-processing (shifted register)")
abbrev pub and_shifted : List Tok → ℕ → ℕ → List Tok
and_shifted front ty k =
    if is_by_carry ty k then and_operand front (word (codes "rrx")) else and_shift front (shift_mnemonic ty) (shift_number ty k)

-- T2: the tokens of MOV, `mov.w rd,rm`, of LSL, LSR, ASR and ROR, `lsl.w rd,rm,#k`, and of RRX, `rrx rd,rm` (DDI0553, "Data-processing (shifted register)")
abbrev pub moved_tokens : ℕ → ℕ → ℕ → ℕ → ℕ → List Tok
moved_tokens s d m ty k =
    if is_by_carry ty k then two (carry_mnemonic s) (r d) (r m)
    else if is_unshifted ty k then two (move_mnemonic data_.Orr s ++ wide) (r d) (r m)
    else and_constant (two (shift_mnemonic_with_flags ty s ++ wide) (r d) (r m)) (shift_number ty k)

-- T2: the tokens of the operations with no first register: MOV, LSL, LSR, ASR, ROR, RRX and MVN (DDI0553, "Data-processing (shifted register)")
abbrev pub single_tokens : DataName → ℕ → ℕ → ℕ → ℕ → ℕ → List Tok
single_tokens data_.Orr s d m ty k = moved_tokens s d m ty k
single_tokens name s d m ty k = and_shifted (two (move_mnemonic name s ++ wide) (r d) (r m)) ty k

-- T2: the tokens of AND, BIC, ORR, ORN, EOR, ADD, ADC, SBC, SUB and RSB with a shifted register; with 15 for the result TST, TEQ, CMN and CMP,
-- and with 15 for the first register MOV, LSL, LSR, ASR, ROR, RRX and MVN (DDI0553, "Data-processing (shifted register)")
abbrev pub data_tokens : DataName → ℕ → ℕ → ℕ → ℕ → ℕ → ℕ → List Tok
data_tokens name s n d m ty k =
    if nat_eq d 15 then and_shifted (two (test_mnemonic name ++ wide) (r n) (r m)) ty k
    else if nat_eq n 15 then single_tokens name s d m ty k
    else and_shifted (three (data_mnemonic name s ++ wide) (r d) (r n) (r m)) ty k

-- T5: the number of bits that SSAT and USAT make a value fit in (DDI0553, "SSAT" and "USAT")
abbrev pub saturated_bits : SaturateName → ℕ → ℕ
saturated_bits saturate.Ssat s = s + 1
saturated_bits saturate.Usat s = s

-- T5: the tokens of SSAT and USAT, whose shift is written by 0 too (DDI0553, "SSAT" and "USAT")
abbrev pub saturate_tokens : SaturateRow → List Tok
saturate_tokens i =
    and_any_shift (and_operand (and_constant (one (saturate_mnemonic i.name) (r i.d.value)) (saturated_bits i.name i.s.value)) (r i.n.value))
    (saturate_shift i.sh.value) (imm5 i.i3.value i.i2.value)

-- T7: the tokens of BFI, `rd,rn,#lsb,#width`, and of BFC, `rd,#lsb,#width`, which puts zeros in (DDI0553, "BFI" and "BFC")
abbrev pub insert_tokens : InsertRow → List Tok
insert_tokens i =
    and_constant
    (and_constant (cond (nat_eq i.n.value 15) (one (codes "bfc") (r i.d.value)) (two (codes "bfi") (r i.d.value) (r i.n.value))) (imm5 i.i3.value i.i2.value))
    (i.e.value + 1 - (imm5 i.i3.value i.i2.value))

-- T11: the tokens of MUL, SDIV and UDIV, of MLA and MLS, and of SMULL, UMULL, SMLAL and UMLAL
-- (DDI0553, "MUL", "MLA", "MLS", "SMULL", "UMULL", "SMLAL", "UMLAL", "SDIV" and "UDIV")
abbrev pub product_tokens : ProductRow → List Tok
product_tokens (t11.Operation i) = three (operation_mnemonic i.name) (r i.d.value) (r i.n.value) (r i.m.value)
product_tokens (t11.Accumulate i) = four (accumulate_mnemonic i.name) (r i.d.value) (r i.n.value) (r i.m.value) (r i.a.value)
product_tokens (t11.Long i) = four (long_mnemonic i.name) (r i.l.value) (r i.h.value) (r i.n.value) (r i.m.value)

-- MEMORY
-- T12: the tokens of STRB, STRH, STR, LDRB, LDRH, LDR, LDRSB and LDRSH: `[rn,#i]`; with an index by P, U and W; `[rn,rm,lsl #i]`; `[pc,#i]`
-- (DDI0553, the immediate and register form of each, and the literal form of each load, as "LDR (immediate)", "LDR (register)" and "LDR (literal)")
abbrev pub access_tokens : AccessRow → List Tok
access_tokens (t12.Offset i) = word (access_mnemonic i.name ++ wide) ∷ r i.t.value ∷ comma ∷ inside 1 0 (r i.n.value) i.i.value
access_tokens (t12.Indexed i) = word (access_mnemonic i.name ++ wide) ∷ r i.t.value ∷ comma ∷ indexed i.p.value i.u.value i.w.value (r i.n.value) i.i.value
access_tokens (t12.Shifted i) = word (access_mnemonic i.name ++ wide) ∷ r i.t.value ∷ comma ∷ scaled i.n.value i.m.value i.i.value
access_tokens (t12.Literal i) = word (access_mnemonic i.name ++ wide) ∷ r i.t.value ∷ comma ∷ inside i.u.value 0 (r 15) i.i.value

-- T14: the beginning of STMIA, LDMIA, STMDB and LDMDB: the first word, and `rn,`, or `rn!,` where the base is written back
-- (DDI0553, "STM, STMIA, STMEA", "LDM, LDMIA, LDMFD", "STMDB, STMFD" and "LDMDB, LDMEA")
abbrev pub list_start : List ℕ → ℕ → ℕ → List Tok
list_start name w n = word name ∷ r n ∷ (back w ++ comma ∷ [])

-- T15: the registers of VPUSH and VPOP, `{dv-dw}` of k registers (DDI0553, "VPUSH" and "VPOP")
abbrev pub doubles : ℕ → ℕ → List Tok
doubles v k = open_brace ∷ word (double_name v) ∷ minus_mark ∷ word (double_name (v + k - 1)) ∷ close_brace ∷ []

-- T18: the tokens of MRS and MSR (DDI0553, "MRS" and "MSR (register)")
abbrev pub special_tokens : SpecialRow → List Tok
special_tokens (t18.Read i) = two (codes "mrs") (r i.d.value) (word (read_name i.name))
special_tokens (t18.Write i) = two (codes "msr") (word (written_name i.name)) (r i.n.value)

-- T19: the tokens of NOP, DSB, DMB and ISB (DDI0553, "NOP", "DSB", "DMB" and "ISB")
abbrev pub barrier_tokens : BarrierRow → List Tok
barrier_tokens t19.Nop = word (codes "nop" ++ wide) ∷ []
barrier_tokens (t19.Barrier i) = word (barrier_mnemonic i.name) ∷ constant i.o.value

-- T21: the register of VMRS of FPSCR: 15 is the four flags (DDI0553, "VMRS")
abbrev pub flags_or : ℕ → Tok
flags_or t = word (cond (nat_eq t 15) (codes "apsr_nzcv") (register_name t))

-- T21: the tokens of VMRS and VMSR (DDI0553, "VMRS" and "VMSR")
abbrev pub system_tokens : SystemMoveName → ℕ → List Tok
system_tokens move.ReadFpscr t = two (codes "vmrs") (flags_or t) (word (codes "fpscr"))
system_tokens move.ReadVpr t = two (codes "vmrs") (r t) (word (codes "vpr"))
system_tokens move.ReadP0 t = two (codes "vmrs") (r t) (word (codes "p0"))
system_tokens move.WriteFpscr t = two (codes "vmsr") (word (codes "fpscr")) (r t)
system_tokens move.WriteVpr t = two (codes "vmsr") (word (codes "vpr")) (r t)
system_tokens move.WriteP0 t = two (codes "vmsr") (word (codes "p0")) (r t)

-- T22: the word of a vector register that VMOV names, `qd[x]`
-- (DDI0553, "VMOV (general-purpose register to vector lane)" and "VMOV (vector lane to general-purpose register)")
abbrev pub lane_of : ℕ → ℕ → List Tok
lane_of d x = q d ∷ open_bracket ∷ number x ∷ close_bracket ∷ []

-- T22: the tokens of VMOV between a core register and a word of a vector
-- (DDI0553, "VMOV (general-purpose register to vector lane)" and "VMOV (vector lane to general-purpose register)")
abbrev pub lane_tokens : LaneMoveName → ℕ → ℕ → ℕ → List Tok
lane_tokens lane.ToLane d x t = word (codes "vmov" ++ codes ".32") ∷ (lane_of d x ++ comma ∷ r t ∷ [])
lane_tokens lane.FromLane d x t = word (codes "vmov" ++ codes ".32") ∷ r t ∷ comma ∷ lane_of d x

-- T17: the tokens of TBB and TBH, `tbb [rn,rm]`, `tbh [rn,rm,lsl #1]` (DDI0553, "TBB, TBH")
abbrev pub table_tokens : TableName → ℕ → ℕ → List Tok
table_tokens table.Tbb n m = word (table_mnemonic table.Tbb) ∷ open_bracket ∷ r n ∷ comma ∷ r m ∷ close_bracket ∷ []
table_tokens table.Tbh n m = word (table_mnemonic table.Tbh) ∷ scaled n m 1

-- LABELS: what stands before them
-- T16: the tokens of B and BL before the label, B under a condition as `beq.w label`, `b.w label`, `bl label` (DDI0553, "B", encodings T3 and T4, and "BL")
abbrev pub wide_branch_tokens : WideBranchRow → List Tok
wide_branch_tokens (t16.Conditional i) = word (branch_mnemonic i.c.value ++ wide) ∷ []
wide_branch_tokens (t16.Always i) = word (wide_branch_mnemonic i.name ++ wide_branch_suffix i.name) ∷ []

-- T23: the tokens of LE and LETP before the label, `le lr,label`, `letp lr,label`, `le label` (DDI0553, "LE, LETP")
abbrev pub loop_end_tokens : LoopEndName → List Tok
loop_end_tokens loop_end.LeLr = word (codes "le") ∷ r 14 ∷ comma ∷ []
loop_end_tokens loop_end.Letp = word (codes "letp") ∷ r 14 ∷ comma ∷ []
loop_end_tokens loop_end.Le = word (codes "le") ∷ []

-- T23: the tokens of DLS, WLS, DLSTP, WLSTP, LE, LETP and LCTP, before the label where there is one (DDI0553, "WLS, DLS, WLSTP, DLSTP", "LE, LETP" and "LCTP")
abbrev pub loop_tokens : LoopRow → List Tok
loop_tokens (t23.Dls i) = two (codes "dls") (r 14) (r i.n.value)
loop_tokens (t23.Wls i) = two (codes "wls") (r 14) (r i.n.value) ++ comma ∷ []
loop_tokens (t23.Dlstp i) = two (codes "dlstp" ++ element_suffix i.z.value) (r 14) (r i.n.value)
loop_tokens (t23.Wlstp i) = two (codes "wlstp" ++ element_suffix i.z.value) (r 14) (r i.n.value) ++ comma ∷ []
loop_tokens (t23.End i) = loop_end_tokens i.name
loop_tokens t23.Lctp = word (codes "lctp") ∷ []

-- the tokens of each row of two halfwords that is no vector row, as it is printed; where it has a label, the ones before that
abbrev pub row_tokens : WideRow → List Tok
row_tokens (T1 i) = constant_tokens i.name i.s.value i.n.value i.d.value (constant_in i.i.value i.i3.value i.i8.value)
row_tokens (T2 i) = data_tokens i.name i.s.value i.n.value i.d.value i.m.value i.ty.value (imm5 i.i3.value i.i2.value)
row_tokens (T3 i) = and_constant (two (wide_sum_mnemonic i.name) (r i.d.value) (r i.n.value)) (imm12 i.i.value i.i3.value i.i8.value)
row_tokens (T4 i) = and_constant (one (half_mnemonic i.name) (r i.d.value)) (imm16 i.i4.value i.i.value i.i3.value i.i8.value)
row_tokens (T5 i) = saturate_tokens i
row_tokens (T6 i) = and_constant (and_constant (two (extract_mnemonic i.name) (r i.d.value) (r i.n.value)) (imm5 i.i3.value i.i2.value)) (i.w.value + 1)
row_tokens (T7 i) = insert_tokens i
row_tokens (T8 i) = three (wide_shift_mnemonic i.name i.s.value ++ wide) (r i.d.value) (r i.n.value) (r i.m.value)
row_tokens (T9 i) = and_shift (two (extend_mnemonic i.name ++ wide) (r i.d.value) (r i.m.value)) (codes "ror") (8 * i.r.value)
row_tokens (T10 i) = two (bits_mnemonic i.name ++ bits_suffix i.name) (r i.d.value) (r i.m.value)
row_tokens (T11 i) = product_tokens i
row_tokens (T12 i) = access_tokens i
row_tokens (T13 i) =
    word (pair_mnemonic i.name) ∷ r i.t.value ∷ comma ∷ r i.u.value ∷ comma ∷ indexed i.p.value i.add.value i.w.value (r i.n.value) (4 * i.i.value)
row_tokens (T14 i) = list_start (wide_list_mnemonic i.name ++ wide_list_suffix i.name) i.w.value i.n.value ++ braces i.list.value
row_tokens (T15 i) = word (stack_mnemonic i.name) ∷ doubles i.v.value i.k.value
row_tokens (T16 i) = wide_branch_tokens i
row_tokens (T17 i) = table_tokens i.name i.n.value i.m.value
row_tokens (T18 i) = special_tokens i
row_tokens (T19 i) = barrier_tokens i
row_tokens (T20 i) = four (select_mnemonic i.name) (r i.d.value) (or_zero i.n.value) (or_zero i.m.value) (word (condition_name i.c.value))
row_tokens (T21 i) = system_tokens i.name i.t.value
row_tokens (T22 i) = lane_tokens i.name i.q.value i.x.value i.t.value
row_tokens (T23 i) = loop_tokens i

-- T23: whether the last operand is a label: of WLS, WLSTP, LE and LETP, and not of DLS, DLSTP and LCTP
-- (DDI0553, "WLS, DLS, WLSTP, DLSTP", "LE, LETP" and "LCTP")
abbrev pub has_label_loop : LoopRow → Bool
has_label_loop (t23.Dls i) = false
has_label_loop (t23.Wls i) = true
has_label_loop (t23.Dlstp i) = false
has_label_loop (t23.Wlstp i) = true
has_label_loop (t23.End i) = true
has_label_loop t23.Lctp = false

-- whether the last operand of a row is a label: B and BL of T16, and WLS, WLSTP, LE and LETP of T23
-- (DDI0553, "B", encodings T3 and T4, "BL", "WLS, DLS, WLSTP, DLSTP" and "LE, LETP")
abbrev pub has_label : WideRow → Bool
has_label (T16 i) = true
has_label (T23 i) = has_label_loop i
has_label i = false

-- the whole text of a row, where t is the token of its label, if it has one
abbrev pub tokens_of : WideRow → Tok → List Tok
tokens_of i t = if has_label i then row_tokens i ++ t ∷ [] else row_tokens i

-- T19: the other text that is read as a row: DSB, DMB and ISB alone as those of 15 (DDI0553, "DSB", "DMB" and "ISB")
abbrev pub other_barrier : BarrierRow → Option (List Tok)
other_barrier t19.Nop = None
other_barrier (t19.Barrier i) = if nat_eq i.o.value 15 then Some (word (barrier_mnemonic i.name) ∷ []) else None

-- the other text of a row, where it has one: DSB, DMB and ISB of T19 alone have one (DDI0553, "DSB", "DMB" and "ISB")
abbrev pub other_tokens : WideRow → Option (List Tok)
other_tokens (T19 i) = other_barrier i
other_tokens i = None
