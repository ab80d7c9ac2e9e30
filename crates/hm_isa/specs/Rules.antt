-- The rules that tie the letters of a row together.
use Rattle.std.specs.Prelude.{ℕ, ◌+◌, ◌/◌, ◌%◌, ◌^◌, Bool, ◌&&◌, ◌||◌, not, nat_eq, nat_le, nat_lt, true, false, count_ones, if◌then◌else◌}
use Rattle.hm_isa.specs.declared.narrow.ListName.{ListName}
use Rattle.hm_isa.specs.declared.narrow.ListName.TheVariants.{Push, Pop, Stm, Ldm}
use Rattle.hm_isa.specs.declared.narrow.AccessName.{AccessName}
use Rattle.hm_isa.specs.declared.narrow.AccessName.TheVariants as access
use Rattle.hm_isa.specs.declared.wide.PairName.{PairName}
use Rattle.hm_isa.specs.declared.wide.PairName.TheVariants.{Strd, Ldrd}
use Rattle.hm_isa.specs.declared.wide.WideListName.{WideListName}
use Rattle.hm_isa.specs.declared.wide.WideListName.TheVariants.{Stmia, Ldmia, Stmdb, Ldmdb}
use Rattle.hm_isa.specs.declared.system.SystemMoveName.{SystemMoveName}
use Rattle.hm_isa.specs.declared.system.SystemMoveName.TheVariants as move
use Rattle.hm_isa.specs.declared.vectors.ScalarName.{ScalarName}
use Rattle.hm_isa.specs.declared.vectors.ScalarName.TheVariants as by_scalar
use Rattle.hm_isa.specs.declared.vectors.ConstantShiftName.{ConstantShiftName}
use Rattle.hm_isa.specs.declared.vectors.ConstantShiftName.TheVariants as by_constant
use Rattle.hm_isa.specs.declared.vectors.ReverseName.{ReverseName}
use Rattle.hm_isa.specs.declared.vectors.ReverseName.TheVariants as reverse_

-- S6: not both registers of ADD are pc (DDI0553, "ADD (register)" and "ADD (SP plus register)")
abbrev pub keeps_high : ℕ → ℕ → Bool
keeps_high d m = not (nat_eq d 15 && nat_eq m 15)

-- S7: one register of CMP is r8 or higher, and neither is pc (DDI0553, "CMP (register)")
abbrev pub keeps_compare : ℕ → ℕ → Bool
keeps_compare d m = (nat_le 8 d || nat_le 8 m) && not (nat_eq d 15) && not (nat_eq m 15)

-- whether register k stands in a list
abbrev pub listed_in : ℕ → ℕ → Bool
listed_in list k = nat_eq (list / 2 ^ k % 2) 1

-- S20: a list of PUSH, POP, STM or LDM is not empty; STM lists its base only where that is the lowest
-- (DDI0553, "STMDB, STMFD", "LDM, LDMIA, LDMFD" and "STM, STMIA, STMEA")
abbrev pub keeps_list : ListName → ℕ → ℕ → ℕ → Bool
keeps_list Push x n list = nat_lt 0 (list + x) && nat_eq n 0
keeps_list Pop x n list = nat_lt 0 (list + x) && nat_eq n 0
keeps_list Stm x n list = nat_lt 0 list && nat_eq x 0 && (not (listed_in list n) || nat_eq (list % 2 ^ n) 0)
keeps_list Ldm x n list = nat_lt 0 list && nat_eq x 0

-- S21: the mask of IT has a bit, and under the condition always there is no other half (DDI0553, "IT")
abbrev pub keeps_it : ℕ → ℕ → Bool
keeps_it c mask = nat_lt 0 mask && (not (nat_eq c 14) || nat_eq mask 8 || nat_eq mask 4 || nat_eq mask 2 || nat_eq mask 1)

-- neither sp nor pc
abbrev pub is_general : ℕ → Bool
is_general n = not (nat_eq n 13) && not (nat_eq n 15)

-- neither of two registers is sp or pc
abbrev pub are_general : ℕ → ℕ → Bool
are_general d m = is_general d && is_general m

-- none of three registers is sp or pc
abbrev pub is_operation : ℕ → ℕ → ℕ → Bool
is_operation n d m = is_general n && is_general d && is_general m

-- T11: none of the four registers of MLA and MLS is sp or pc (DDI0553, "MLA" and "MLS")
abbrev pub is_accumulated : ℕ → ℕ → ℕ → ℕ → Bool
is_accumulated n a d m = is_general n && is_general a && is_general d && is_general m

-- T11: none of the four registers of SMULL, UMULL, SMLAL and UMLAL is sp or pc, and the two halves do not go to one
-- (DDI0553, "SMULL", "UMULL", "SMLAL" and "UMLAL")
abbrev pub is_long_product : ℕ → ℕ → ℕ → ℕ → Bool
is_long_product n l h m = is_general n && is_general l && is_general h && is_general m && not (nat_eq l h)

-- T20: no register of CSEL, CSINC, CSINV and CSNEG is sp; 15 is no result, and as an operand no register but 0
-- (DDI0553, "CSEL", "CSINC", "CSINV" and "CSNEG")
abbrev pub is_chosen : ℕ → ℕ → ℕ → Bool
is_chosen n d m = not (nat_eq n 13) && is_general d && not (nat_eq m 13)

-- T21: of VMRS and VMSR, fpscr alone is read to 15, which is no register but the flags (DDI0553, "VMRS" and "VMSR")
abbrev pub is_system_move : SystemMoveName → ℕ → Bool
is_system_move move.ReadFpscr t = not (nat_eq t 13)
is_system_move name t = is_general t

-- S14 to S17 and T12: whether an access is LDR, LDRH, LDRB, LDRSH or LDRSB, and not STR, STRH or STRB
-- (DDI0553, the immediate and register form of each, and the literal form of each load, as "LDR (immediate)", "LDR (register)" and "LDR (literal)")
abbrev pub is_load : AccessName → Bool
is_load access.Str = false
is_load access.Strh = false
is_load access.Strb = false
is_load name = true

-- T12: of STR, STRH, STRB, LDR, LDRH, LDRB, LDRSH and LDRSB, LDR and STR alone load and store sp; pc is never stored, and loaded only by LDR
-- (DDI0553, the immediate and register form of each, and the literal form of each load, as "LDR (immediate)", "LDR (register)" and "LDR (literal)")
abbrev pub is_data : AccessName → ℕ → Bool
is_data access.Ldr t = true
is_data access.Str t = not (nat_eq t 15)
is_data name t = is_general t

-- T12: the base of STR, STRH, STRB, LDR, LDRH, LDRB, LDRSH and LDRSB is not pc, but of loads of literals, which have a form of their own
-- (DDI0553, the immediate and register form of each, as "LDR (immediate)" and "LDR (register)")
abbrev pub is_offset : AccessName → ℕ → ℕ → Bool
is_offset name n t = not (nat_eq n 15) && is_data name t

-- T12: STR, STRH, STRB, LDR, LDRH, LDRB, LDRSH and LDRSB write an index back to another register than is stored or loaded, or take it off
-- (DDI0553, the immediate form of each, as "LDR (immediate)")
abbrev pub is_indexed : AccessName → ℕ → ℕ → ℕ → ℕ → ℕ → Bool
is_indexed name n t p u w = is_offset name n t && (if nat_eq w 1 then not (nat_eq n t) else nat_eq p 1 && nat_eq u 0)

-- T12: an offset of STR, STRH, STRB, LDR, LDRH, LDRB, LDRSH and LDRSB in a register is in neither sp nor pc, and the base is not pc
-- (DDI0553, the register form of each, as "LDR (register)")
abbrev pub is_shifted : AccessName → ℕ → ℕ → ℕ → Bool
is_shifted name n t m = is_offset name n t && is_general m

-- T12: a literal is only loaded, by LDR, LDRH, LDRB, LDRSH and LDRSB, and to a register that the load may have
-- (DDI0553, the literal form of each, as "LDR (literal)")
abbrev pub is_literal : AccessName → ℕ → Bool
is_literal name t = is_load name && is_data name t

-- T13: STRD and LDRD have an offset or writeback; t and u are neither sp nor pc, and with writeback not the base; LDRD has two registers,
-- and alone pc as its base, with no writeback (DDI0553, "STRD (immediate)", "LDRD (immediate)" and "LDRD (literal)")
abbrev pub is_pair : PairName → ℕ → ℕ → ℕ → ℕ → ℕ → Bool
is_pair Strd p w n t u =
    nat_lt 0 (p + w) && is_general t && is_general u && not (nat_eq n 15) && (nat_eq w 0 || (not (nat_eq n t) && not (nat_eq n u)))
is_pair Ldrd p w n t u =
    nat_lt 0 (p + w) && is_general t && is_general u && not (nat_eq t u) && (not (nat_eq n 15) || (nat_eq p 1 && nat_eq w 0))
    && (nat_eq w 0 || (not (nat_eq n t) && not (nat_eq n u)))

-- T14: STMIA and STMDB never store pc; LDMIA and LDMDB do not load lr and pc together
-- (DDI0553, "STM, STMIA, STMEA", "LDM, LDMIA, LDMFD", "STMDB, STMFD" and "LDMDB, LDMEA")
abbrev pub may_list : WideListName → ℕ → Bool
may_list Stmia list = not (listed_in list 15)
may_list Stmdb list = not (listed_in list 15)
may_list Ldmia list = not (listed_in list 14 && listed_in list 15)
may_list Ldmdb list = not (listed_in list 14 && listed_in list 15)

-- T14: STMIA, LDMIA, STMDB and LDMDB have two registers or more, never sp; the base is not pc, nor listed where it is written back
-- (DDI0553, "STM, STMIA, STMEA", "LDM, LDMIA, LDMFD", "STMDB, STMFD" and "LDMDB, LDMEA")
abbrev pub is_wide_list : WideListName → ℕ → ℕ → ℕ → Bool
is_wide_list name w n list =
    nat_le 2 (count_ones list) && not (listed_in list 13) && may_list name list && not (nat_eq n 15) && (nat_eq w 0 || not (listed_in list n))

-- T15: VPUSH and VPOP have one register or more, and none past d15 (DDI0553, "VPUSH" and "VPOP")
abbrev pub is_stacked : ℕ → ℕ → Bool
is_stacked v k = nat_lt 0 k && nat_lt (v + k) 17

-- V6: results of VMULLB and VMULLT that are two words do not overwrite a word that is still to be read (DDI0553, "VMULL (integer)")
abbrev pub is_widened : ℕ → ℕ → ℕ → ℕ → Bool
is_widened z d n m = not (nat_eq z 2) || (not (nat_eq d n) && not (nat_eq d m))

-- V9: results of VCADD and VHCADD on words do not overwrite a word that is still to be read (DDI0553, "VCADD" and "VHCADD")
abbrev pub is_complex_sum : ℕ → ℕ → ℕ → Bool
is_complex_sum z d m = not (nat_eq z 2) || not (nat_eq d m)

-- V14: elements are smaller than the groups in which VREV64, VREV32 and VREV16 reverse them, and groups of two words do not overwrite one
-- still to be read (DDI0553, "VREV64", "VREV32" and "VREV16")
abbrev pub is_reversed : ReverseName → ℕ → ℕ → ℕ → Bool
is_reversed reverse_.Rev64 z d m = not (nat_eq d m)
is_reversed reverse_.Rev32 z d m = nat_lt z 2
is_reversed reverse_.Rev16 z d m = nat_eq z 0

-- V10: whether the name of an operation says whether elements are signed: VHADD, VHSUB, VQADD, VQSUB, VMLA and VMLAS do, and
-- VADD, VSUB, VMUL, VQDMULH and VQRDMULH do not
-- (DDI0553, the forms with a scalar of "VADD (vector)", "VSUB (vector)", "VMUL (vector)", "VHADD", "VHSUB", "VQADD", "VQSUB" and
-- "VQDMULH, VQRDMULH (vector)", and "VMLA (vector by scalar plus vector)" and "VMLAS (vector by vector plus scalar)")
abbrev pub has_sign : ScalarName → Bool
has_sign by_scalar.Add = false
has_sign by_scalar.Sub = false
has_sign by_scalar.Mul = false
has_sign by_scalar.Hadd = true
has_sign by_scalar.Hsub = true
has_sign by_scalar.Qadd = true
has_sign by_scalar.Qsub = true
has_sign by_scalar.Qdmulh = false
has_sign by_scalar.Qrdmulh = false
has_sign by_scalar.Mla = true
has_sign by_scalar.Mlas = true

-- V10: u is 0 where the name says nothing of signs: of VADD, VSUB, VMUL, VQDMULH and VQRDMULH, but not of VHADD, VHSUB, VQADD, VQSUB, VMLA and VMLAS
-- (DDI0553, the forms with a scalar of "VADD (vector)", "VSUB (vector)", "VMUL (vector)", "VHADD", "VHSUB", "VQADD", "VQSUB" and
-- "VQDMULH, VQRDMULH (vector)", and "VMLA (vector by scalar plus vector)" and "VMLAS (vector by vector plus scalar)")
abbrev pub is_signed_by : ScalarName → ℕ → Bool
is_signed_by name u = has_sign name || nat_eq u 0

-- V11: whether the name of a shift by a constant says whether elements are signed: VSHR, VRSHR and VQSHL do, and VQSHLU, VSHL, VSRI and VSLI do not
-- (DDI0553, "VSHR", "VRSHR", "VQSHL, VQSHLU", "VSHL", "VSRI" and "VSLI")
abbrev pub shift_has_sign : ConstantShiftName → Bool
shift_has_sign by_constant.Shr = true
shift_has_sign by_constant.Rshr = true
shift_has_sign by_constant.Qshl = true
shift_has_sign name = false

-- V11: u is 0 where the name of a shift by a constant says nothing of signs: of VQSHLU, VSHL, VSRI and VSLI, but not of VSHR, VRSHR and VQSHL
-- (DDI0553, "VSHR", "VRSHR", "VQSHL, VQSHLU", "VSHL", "VSRI" and "VSLI")
abbrev pub is_shifted_by : ConstantShiftName → ℕ → Bool
is_shifted_by name u = shift_has_sign name || nat_eq u 0

-- V11: the highest bit that is 1 stands for a size of elements of VSHR, VRSHR, VQSHL, VQSHLU, VSHL, VSRI and VSLI
-- (DDI0553, "VSHR", "VRSHR", "VQSHL, VQSHLU", "VSHL", "VSRI" and "VSLI")
abbrev pub has_size : ℕ → Bool
has_size x = nat_le 8 x
