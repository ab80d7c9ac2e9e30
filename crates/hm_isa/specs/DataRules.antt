-- The rules that tie the letters of the rows T1 to T7 together.
use Rattle.std.specs.Prelude.{ℕ, ◌+◌, Bool, ◌&&◌, ◌||◌, not, nat_eq, nat_le, nat_lt, true, false}
use Rattle.hm_isa.specs.declared.data.DataName.{DataName}
use Rattle.hm_isa.specs.declared.data.DataName.TheVariants as data_
use Rattle.hm_isa.specs.Rules.{is_general}
use Rattle.hm_isa.specs.Words.{imm5}

-- T1 and T2: ADD and SUB, and so CMN and CMP, alone take sp as their first register
-- (DDI0553, "ADD (SP plus immediate)", "SUB (SP minus immediate)", "ADD (SP plus register)" and "SUB (SP minus register)", and the immediate and
-- register form of CMN and CMP, as "CMN (immediate)" and "CMN (register)")
abbrev pub may_take_sp : DataName → Bool
may_take_sp data_.Add = true
may_take_sp data_.Sub = true
may_take_sp name = false

-- T1 and T2: with no first register ORR is MOV, and ORN is MVN (DDI0553, "MOV (immediate)", "MOV (register)", "MVN (immediate)" and "MVN (register)")
abbrev pub may_take_none : DataName → Bool
may_take_none data_.Orr = true
may_take_none data_.Orn = true
may_take_none name = false

-- T1 and T2: with no register for the result AND, EOR, ADD and SUB are TST, TEQ, CMN and CMP
-- (DDI0553, the immediate and register form of each, as "TST (immediate)" and "TST (register)")
abbrev pub may_test : DataName → Bool
may_test data_.And = true
may_test data_.Eor = true
may_test data_.Add = true
may_test data_.Sub = true
may_test name = false

-- T1 and T2: whether AND, BIC, ORR, ORN, EOR, ADD, ADC, SBC, SUB, RSB, MOV, MVN, TST, TEQ, CMN and CMP, and of T2 LSL, LSR, ASR, ROR and RRX,
-- take n as their first register: neither sp nor pc, sp where they may, or 15 for none where they may
-- (DDI0553, "Data-processing (modified immediate)" and "Data-processing (shifted register)")
abbrev pub is_first : DataName → ℕ → Bool
is_first name n = is_general n || (nat_eq n 13 && may_take_sp name) || (nat_eq n 15 && may_take_none name)

-- T1 and T2: sp gets what ADD and SUB added to it or took from it, and TST, TEQ, CMN and CMP have the flags alone
-- (DDI0553, "Data-processing (modified immediate)" and "Data-processing (shifted register)")
abbrev pub is_result : DataName → ℕ → ℕ → ℕ → Bool
is_result name s n d = is_general d || (nat_eq d 13 && nat_eq n 13) || (nat_eq d 15 && nat_eq s 1 && may_test name)

-- T1: a byte that stands more than once is not 0 (DDI0553, "Modified immediate constants" and "Data-processing (modified immediate)")
abbrev pub is_constant : ℕ → ℕ → ℕ → Bool
is_constant i i3 i8 = nat_eq i 1 || nat_eq i3 0 || nat_le 4 i3 || nat_lt 0 i8

-- T1: whether the letters of AND, BIC, ORR, ORN, EOR, ADD, ADC, SBC, SUB, RSB, MOV, MVN, TST, TEQ, CMN and CMP with a constant go together
-- (DDI0553, "Data-processing (modified immediate)")
abbrev pub is_constant_row : DataName → ℕ → ℕ → ℕ → ℕ → ℕ → ℕ → Bool
is_constant_row name s n d i i3 i8 = is_first name n && is_result name s n d && is_constant i i3 i8

-- T2: whether an operation is MOV of a register, or LSL, LSR, ASR, ROR or RRX of one by a constant, and leaves the flags (DDI0553, "MOV (register)")
abbrev pub is_move : DataName → ℕ → ℕ → Bool
is_move data_.Orr s n = nat_eq s 0 && nat_eq n 15
is_move name s n = false

-- T2: MOV.W of sp, or into it, from a register or into one (DDI0553, "MOV (register)")
abbrev pub is_stack_move : DataName → ℕ → ℕ → ℕ → ℕ → ℕ → ℕ → ℕ → Bool
is_stack_move name s n d i3 i2 ty m =
    is_move name s n && nat_eq i3 0 && nat_eq i2 0 && nat_eq ty 0 && ((nat_eq d 13 && is_general m) || (is_general d && nat_eq m 13))

-- T2: whether the letters of AND, BIC, ORR, ORN, EOR, ADD, ADC, SBC, SUB, RSB, MOV, MVN, LSL, LSR, ASR, ROR, RRX, TST, TEQ, CMN and CMP go together;
-- what sp gets has the other register with LSL 0 to 3 (DDI0553, "Data-processing (shifted register)")
abbrev pub is_shifted_row : DataName → ℕ → ℕ → ℕ → ℕ → ℕ → ℕ → ℕ → Bool
is_shifted_row name s n d i3 i2 ty m =
    (is_first name n && is_result name s n d && is_general m && (not (nat_eq d 13) || (nat_eq i3 0 && nat_eq ty 0)))
    || is_stack_move name s n d i3 i2 ty m

-- T3: pc gets no result of ADDW, SUBW and ADR, and sp only what ADDW and SUBW added to it or took from it
-- (DDI0553, "ADD (immediate)" and "ADD (SP plus immediate)", encodings T4, "SUB (immediate)", encoding T4, "SUB (SP minus immediate)", encoding T3,
-- and "ADR", encodings T2 and T3)
abbrev pub is_wide_sum : ℕ → ℕ → Bool
is_wide_sum n d = is_general d || (nat_eq d 13 && nat_eq n 13)

-- T5: with ASR the shift of SSAT and USAT is not by 0 (DDI0553, "SSAT" and "USAT")
abbrev pub is_saturated : ℕ → ℕ → ℕ → ℕ → ℕ → Bool
is_saturated sh n d i3 i2 = is_general n && is_general d && (nat_eq sh 0 || nat_lt 0 (i3 + i2))

-- T6: the field of SBFX and UBFX ends at bit 31 or lower (DDI0553, "SBFX" and "UBFX")
abbrev pub is_bit_field : ℕ → ℕ → ℕ → ℕ → ℕ → Bool
is_bit_field n d i3 i2 w = is_general n && is_general d && nat_le (imm5 i3 i2 + w) 31

-- T7: the field of BFI and BFC has its lowest bit no higher than its highest (DDI0553, "BFI" and "BFC")
abbrev pub is_inserted : ℕ → ℕ → ℕ → ℕ → ℕ → Bool
is_inserted n d i3 i2 e = not (nat_eq n 13) && is_general d && nat_le (imm5 i3 i2) e
