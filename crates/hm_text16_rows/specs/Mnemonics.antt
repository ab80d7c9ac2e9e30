-- The mnemonics of the rows of one halfword, but for those that rows of two share, and conditions and first words of blocks.
use Rattle.std.specs.Prelude.{ℕ, ◌/◌, ◌%◌, List, [], ◌∷◌, ◌++◌, get_or, codes, nat_eq, if◌then◌else◌}
use Rattle.hm_isa.specs.declared.narrow.ByteName.{ByteName}
use Rattle.hm_isa.specs.declared.narrow.ByteName.TheVariants as byte
use Rattle.hm_isa.specs.declared.narrow.HintName.{HintName}
use Rattle.hm_isa.specs.declared.narrow.HintName.TheVariants as hint
use Rattle.hm_isa.specs.declared.narrow.JumpName.{JumpName}
use Rattle.hm_isa.specs.declared.narrow.JumpName.TheVariants as jump
use Rattle.hm_isa.specs.declared.narrow.LogicName.{LogicName}
use Rattle.hm_isa.specs.declared.narrow.LogicName.TheVariants as logic
use Rattle.hm_isa.specs.declared.narrow.MaskingName.{MaskingName}
use Rattle.hm_isa.specs.declared.narrow.MaskingName.TheVariants as masking
use Rattle.hm_isa.specs.declared.narrow.PlainName.{PlainName}
use Rattle.hm_isa.specs.declared.narrow.ShiftName.{ShiftName}
use Rattle.hm_isa.specs.declared.narrow.ShiftName.TheVariants as shift
use Rattle.hm_isa.specs.declared.narrow.SumName.{SumName}
use Rattle.hm_isa.specs.declared.narrow.SumName.TheVariants as sum_
use Rattle.hm_isa.specs.declared.narrow.SwapName.{SwapName}
use Rattle.hm_isa.specs.declared.narrow.SwapName.TheVariants as swap_
use Rattle.hm_isa.specs.declared.narrow.WordName.{WordName}
use Rattle.hm_isa.specs.declared.narrow.ZeroName.{ZeroName}
use Rattle.hm_isa.specs.declared.narrow.ZeroName.TheVariants as zero_
use Rattle.hm_isa.specs.Letters.{plain_access, word_access}
use Rattle.hm_text_rows.specs.Mnemonics.{access_mnemonic}
use Rattle.hm_tokens.specs.Names.{condition_names}

-- S1: the mnemonic of each name, LSLS, LSRS and ASRS (DDI0553, "LSL (immediate)", "LSR (immediate)" and "ASR (immediate)")
abbrev pub shift_mnemonic : ShiftName → List ℕ
shift_mnemonic shift.Lsl = codes "lsls"
shift_mnemonic shift.Lsr = codes "lsrs"
shift_mnemonic shift.Asr = codes "asrs"

-- S2 and S3: the mnemonic of each name, ADDS and SUBS (DDI0553, "ADD (register)", "SUB (register)", "ADD (immediate)" and "SUB (immediate)")
abbrev pub sum_mnemonic : SumName → List ℕ
sum_mnemonic sum_.Add = codes "adds"
sum_mnemonic sum_.Sub = codes "subs"

-- S10: the mnemonic of each name, ADD and SUB (DDI0553, "ADD (SP plus immediate)" and "SUB (SP minus immediate)")
abbrev pub stack_sum_mnemonic : SumName → List ℕ
stack_sum_mnemonic sum_.Add = codes "add"
stack_sum_mnemonic sum_.Sub = codes "sub"

-- S4: the mnemonic of each name, MOVS, CMP, ADDS and SUBS (DDI0553, "MOV (immediate)", "CMP (immediate)", "ADD (immediate)" and "SUB (immediate)")
abbrev pub byte_mnemonic : ByteName → List ℕ
byte_mnemonic byte.Mov = codes "movs"
byte_mnemonic byte.Cmp = codes "cmp"
byte_mnemonic byte.Add = codes "adds"
byte_mnemonic byte.Sub = codes "subs"

-- S5: the mnemonic of each name, ANDS, EORS, LSLS, LSRS, ASRS, ADCS, SBCS, RORS, TST, RSBS, CMP, CMN, ORRS, MULS, BICS and MVNS
-- (DDI0553, the register form of each, as "AND (register)", "RSB (immediate)" and "MUL")
abbrev pub logic_mnemonic : LogicName → List ℕ
logic_mnemonic logic.Ands = codes "ands"
logic_mnemonic logic.Eors = codes "eors"
logic_mnemonic logic.Lsls = codes "lsls"
logic_mnemonic logic.Lsrs = codes "lsrs"
logic_mnemonic logic.Asrs = codes "asrs"
logic_mnemonic logic.Adcs = codes "adcs"
logic_mnemonic logic.Sbcs = codes "sbcs"
logic_mnemonic logic.Rors = codes "rors"
logic_mnemonic logic.Tst = codes "tst"
logic_mnemonic logic.Rsbs = codes "rsbs"
logic_mnemonic logic.Cmp = codes "cmp"
logic_mnemonic logic.Cmn = codes "cmn"
logic_mnemonic logic.Orrs = codes "orrs"
logic_mnemonic logic.Muls = codes "muls"
logic_mnemonic logic.Bics = codes "bics"
logic_mnemonic logic.Mvns = codes "mvns"

-- S12: the mnemonic of each name, REV, REV16 and REVSH (DDI0553, "REV", "REV16" and "REVSH")
abbrev pub swap_mnemonic : SwapName → List ℕ
swap_mnemonic swap_.Rev = codes "rev"
swap_mnemonic swap_.Rev16 = codes "rev16"
swap_mnemonic swap_.Revsh = codes "revsh"

-- S13: the mnemonic of each name, CPSIE and CPSID (DDI0553, "CPS")
abbrev pub masking_mnemonic : MaskingName → List ℕ
masking_mnemonic masking.Cpsie = codes "cpsie"
masking_mnemonic masking.Cpsid = codes "cpsid"

-- S16: the mnemonic of each name, STR, LDR, STRB, LDRB, STRH and LDRH (DDI0553, the immediate form of each, as "STR (immediate)")
abbrev pub plain_mnemonic : PlainName → List ℕ
plain_mnemonic name = access_mnemonic (plain_access name)

-- S17: the mnemonic of each name, STR and LDR (DDI0553, "STR (immediate)" and "LDR (immediate)")
abbrev pub word_mnemonic : WordName → List ℕ
word_mnemonic name = access_mnemonic (word_access name)

-- S19: the mnemonic of each name, NOP, YIELD, WFE, WFI and SEV (DDI0553, "NOP", "YIELD", "WFE", "WFI" and "SEV")
abbrev pub hint_mnemonic : HintName → List ℕ
hint_mnemonic hint.Nop = codes "nop"
hint_mnemonic hint.Yield = codes "yield"
hint_mnemonic hint.Wfe = codes "wfe"
hint_mnemonic hint.Wfi = codes "wfi"
hint_mnemonic hint.Sev = codes "sev"

-- S23: the mnemonic of each name, BX and BLX (DDI0553, "BX, BXNS" and "BLX, BLXNS")
abbrev pub jump_mnemonic : JumpName → List ℕ
jump_mnemonic jump.Bx = codes "bx"
jump_mnemonic jump.Blx = codes "blx"

-- S24: the mnemonic of each name, CBZ and CBNZ (DDI0553, "CBNZ, CBZ")
abbrev pub zero_mnemonic : ZeroName → List ℕ
zero_mnemonic zero_.Cbz = codes "cbz"
zero_mnemonic zero_.Cbnz = codes "cbnz"

-- S21: the condition of IT, `al` among them (DDI0553, "IT")
abbrev pub block_condition : ℕ → List ℕ
block_condition c = get_or (condition_names ++ codes "al" ∷ []) c []

-- S21: `t`, for an instruction under the condition of its IT block (DDI0553, "IT")
abbrev pub then_letter : ℕ
then_letter = 116

-- S21: `e`, for one under the opposite of the condition of its IT block (DDI0553, "IT")
abbrev pub else_letter : ℕ
else_letter = 101

-- S21: t where the bit of an instruction is the low bit of the condition of its IT block, and e where it is the other (DDI0553, "IT")
abbrev pub letter : ℕ → ℕ → ℕ
letter low bit = if nat_eq bit low then then_letter else else_letter

-- S21: a letter for each bit of the mask of IT above its lowest 1, from bit 3 down (DDI0553, "IT")
abbrev pub letters_above : ℕ → ℕ → List ℕ
letters_above low mask =
    if nat_eq (mask % 8) 0 then []
    else if nat_eq (mask % 4) 0 then letter low (mask / 8) ∷ []
    else if nat_eq (mask % 2) 0 then letter low (mask / 8) ∷ letter low (mask / 4 % 2) ∷ []
    else letter low (mask / 8) ∷ letter low (mask / 4 % 2) ∷ letter low (mask / 2 % 2) ∷ []

-- S21: the first word of IT, `it` and its letters (DDI0553, "IT")
abbrev pub block_first_word : ℕ → ℕ → List ℕ
block_first_word c mask = codes "it" ++ letters_above (c % 2) mask
