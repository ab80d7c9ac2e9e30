-- The names of rows of one halfword that a mnemonic may be of.
use Rattle.std.specs.Prelude.{List, [], ◌∷◌}
use Rattle.hm_isa.specs.declared.narrow.ByteName.{ByteName}
use Rattle.hm_isa.specs.declared.narrow.ByteName.TheVariants as byte
use Rattle.hm_isa.specs.declared.narrow.HintName.{HintName}
use Rattle.hm_isa.specs.declared.narrow.HintName.TheVariants as hint
use Rattle.hm_isa.specs.declared.narrow.JumpName.{JumpName}
use Rattle.hm_isa.specs.declared.narrow.JumpName.TheVariants as jump
use Rattle.hm_isa.specs.declared.narrow.LogicName.{LogicName}
use Rattle.hm_isa.specs.declared.narrow.LogicName.TheVariants as logic
use Rattle.hm_isa.specs.declared.narrow.MaskingName.{MaskingName}
use Rattle.hm_isa.specs.declared.narrow.MaskingName.TheVariants as masking
use Rattle.hm_isa.specs.declared.narrow.PlainName.{PlainName}
use Rattle.hm_isa.specs.declared.narrow.PlainName.TheVariants as plain
use Rattle.hm_isa.specs.declared.narrow.ShiftName.{ShiftName}
use Rattle.hm_isa.specs.declared.narrow.ShiftName.TheVariants as shift
use Rattle.hm_isa.specs.declared.narrow.SwapName.{SwapName}
use Rattle.hm_isa.specs.declared.narrow.SwapName.TheVariants as swap_
use Rattle.hm_isa.specs.declared.narrow.WordName.{WordName}
use Rattle.hm_isa.specs.declared.narrow.WordName.TheVariants as word_
use Rattle.hm_isa.specs.declared.narrow.ZeroName.{ZeroName}
use Rattle.hm_isa.specs.declared.narrow.ZeroName.TheVariants as zero_

-- S1: LSLS, LSRS and ASRS (DDI0553, "LSL (immediate)", "LSR (immediate)" and "ASR (immediate)")
abbrev pub shift_names : List ShiftName
shift_names = shift.Lsl ∷ shift.Lsr ∷ shift.Asr ∷ []

-- S4: MOVS, CMP, ADDS and SUBS (DDI0553, "MOV (immediate)", "CMP (immediate)", "ADD (immediate)" and "SUB (immediate)")
abbrev pub byte_names : List ByteName
byte_names = byte.Mov ∷ byte.Cmp ∷ byte.Add ∷ byte.Sub ∷ []

-- S5: ANDS, EORS, LSLS, LSRS, ASRS, ADCS, SBCS, RORS, TST, RSBS, CMP, CMN, ORRS, MULS, BICS and MVNS
-- (DDI0553, the register form of each, as "AND (register)", "RSB (immediate)" of 0, and "MUL")
abbrev pub logic_names : List LogicName
logic_names =
    logic.Ands ∷ logic.Eors ∷ logic.Lsls ∷ logic.Lsrs ∷ logic.Asrs ∷ logic.Adcs ∷ logic.Sbcs ∷ logic.Rors
    ∷ logic.Tst ∷ logic.Rsbs ∷ logic.Cmp ∷ logic.Cmn ∷ logic.Orrs ∷ logic.Muls ∷ logic.Bics ∷ logic.Mvns ∷ []

-- S12: REV, REV16 and REVSH (DDI0553, "REV", "REV16" and "REVSH")
abbrev pub swap_names : List SwapName
swap_names = swap_.Rev ∷ swap_.Rev16 ∷ swap_.Revsh ∷ []

-- S13: CPSIE and CPSID (DDI0553, "CPS")
abbrev pub masking_names : List MaskingName
masking_names = masking.Cpsie ∷ masking.Cpsid ∷ []

-- S16: STR, LDR, STRB, LDRB, STRH and LDRH (DDI0553, the immediate form of each, as "STR (immediate)")
abbrev pub plain_names : List PlainName
plain_names = plain.Str ∷ plain.Ldr ∷ plain.Strb ∷ plain.Ldrb ∷ plain.Strh ∷ plain.Ldrh ∷ []

-- S17: STR and LDR (DDI0553, "STR (immediate)" and "LDR (immediate)")
abbrev pub word_names : List WordName
word_names = word_.Str ∷ word_.Ldr ∷ []

-- S19: NOP, YIELD, WFE, WFI and SEV (DDI0553, "NOP", "YIELD", "WFE", "WFI" and "SEV")
abbrev pub hint_names : List HintName
hint_names = hint.Nop ∷ hint.Yield ∷ hint.Wfe ∷ hint.Wfi ∷ hint.Sev ∷ []

-- S23: BX and BLX (DDI0553, "BX, BXNS" and "BLX, BLXNS")
abbrev pub jump_names : List JumpName
jump_names = jump.Bx ∷ jump.Blx ∷ []

-- S24: CBZ and CBNZ (DDI0553, "CBNZ, CBZ")
abbrev pub zero_names : List ZeroName
zero_names = zero_.Cbz ∷ zero_.Cbnz ∷ []
