-- The text of each row of one halfword, as tokens.
use Rattle.std.specs.Prelude.{ℕ, ◌+◌, ◌*◌, Bool, true, false, List, [], ◌∷◌, ◌++◌, codes, if◌then◌else◌}
use Rattle.hm_isa.specs.declared.widths.NarrowRow.{NarrowRow}
use Rattle.hm_isa.specs.declared.widths.NarrowRow.TheVariants as narrow
use Rattle.hm_isa.specs.declared.narrow.ListName.{ListName}
use Rattle.hm_isa.specs.declared.narrow.ListName.TheVariants as list
use Rattle.hm_isa.specs.declared.narrow.S25.{S25 as JumpRow}
use Rattle.hm_isa.specs.declared.narrow.S25.TheVariants as s25
use Rattle.hm_isa.specs.Letters.{access_size, base_register, plain_access, shift_amount}
use Rattle.hm_isa.specs.Rules.{listed_in}
use Rattle.hm_isa.specs.Standing.{◌↑◌}
use Rattle.hm_tokens.specs.Tokens.{Tok, word, close_bracket, comma, bang, open_bracket}
use Rattle.hm_text_rows.specs.Shapes.{and_constant, braces, constant, inside, one, r, three, two}
use Rattle.hm_text_rows.specs.Mnemonics.{access_mnemonic, branch_mnemonic, extend_mnemonic}
use Rattle.hm_text16_rows.specs.Mnemonics.{block_condition, block_first_word, byte_mnemonic, hint_mnemonic}
use Rattle.hm_text16_rows.specs.Mnemonics.{jump_mnemonic, logic_mnemonic, masking_mnemonic}
use Rattle.hm_text16_rows.specs.Mnemonics.{plain_mnemonic, shift_mnemonic, stack_sum_mnemonic, sum_mnemonic, swap_mnemonic, word_mnemonic, zero_mnemonic}

-- SHAPES
-- S15: the tokens of STR, STRH, STRB, LDRSB, LDR, LDRH, LDRB and LDRSH at two registers, `rt,[rn,rm]`
-- (DDI0553, the register form of each, as "STR (register)")
abbrev pub by_register : List ℕ → ℕ → ℕ → ℕ → List Tok
by_register name t n m = word name ∷ r t ∷ comma ∷ open_bracket ∷ r n ∷ comma ∷ r m ∷ close_bracket ∷ []

-- S16 and S17: the tokens of STR, LDR, STRB, LDRB, STRH and LDRH at a register and a number, `rt,[rn,#k]`
-- (DDI0553, the immediate form of each, as "STR (immediate)")
abbrev pub by_number : List ℕ → ℕ → ℕ → ℕ → List Tok
by_number name t n k = word name ∷ r t ∷ comma ∷ inside 1 0 (r n) k

-- LISTS
-- S20: the beginning of LDM, `ldm rn!,`, or `ldm rn,` where rn is listed and there is no writeback (DDI0553, "LDM, LDMIA, LDMFD")
abbrev pub load_start : ℕ → ℕ → List Tok
load_start n list = if listed_in list n then word (codes "ldm") ∷ r n ∷ comma ∷ [] else word (codes "ldm") ∷ r n ∷ bang ∷ comma ∷ []

-- S20: the tokens of PUSH, POP, STM and LDM; lr is register 14 and pc is register 15 (DDI0553, "STMDB, STMFD", "LDM, LDMIA, LDMFD" and "STM, STMIA, STMEA")
abbrev pub list_tokens : ListName → ℕ → ℕ → ℕ → List Tok
list_tokens list.Push x n regs = word (codes "push") ∷ braces (regs + x ↑ 14)
list_tokens list.Pop x n regs = word (codes "pop") ∷ braces (regs + x ↑ 15)
list_tokens list.Stm x n regs = word (codes "stm") ∷ r n ∷ bang ∷ comma ∷ braces regs
list_tokens list.Ldm x n regs = load_start n regs ++ braces regs

-- ROWS
-- S25: the tokens of B with a condition or with none, before the label (DDI0553, "B", encodings T1 and T2)
abbrev pub jump_tokens : JumpRow → List Tok
jump_tokens (s25.Conditional i) = word (branch_mnemonic i.c.value) ∷ []
jump_tokens (s25.Always i) = word (codes "b") ∷ []

-- the tokens of each row; of one that has a label, those before it; S6: ADD, S7: CMP, S8: MOV, S9: ADD, S14: LDR, S18: BKPT
-- (DDI0553, "ADD (register)", "ADD (SP plus register)", "CMP (register)", "MOV (register)", "ADR", "ADD (SP plus immediate)", "LDR (literal)" and "BKPT")
abbrev pub row_tokens : NarrowRow → List Tok
row_tokens (narrow.S1 i) = and_constant (two (shift_mnemonic i.name) (r i.d.value) (r i.m.value)) (shift_amount i.name i.i.value)
row_tokens (narrow.S2 i) = three (sum_mnemonic i.name) (r i.d.value) (r i.n.value) (r i.m.value)
row_tokens (narrow.S3 i) = and_constant (two (sum_mnemonic i.name) (r i.d.value) (r i.n.value)) i.i.value
row_tokens (narrow.S4 i) = and_constant (one (byte_mnemonic i.name) (r i.d.value)) i.i.value
row_tokens (narrow.S5 i) = two (logic_mnemonic i.name) (r i.d.value) (r i.m.value)
row_tokens (narrow.S6 i) = two (codes "add") (r i.d.value) (r i.m.value)
row_tokens (narrow.S7 i) = two (codes "cmp") (r i.d.value) (r i.m.value)
row_tokens (narrow.S8 i) = two (codes "mov") (r i.d.value) (r i.m.value)
row_tokens (narrow.S9 i) = and_constant (two (codes "add") (r i.d.value) (r (base_register i.name))) (4 * i.i.value)
row_tokens (narrow.S10 i) = and_constant (one (stack_sum_mnemonic i.name) (r 13)) (4 * i.i.value)
row_tokens (narrow.S11 i) = two (extend_mnemonic i.name) (r i.d.value) (r i.m.value)
row_tokens (narrow.S12 i) = two (swap_mnemonic i.name) (r i.d.value) (r i.m.value)
row_tokens (narrow.S13 i) = one (masking_mnemonic i.name) (word (codes "i"))
row_tokens (narrow.S14 i) = word (codes "ldr") ∷ r i.t.value ∷ comma ∷ []
row_tokens (narrow.S15 i) = by_register (access_mnemonic i.name) i.t.value i.n.value i.m.value
row_tokens (narrow.S16 i) = by_number (plain_mnemonic i.name) i.t.value i.n.value (access_size (plain_access i.name) * i.i.value)
row_tokens (narrow.S17 i) = by_number (word_mnemonic i.name) i.t.value 13 (4 * i.i.value)
row_tokens (narrow.S18 i) = word (codes "bkpt") ∷ constant i.i.value
row_tokens (narrow.S19 i) = word (hint_mnemonic i.name) ∷ []
row_tokens (narrow.S20 i) = list_tokens i.name i.x.value i.n.value i.list.value
row_tokens (narrow.S21 i) = one (block_first_word i.c.value i.mask.value) (word (block_condition i.c.value))
row_tokens (narrow.S23 i) = one (jump_mnemonic i.name) (r i.m.value)
row_tokens (narrow.S24 i) = word (zero_mnemonic i.name) ∷ r i.n.value ∷ comma ∷ []
row_tokens (narrow.S25 i) = jump_tokens i

-- whether the last operand of a row is a label: S14, S24 and S25: LDR of a literal, CBZ and CBNZ, and B (DDI0553, "LDR (literal)", "CBNZ, CBZ" and "B")
abbrev pub has_label : NarrowRow → Bool
has_label (narrow.S14 i) = true
has_label (narrow.S24 i) = true
has_label (narrow.S25 i) = true
has_label i = false

-- the whole text of a row, where t is the token of its label, if it has one
abbrev pub tokens_of : NarrowRow → Tok → List Tok
tokens_of i t = if has_label i then row_tokens i ++ t ∷ [] else row_tokens i
