-- What the text of each row gives a reader, its mnemonic and its operands as numbers, and what a reader owes for it.
use Rattle.std.specs.Prelude.{◌≡◌, ℕ, ◌*◌, List, Option, Some}
use Rattle.hm_isa.specs.declared.widths.NarrowRow.{NarrowRow}
use Rattle.hm_isa.specs.declared.widths.NarrowRow.TheVariants as narrow
use Rattle.hm_isa.specs.Code.{narrow_code}
use Rattle.hm_isa.specs.Letters.{access_size, base_register, plain_access, shift_amount}
use Rattle.hm_tokens.specs.Tokens.{Tok}
use Rattle.hm_text_rows.specs.Labels.{IsLabel, Reaches}
use Rattle.hm_text_rows.specs.Operands.{first_word}
use Rattle.hm_text16_codes.specs.declared.operands.Kind.{Kind}
use Rattle.hm_text16_codes.specs.declared.operands.Kind.TheVariants as kinds
use Rattle.hm_text16_codes.specs.declared.operands.Operands.{Operands}
use Rattle.hm_text16_codes.specs.Operands.{kind_of, read_narrow_operands, narrow_value}
use Rattle.hm_text16_rows.specs.Rows.{list_tokens, tokens_of}
use Rattle.hm_text16_rows.specs.Targets.{target}

-- up to three operands, what the second and the third are, and no list
abbrev pub given : ℕ → ℕ → ℕ → Kind → Kind → Operands
given a b c second third = record {
  first = a;
  second = b;
  third = c;
  second_kind = second;
  third_kind = third;
  registers = 0;
}

-- at most one operand
abbrev pub one_given : ℕ → Operands
one_given a = given a 0 0 kinds.Missing kinds.Missing

-- two operands, the second of this kind
abbrev pub two_given : ℕ → ℕ → Kind → Operands
two_given a b kind = given a b 0 kind kinds.Missing

-- three operands, the second a word and the third of this kind
abbrev pub three_given : ℕ → ℕ → ℕ → Kind → Operands
three_given a b c kind = given a b c kinds.Word kind

-- the operands of each row, where t is the token of its label; S20: of PUSH, POP, STM and LDM, what is read of its list
-- (DDI0553, "STMDB, STMFD", "LDM, LDMIA, LDMFD" and "STM, STMIA, STMEA")
abbrev pub operands_of : NarrowRow → Tok → Operands
operands_of (narrow.S1 i) t = three_given i.d.value i.m.value (shift_amount i.name i.i.value) kinds.Number
operands_of (narrow.S2 i) t = three_given i.d.value i.n.value i.m.value kinds.Word
operands_of (narrow.S3 i) t = three_given i.d.value i.n.value i.i.value kinds.Number
operands_of (narrow.S4 i) t = two_given i.d.value i.i.value kinds.Number
operands_of (narrow.S5 i) t = two_given i.d.value i.m.value kinds.Word
operands_of (narrow.S6 i) t = two_given i.d.value i.m.value kinds.Word
operands_of (narrow.S7 i) t = two_given i.d.value i.m.value kinds.Word
operands_of (narrow.S8 i) t = two_given i.d.value i.m.value kinds.Word
operands_of (narrow.S9 i) t = three_given i.d.value (base_register i.name) (4 * i.i.value) kinds.Number
operands_of (narrow.S10 i) t = two_given 13 (4 * i.i.value) kinds.Number
operands_of (narrow.S11 i) t = two_given i.d.value i.m.value kinds.Word
operands_of (narrow.S12 i) t = two_given i.d.value i.m.value kinds.Word
operands_of (narrow.S13 i) t = one_given 0
operands_of (narrow.S14 i) t = two_given i.t.value (narrow_value t) (kind_of t)
operands_of (narrow.S15 i) t = three_given i.t.value i.n.value i.m.value kinds.Word
operands_of (narrow.S16 i) t = three_given i.t.value i.n.value (access_size (plain_access i.name) * i.i.value) kinds.Number
operands_of (narrow.S17 i) t = three_given i.t.value 13 (4 * i.i.value) kinds.Number
operands_of (narrow.S18 i) t = one_given i.i.value
operands_of (narrow.S19 i) t = one_given 0
operands_of (narrow.S20 i) t = read_narrow_operands (list_tokens i.name i.x.value i.n.value i.list.value)
operands_of (narrow.S21 i) t = one_given i.c.value
operands_of (narrow.S23 i) t = one_given i.m.value
operands_of (narrow.S24 i) t = two_given i.n.value (narrow_value t) (kind_of t)
operands_of (narrow.S25 i) t = one_given (narrow_value t)

-- a mnemonic and operands are those of a row, where t is the token of its label
abbrev pub Asks : NarrowRow → Tok → List ℕ → Operands → Type 0
Asks r t s o = (s ≡ first_word (tokens_of r t)) × (o ≡ operands_of r t)

-- a mnemonic and operands are given the code of the row of this kind that asks so; what they are given where none asks is not said
abbrev pub IsCodeOf : {A : Type 0} → (A → NarrowRow) → List ℕ → Operands → Option ℕ → Type 0
IsCodeOf {A} row s o code = (i : A) (t : Tok) → Asks (row i) t s o → code ≡ Some (narrow_code (row i))

-- and of the row that stands at pc, with a label that names the address a
abbrev pub IsCodeAt : {A : Type 0} → (A → NarrowRow) → List ℕ → Operands → ℕ → ℕ → Option ℕ → Type 0
IsCodeAt {A} row s o pc a code = (i : A) (t : Tok) → Asks (row i) t s o → Reaches (target (row i) pc) a → code ≡ Some (narrow_code (row i))

-- tokens at pc, where a label names the address a, are given the code of the row with these tokens
abbrev pub IsCodeIn : List Tok → ℕ → ℕ → Option ℕ → Type 0
IsCodeIn ts pc a code = (r : NarrowRow) (t : Tok) → IsLabel t → Reaches (target r pc) a → ts ≡ tokens_of r t → code ≡ Some (narrow_code r)
