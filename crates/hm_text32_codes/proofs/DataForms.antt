-- Rows T1, T2 and T8: what their mnemonics say, and that a text is of one of them.
use Rattle.std.proofs.Common.{◌≡◌, ℕ, ◌<◌, Bool, true, false, List, Some, refl, sym, ap, ◌∙◌, arith}
use Rattle.std.specs.Prelude.{is_some}
use Rattle.std.proofs.lemmas.Bool.{agree_below_at, false≢true}
use Rattle.std.proofs.lemmas.Bool.Decides.{nat_tests}
use Rattle.hm_isa.specs.declared.arith.T8.{T8}
use Rattle.hm_isa.specs.declared.data.DataName.{DataName}
use Rattle.hm_isa.specs.declared.data.T1.{T1}
use Rattle.hm_isa.specs.declared.data.T2.{T2}
use Rattle.hm_isa.specs.declared.jumps.T16.TheVariants as t16
use Rattle.hm_isa.specs.declared.widths.WideRow.{WideRow}
use Rattle.hm_isa.specs.declared.widths.WideRow.TheVariants as wide
use Rattle.hm_isa.specs.ArithCodes.{code_t8}
use Rattle.hm_isa.specs.Code.{wide_code}
use Rattle.hm_isa.specs.DataCodes.{code_t1, code_t2}
use Rattle.hm_isa.specs.DataRules.{may_take_none, may_test}
use Rattle.hm_text_base.proofs.Steps.{some_is}
use Rattle.hm_tokens.specs.Tokens.{Tok}
use Rattle.hm_text_rows.specs.Mnemonics.{branch_mnemonic}
use Rattle.hm_text_rows.proofs.Words.{is_mnemonic}
use Rattle.hm_text32_rows.specs.Mnemonics.{wide_shift_mnemonic}
use Rattle.hm_text32_codes.specs.declared.names.DataKind.{DataKind}
use Rattle.hm_text32_codes.specs.declared.names.DataKind.TheVariants as kind
use Rattle.hm_text32_codes.specs.declared.operands.Operands.{Operands}
use Rattle.hm_text32_codes.specs.Asked.{Letters, given, kind_of, kind_operands, letters_t1, letters_t2, mnemonic_of, operands_of}
use Rattle.hm_text32_codes.specs.Names.{kind_in, kind_mnemonic, shift_number_of}
use Rattle.hm_text32_codes.proofs.Immediates.{field_back}
use Rattle.hm_text32_codes.proofs.Inverses.{five_below}

-- WHAT A MNEMONIC SAYS is read of it; and what holds of the letters
pub record Said (l : Letters) : Type 0 where
  pub told : kind_in (kind_mnemonic (kind_of l)) ≡ Some (kind_of l)
  pub mnemonic : is_mnemonic (kind_mnemonic (kind_of l)) ≡ true
  pub type : l.ty < 4
  pub amount : l.k < 32
  test : l.d ≡ 15 → l.s ≡ 1
  plain : l.is_number ≡ true → (l.ty ≡ 0) × (l.k ≡ 0)

said : (l : Letters) → l.s < 2 → l.ty < 4 → l.k < 32 → (l.d ≡ 15 → (l.s ≡ 1) × (may_test l.name ≡ true)) → (l.n ≡ 15 → may_take_none l.name ≡ true)
    → (l.is_number ≡ true → (l.ty ≡ 0) × (l.k ≡ 0)) → Said l
said l s ty k test none plain = record {
  told = grind (arith, nat_tests, test, none);
  mnemonic = grind (arith, nat_tests, test, none);
  type = ty;
  amount = k;
  test = λ e. (test e).0;
  plain = plain;
}

pub said_t1 : (i : T1) → Said (letters_t1 i)
said_t1 i =
    let e = i.rules in
    said (letters_t1 i) i.s.in_range (omega arith) (omega arith) (λ f. grind (arith, nat_tests, e)) (λ f. grind (arith, nat_tests, e)) (λ f. (refl, refl))

pub said_t2 : (i : T2) → Said (letters_t2 i)
said_t2 i =
    let e = i.rules in
    said (letters_t2 i) i.s.in_range i.ty.in_range (five_below i.i3.value i.i2.value i.i3.in_range i.i2.in_range) (λ f. grind (arith, nat_tests, e))
    (λ f. grind (arith, nat_tests, e)) (λ f. absurd cc)

abbrev pub shift_kind : T8 → DataKind
shift_kind i = kind.Shift (shift_number_of i.name) i.s.value

pub told_t8 : (i : T8) → kind_in (wide_shift_mnemonic i.name i.s.value) ≡ Some (shift_kind i)
told_t8 i = grind arith

pub no_first : (l : Letters) (k : DataKind) (name : DataName) (s : ℕ) → k ≡ kind_of l → k ≡ kind.Move name s → (l.name ≡ name) × (l.s ≡ s) × (l.n ≡ 15)
no_first l k name s e f = grind (arith, nat_tests)

-- ROWS WITH ONE TEXT
same_letters : (k : DataKind) (l m : Letters) → l.k < 32 → m.k < 32 → l.ty < 4 → m.ty < 4 → (l.is_number ≡ true → (l.ty ≡ 0) × (l.k ≡ 0))
    → (m.is_number ≡ true → (m.ty ≡ 0) × (m.k ≡ 0)) → (l.d ≡ 15 → l.s ≡ 1) → (m.d ≡ 15 → m.s ≡ 1) → k ≡ kind_of l → k ≡ kind_of m
    → kind_operands k l ≡ kind_operands k m → l ≡ m
same_letters (kind.Three name s) l m p q r t a b c d f g e = grind (arith, nat_tests)
same_letters k l m p q r t a b c d f g e = grind (arith, nat_tests, a, b, c, d)

same_read : (l m : Letters) → Said l → Said m → kind_mnemonic (kind_of l) ≡ kind_mnemonic (kind_of m)
    → kind_operands (kind_of l) l ≡ kind_operands (kind_of m) m
    → l ≡ m
same_read l m p q em eo =
    let is = some_is (kind_of l) (kind_of m) (sym p.told ∙ ap kind_in em ∙ q.told) in
    same_letters (kind_of l) l m p.amount q.amount p.type q.type p.plain q.plain p.test q.test refl is (eo ∙ ap (λ (k : DataKind). kind_operands k m) (sym is))

same_t1 : (i j : T1) → letters_t1 i ≡ letters_t1 j → code_t1 i ≡ code_t1 j
same_t1 i j e =
    let field = sym (field_back i _ (ap (λ (l : Letters). l.last) e)) ∙ field_back j _ refl in
    let a = i.i3.in_range in
    let b = i.i8.in_range in
    let c = j.i3.in_range in
    let d = j.i8.in_range in
    grind (arith, field, a, b, c, d)

same_t2 : (i j : T2) → letters_t2 i ≡ letters_t2 j → code_t2 i ≡ code_t2 j
same_t2 i j e = let a = i.i2.in_range in let b = j.i2.in_range in grind (arith, a, b)

same_t8 : (i j : T8) → wide_shift_mnemonic i.name i.s.value ≡ wide_shift_mnemonic j.name j.s.value
    → given i.d.value i.n.value i.m.value 0 0 ≡ given j.d.value j.n.value j.m.value 0 0 → code_t8 i ≡ code_t8 j
same_t8 i j em eo = let is = some_is (shift_kind i) (shift_kind j) (sym (told_t8 i) ∙ ap kind_in em ∙ told_t8 j) in grind (arith, is)

-- T8 has no number
no_shift : (l : Letters) → Said l → (i : T8) → kind_mnemonic (kind_of l) ≡ wide_shift_mnemonic i.name i.s.value
    → kind_operands (kind_of l) l ≡ given i.d.value i.n.value i.m.value 0 0 → ⊥
no_shift l p i em eo =
    let is = some_is (kind_of l) (shift_kind i) (sym p.told ∙ ap kind_in em ∙ told_t8 i) in
    false≢true (sym (ap (λ (k : DataKind). (kind_operands k l).third_is_number) (sym is) ∙ ap (λ (o : Operands). o.third_is_number) eo))

abbrev pub is_data_row : WideRow → Bool
is_data_row (wide.T1 i) = true
is_data_row (wide.T2 i) = true
is_data_row (wide.T8 i) = true
is_data_row r = false

pub same_data : (r s : WideRow) (t u : Tok) → is_data_row r ≡ true → is_data_row s ≡ true → mnemonic_of r ≡ mnemonic_of s → operands_of r t ≡ operands_of s u
    → wide_code r ≡ wide_code s
same_data (wide.T1 i) (wide.T1 j) t u e f em eo = same_t1 i j (same_read _ _ (said_t1 i) (said_t1 j) em eo)
same_data (wide.T2 i) (wide.T2 j) t u e f em eo = same_t2 i j (same_read _ _ (said_t2 i) (said_t2 j) em eo)
same_data (wide.T8 i) (wide.T8 j) t u e f em eo = same_t8 i j em eo
same_data (wide.T1 i) (wide.T2 j) t u e f em eo = absurd (let is = same_read (letters_t1 i) (letters_t2 j) (said_t1 i) (said_t2 j) em eo in grind (arith, is))
same_data (wide.T2 i) (wide.T1 j) t u e f em eo = absurd (let is = same_read (letters_t2 i) (letters_t1 j) (said_t2 i) (said_t1 j) em eo in grind (arith, is))
same_data (wide.T1 i) (wide.T8 j) t u e f em eo = absurd (no_shift (letters_t1 i) (said_t1 i) j em eo)
same_data (wide.T2 i) (wide.T8 j) t u e f em eo = absurd (no_shift (letters_t2 i) (said_t2 i) j em eo)
same_data (wide.T8 i) (wide.T1 j) t u e f em eo = absurd (no_shift (letters_t1 j) (said_t1 j) i (sym em) (sym eo))
same_data (wide.T8 i) (wide.T2 j) t u e f em eo = absurd (no_shift (letters_t2 j) (said_t2 j) i (sym em) (sym eo))
same_data r s t u e f em eo = absurd cc

-- T1, T2 and T8: whether a mnemonic is that of AND to RSB, TST to CMP, MOV and MVN, RRX, or LSL to ROR
abbrev pub has_data_mnemonic : List ℕ → Bool
has_data_mnemonic s = is_some (kind_in s)

-- no other row has a mnemonic of theirs
pub data_row : (r : WideRow) → has_data_mnemonic (mnemonic_of r) ≡ is_data_row r
data_row (wide.T1 i) = ap is_some (said_t1 i).told
data_row (wide.T2 i) = ap is_some (said_t2 i).told
data_row (wide.T8 i) = ap is_some (told_t8 i)
data_row (wide.T16 (t16.Conditional i)) = agree_below_at (λ c. has_data_mnemonic (branch_mnemonic c)) (λ c. false) 14 i.c.value refl i.c.in_range
data_row r = grind arith
