-- Reading: a row that has the tokens is the row of the code that they are given, and all rows with them are one.
use Rattle.std.proofs.Common.{◌≡◌, ℕ, ◌^◌, ◌<◌, List, [], ◌∷◌, Option, Some, None, refl, sym, subst, ap, inl, inr, ◌∙◌, arith}
use Rattle.hm_codes.proofs.Unique.{unique_code}
use Rattle.hm_enc32.proofs.Rows.{word_halves}
use Rattle.hm_isa.specs.declared.Instr.{Instr}
use Rattle.hm_isa.specs.declared.widths.ByWidth.{ByWidth}
use Rattle.hm_isa.specs.declared.widths.ByWidth.TheVariants as by
use Rattle.hm_isa.specs.declared.widths.NarrowRow.{NarrowRow}
use Rattle.hm_isa.specs.declared.widths.WideRow.{WideRow}
use Rattle.hm_isa.specs.Code.{halfwords, narrow_code, wide_code}
use Rattle.hm_isa.specs.Widths.{by_width}
use Rattle.hm_layout.specs.Wide.{HasWord, IsWordOf}
use Rattle.hm_text_base.proofs.Steps.{some_is}
use Rattle.hm_tokens.specs.Tokens.{Tok}
use Rattle.hm_text_rows.specs.Labels.{IsLabel, Reaches}
use Rattle.hm_text_rows.specs.Operands.{first_word}
use Rattle.hm_text16_codes.specs.Asked as narrow_asked
use Rattle.hm_text16_codes.specs.Operands as narrow_operands
use Rattle.hm_text16_codes.proofs.Rows as narrow_laws
use Rattle.hm_text16_codes.proofs.Unique as narrow_unique
use Rattle.hm_text16_rows.specs.Rows as narrow_rows
use Rattle.hm_text32_codes.specs.Asked as wide_asked
use Rattle.hm_text32_codes.specs.Operands as wide_operands
use Rattle.hm_text32_codes.proofs.Forms.{mnemonic_in}
use Rattle.hm_text32_codes.proofs.Rows as wide_laws
use Rattle.hm_text32_codes.proofs.Unique as wide_unique
use Rattle.hm_text32_rows.specs.Rows as wide_rows
use Rattle.hm_text32_rows.specs.Targets as wide_targets
use Rattle.hm_text_tables.specs.Tables.{AreOfRow, IsRowOf, target_by}
use Rattle.hm_text_tables.proofs.Fits.{halves_narrow, narrow_below, wide_below}
use Rattle.hm_text_tables.proofs.WideNames.{no_narrow}
use Rattle.hm_text_tables.proofs.WideRows.{wide_named}

abbrev given : {A : Type 0} → A → Option A
given x = Some x

abbrev none_of : Option Instr
none_of = None

pub nothing_is : (j : Instr) → none_of ≡ given j → ⊥
nothing_is j e = cc

-- A ROW by its table
module _ (ts : List Tok) (pc a : ℕ) (i : Instr) (w : ByWidth) (by_table : by_width i ≡ w) (is : IsRowOf ts pc a i) where
  row_tokens : AreOfRow w is.label ts
  row_tokens = subst (λ (v : ByWidth). AreOfRow v is.label ts) by_table is.has.tokens

  row_reaches : Reaches (target_by w pc) a
  row_reaches = subst (λ (v : ByWidth). Reaches (target_by v pc) a) by_table is.reaches

-- ROWS OF ONE HALFWORD
-- the code that their tokens are given
narrow_given : (ts : List Tok) (pc a : ℕ) (code : Option ℕ) → narrow_asked.IsCodeIn ts pc a code → (i : Instr) (r : NarrowRow) → by_width i ≡ by.Narrow r
    → IsRowOf ts pc a i → code ≡ Some (narrow_code r)
narrow_given ts pc a code asked i r e is =
    asked r is.label is.has.label (row_reaches ts pc a i (by.Narrow r) e is) (sym (row_tokens ts pc a i (by.Narrow r) e is))

narrow_is : (ts : List Tok) (pc a w : ℕ) → narrow_asked.IsCodeIn ts pc a (Some w) → (i : Instr) (r : NarrowRow) → by_width i ≡ by.Narrow r → IsRowOf ts pc a i
    → narrow_code r ≡ w
narrow_is ts pc a w given i r e is = some_is (narrow_code r) w (sym (narrow_given ts pc a (Some w) given i r e is))

-- a row of one halfword has the tokens
abbrev pub NarrowAt : List Tok → ℕ → ℕ → Instr → Type 0
NarrowAt ts pc a i = (r : NarrowRow) × (by_width i ≡ by.Narrow r) × IsRowOf ts pc a i

pub narrow_halves : (ts : List Tok) (pc a w : ℕ) → narrow_asked.IsCodeIn ts pc a (Some w) → (i : Instr) → NarrowAt ts pc a i → halfwords i ≡ w ∷ []
narrow_halves ts pc a w given i (r, e, is) = halves_narrow i r e ∙ ap (λ (c : ℕ). c ∷ []) (narrow_is ts pc a w given i r e is)

pub narrow_none : (ts : List Tok) (pc a : ℕ) → narrow_asked.IsCodeIn ts pc a None → (i : Instr) → NarrowAt ts pc a i → ⊥
narrow_none ts pc a given i (r, e, is) = let f = narrow_given ts pc a None given i r e is in cc

pub narrow_large : (ts : List Tok) (pc a w : ℕ) → narrow_asked.IsCodeIn ts pc a (Some w) → 0xffff < w → (i : Instr) → NarrowAt ts pc a i → ⊥
narrow_large ts pc a w given lt i (r, e, is) =
    let small = subst (λ (c : ℕ). c < 65536) (narrow_is ts pc a w given i r e is) (narrow_below i r e) in
    omega (arith, small)

-- ROWS OF TWO HALFWORDS, no vector rows
-- what is given for tokens: the code of the row whose text they are, printed or other
pub record IsGivenIn (ts : List Tok) (pc a : ℕ) (code : Option ℕ) : Type 0 where
  pub printed : wide_asked.IsCodeIn ts pc a code
  pub other : wide_asked.IsOtherCodeIn ts code

wide_by : (ts : List Tok) (pc a : ℕ) (code : Option ℕ) → IsGivenIn ts pc a code → (r : WideRow) (t : Tok) → IsLabel t → Reaches (wide_targets.target r pc) a
    → AreOfRow (by.Wide r) t ts → code ≡ Some (wide_code r)
wide_by ts pc a code given r t label reaches (inl is) = given.printed r t label reaches (sym is)
wide_by ts pc a code given r t label reaches (inr is) = given.other r is

wide_given : (ts : List Tok) (pc a : ℕ) (code : Option ℕ) → IsGivenIn ts pc a code → (i : Instr) (r : WideRow) → by_width i ≡ by.Wide r → IsRowOf ts pc a i
    → code ≡ Some (wide_code r)
wide_given ts pc a code given i r e is =
    wide_by ts pc a code given r is.label is.has.label (row_reaches ts pc a i (by.Wide r) e is) (row_tokens ts pc a i (by.Wide r) e is)

wide_is : (ts : List Tok) (pc a w : ℕ) → IsGivenIn ts pc a (Some w) → (i : Instr) (r : WideRow) → by_width i ≡ by.Wide r → IsRowOf ts pc a i → wide_code r ≡ w
wide_is ts pc a w given i r e is = some_is (wide_code r) w (sym (wide_given ts pc a (Some w) given i r e is))

-- a row of two has the tokens
abbrev pub WideAt : List Tok → ℕ → ℕ → Instr → Type 0
WideAt ts pc a i = (r : WideRow) × (by_width i ≡ by.Wide r) × IsRowOf ts pc a i

has_word : (i : Instr) (r : WideRow) (w : ℕ) → by_width i ≡ by.Wide r → wide_code r ≡ w → HasWord i w
has_word i r w e is = subst (λ (v : ByWidth). IsWordOf v w) (sym e) is

pub wide_word : (ts : List Tok) (pc a w : ℕ) → IsGivenIn ts pc a (Some w) → (i : Instr) → WideAt ts pc a i → HasWord i w
wide_word ts pc a w given i (r, e, is) = has_word i r w e (wide_is ts pc a w given i r e is)

pub wide_none : (ts : List Tok) (pc a : ℕ) → IsGivenIn ts pc a None → (i : Instr) → WideAt ts pc a i → ⊥
wide_none ts pc a given i (r, e, is) = let f = wide_given ts pc a None given i r e is in cc

pub wide_large : (ts : List Tok) (pc a w : ℕ) → IsGivenIn ts pc a (Some w) → 0xffff_ffff < w → (i : Instr) → WideAt ts pc a i → ⊥
wide_large ts pc a w given lt i (r, e, is) =
    let below = subst (λ (x : ℕ). x < 2 ^ 32) (wide_is ts pc a w given i r e is) (wide_below i r e) in
    omega (arith, below, lt)

-- ONE ROW HAS THEM
one_narrow : (ts : List Tok) (pc a : ℕ) (i j : Instr) (r s : NarrowRow) → by_width i ≡ by.Narrow r → by_width j ≡ by.Narrow s → pc < 2 ^ 32 → IsRowOf ts pc a i
    → IsRowOf ts pc a j → i ≡ j
one_narrow ts pc a i j r s e f hp is also =
    let mine = row_tokens ts pc a i (by.Narrow r) e is in
    let other = row_tokens ts pc a j (by.Narrow s) f also in
    let same : narrow_rows.tokens_of r is.label ≡ narrow_rows.tokens_of s also.label = mine ∙ sym other in
    let operands =
    sym ((narrow_laws.row_law r).gives is.label is.has.label) ∙ ap narrow_operands.read_narrow_operands same
    ∙ (narrow_laws.row_law s).gives also.label also.has.label in
    let code =
    narrow_unique.same_code r s is.label also.label pc a (ap first_word same) operands hp (row_reaches ts pc a i (by.Narrow r) e is)
    (row_reaches ts pc a j (by.Narrow s) f also) in
    unique_code i j (halves_narrow i r e ∙ ap (λ (c : ℕ). c ∷ []) code ∙ sym (halves_narrow j s f))

-- the printed text of one row, and the other text of another
printed_and_other : (r s : WideRow) (t : Tok) (ts : List Tok) → IsLabel t → wide_rows.tokens_of r t ≡ ts → wide_rows.other_tokens s ≡ Some ts → ⊥
printed_and_other r s t ts label is other =
    let o = wide_laws.other_law s ts other in
    let law = wide_laws.row_law r in
    wide_unique.bare_alone o.barrier r t
    (o.option, sym (law.mnemonic t) ∙ ap mnemonic_in is ∙ o.mnemonic, sym (law.gives t label) ∙ ap wide_operands.operands_in is ∙ o.gives)

-- other texts both
both_other : (r s : WideRow) (ts : List Tok) → wide_laws.Other r ts → wide_laws.Other s ts → wide_code r ≡ wide_code s
both_other r s ts o p =
    ap wide_code o.is ∙ wide_unique.bare_same o.barrier p.barrier o.option p.option (sym o.mnemonic ∙ p.mnemonic) ∙ ap wide_code (sym p.is)

one_wide_code : (ts : List Tok) (pc a : ℕ) (r s : WideRow) (t u : Tok) → pc < 2 ^ 32 → IsLabel t → IsLabel u → Reaches (wide_targets.target r pc) a
    → Reaches (wide_targets.target s pc) a → AreOfRow (by.Wide r) t ts → AreOfRow (by.Wide s) u ts → wide_code r ≡ wide_code s
one_wide_code ts pc a r s t u hp lt lu p q (inl is) (inl also) =
    let same : wide_rows.tokens_of r t ≡ wide_rows.tokens_of s u = is ∙ sym also in
    let mnemonics = sym ((wide_laws.row_law r).mnemonic t) ∙ ap mnemonic_in same ∙ (wide_laws.row_law s).mnemonic u in
    let operands = sym ((wide_laws.row_law r).gives t lt) ∙ ap wide_operands.operands_in same ∙ (wide_laws.row_law s).gives u lu in
    wide_unique.same_code r s t u pc a mnemonics operands hp p q
one_wide_code ts pc a r s t u hp lt lu p q (inl is) (inr also) = absurd (printed_and_other r s t ts lt is also)
one_wide_code ts pc a r s t u hp lt lu p q (inr is) (inl also) = absurd (printed_and_other s r u ts lu also is)
one_wide_code ts pc a r s t u hp lt lu p q (inr is) (inr also) = both_other r s ts (wide_laws.other_law r ts is) (wide_laws.other_law s ts also)

one_wide : (ts : List Tok) (pc a : ℕ) (i j : Instr) (r s : WideRow) → by_width i ≡ by.Wide r → by_width j ≡ by.Wide s → pc < 2 ^ 32 → IsRowOf ts pc a i
    → IsRowOf ts pc a j → i ≡ j
one_wide ts pc a i j r s e f hp is also =
    let code =
    one_wide_code ts pc a r s is.label also.label hp is.has.label also.has.label (row_reaches ts pc a i (by.Wide r) e is)
    (row_reaches ts pc a j (by.Wide s) f also) (row_tokens ts pc a i (by.Wide r) e is) (row_tokens ts pc a j (by.Wide s) f also) in
    unique_code i j (word_halves i (wide_code s) (has_word i r (wide_code s) e code) ∙ sym (word_halves j (wide_code s) (has_word j s (wide_code s) f refl)))

-- a row of one halfword and one of two have other mnemonics
not_both : (ts : List Tok) (pc a : ℕ) (i j : Instr) (r : NarrowRow) (s : WideRow) → by_width i ≡ by.Narrow r → by_width j ≡ by.Wide s → IsRowOf ts pc a i
    → IsRowOf ts pc a j → ⊥
not_both ts pc a i j r s e f is also =
    no_narrow r is.label ts (row_tokens ts pc a i (by.Narrow r) e is) (wide_named s also.label ts (row_tokens ts pc a j (by.Wide s) f also))

one_by : (ts : List Tok) (pc a : ℕ) (i j : Instr) (v w : ByWidth) → by_width i ≡ v → by_width j ≡ w → pc < 2 ^ 32 → IsRowOf ts pc a i
    → IsRowOf ts pc a j → i ≡ j
one_by ts pc a i j (by.Narrow r) (by.Narrow s) e f hp is also = one_narrow ts pc a i j r s e f hp is also
one_by ts pc a i j (by.Wide r) (by.Wide s) e f hp is also = one_wide ts pc a i j r s e f hp is also
one_by ts pc a i j (by.Narrow r) (by.Wide s) e f hp is also = absurd (not_both ts pc a i j r s e f is also)
one_by ts pc a i j (by.Wide r) (by.Narrow s) e f hp is also = absurd (not_both ts pc a j i s r f e also is)
one_by ts pc a i j (by.Vector x) w e f hp is also = absurd (row_tokens ts pc a i (by.Vector x) e is)
one_by ts pc a i j v (by.Vector x) e f hp is also = absurd (row_tokens ts pc a j (by.Vector x) f also)

pub one_row : (ts : List Tok) (pc a : ℕ) (i j : Instr) → pc < 2 ^ 32 → IsRowOf ts pc a i → IsRowOf ts pc a j → i ≡ j
one_row ts pc a i j hp is also = one_by ts pc a i j (by_width i) (by_width j) refl refl hp is also

-- what no row of one halfword has is that of a row of two
pub only_wide : (ts : List Tok) (pc a : ℕ) (o : Option Instr)
    → ((i : Instr) (r : NarrowRow) → by_width i ≡ by.Narrow r → IsRowOf ts pc a i → none_of ≡ Some i)
    → ((i : Instr) (r : WideRow) → by_width i ≡ by.Wide r → IsRowOf ts pc a i → o ≡ Some i) → (i : Instr) → IsRowOf ts pc a i → o ≡ Some i
only_wide ts pc a o none only i is = by_table (by_width i) refl
  where
    by_table : (w : ByWidth) → by_width i ≡ w → o ≡ Some i
    by_table (by.Narrow r) e = absurd (nothing_is i (none i r e is))
    by_table (by.Wide r) e = only i r e is
    by_table (by.Vector v) e = absurd (row_tokens ts pc a i (by.Vector v) e is)
