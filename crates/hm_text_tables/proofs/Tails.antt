-- Whether tokens are a row's, and the last of them.
use Rattle.std.proofs.Common.{◌≡◌, ◌≤◌, ℕ, Bool, true, false, List, [], ◌∷◌, ◌++◌, length, Option, Some, refl, sym, subst, ap, inl, inr, ◌∙◌, arith}
use Rattle.std.specs.Prelude.{◌↔◌, IsTrue}
use Rattle.std.proofs.lemmas.Bool.{false≢true}
use Rattle.hm_isa.specs.declared.Instr.{Instr}
use Rattle.hm_isa.specs.declared.widths.ByWidth.{ByWidth}
use Rattle.hm_isa.specs.declared.widths.ByWidth.TheVariants as by
use Rattle.hm_isa.specs.declared.widths.WideRow.{WideRow}
use Rattle.hm_isa.specs.declared.widths.WideRow.TheVariants as wide
use Rattle.hm_isa.specs.Widths.{by_width}
use Rattle.hm_tokens.specs.Tokens.{Tok, number}
use Rattle.hm_text_rows.specs.Labels.{IsLabel, printed_with}
use Rattle.hm_text_rows.proofs.Tails.{last_one}
use Rattle.hm_text16_rows.specs.Rows as narrow_rows
use Rattle.hm_text32_rows.specs.Rows as wide_rows
use Rattle.hm_text_tables.specs.Labels.{AreLabelled, Labelled, label_where, with_label}
use Rattle.hm_text_tables.specs.Tables.{AreOfRow, AreRowTokens, HasTokens, has_label, has_label_by, label_of}

-- ANY ROW
pub labelled_yes : (ts front row : List Tok) (last : Tok) (c : Bool) → ts ≡ front ++ last ∷ [] → IsLabel last → (IsTrue c ↔ (front ≡ row))
    → IsTrue c ↔ Labelled row ts
labelled_yes ts front row last c split label has = (
  λ true_. (last, label, ap (λ (x : List Tok). x ++ last ∷ []) (sym (has.0 true_)) ∙ sym split),
  λ h. has.1 (sym (last_one row front h.0 last (h.2 ∙ split)).0),
)

pub labelled_no : (ts front row : List Tok) (last : Tok) → ts ≡ front ++ last ∷ [] → (IsLabel last → ⊥) → IsTrue false ↔ Labelled row ts
labelled_no ts front row last split not = (
  λ true_. absurd (false≢true true_),
  λ h. absurd (not (subst (λ (x : Tok). IsLabel x) (last_one row front h.0 last (h.2 ∙ split)).1 h.1)),
)

pub plain_has : (b : Bool) (ts row : List Tok) (c : Bool) → b ≡ false → (IsTrue c ↔ (ts ≡ row)) → IsTrue c ↔ AreLabelled b row ts
plain_has b ts row c e has = rw e (
  λ true_. (number 0, omega arith, sym (has.0 true_)),
  λ h. has.1 (sym h.2),
)

-- the label of a row's tokens, where the table says whether it has one
pub label_given : (b h : Bool) (row ts : List Tok) (s : Option Tok) → b ≡ h → ((row : List Tok) (t : Tok) → with_label b row t ≡ ts → s ≡ label_where b t)
    → (t : Tok) → with_label h row t ≡ ts → s ≡ label_where h t
label_given b h row ts s e says t is = says row t ((λ j. with_label (e j) row t) ∙ is) ∙ (λ j. label_where (e j) t)

-- what is printed of a row's text is printed of its tokens
pub room_as : (row ts : List Tok) (o p : Option ℕ) → row ≡ ts → o ≡ p → length (printed_with ts p) ≤ 96 → length (printed_with row o) ≤ 96
room_as row ts o p is named room = rw (is, named) room

-- BY TABLES
-- a row with another text has no label
pub no_other : (r : WideRow) (ts : List Tok) → wide_rows.has_label r ≡ true → wide_rows.other_tokens r ≡ Some ts → ⊥
no_other (wide.T19 i) ts e other = absurd cc
no_other r ts e other = absurd cc

no_label : (r : WideRow) (ts : List Tok) → wide_rows.other_tokens r ≡ Some ts → wide_rows.has_label r ≡ false
no_label (wide.T19 i) ts other = refl
no_label r ts other = absurd cc

some_label : IsLabel (number 0)
some_label = omega arith

-- of tokens that are not the printed text
other_of : (r : WideRow) (ts front : List Tok) (b c o : Bool) (t : Tok) → b ≡ wide_rows.has_label r → front ≡ wide_rows.row_tokens r
    → (IsTrue c ↔ AreLabelled b front ts) → c ≡ false → (IsTrue o ↔ (wide_rows.other_tokens r ≡ Some ts)) → IsLabel t → AreOfRow (by.Wide r) t ts → IsTrue o
other_of r ts front b c o t label is has not other said (inl are) =
    absurd (false≢true (sym not ∙ has.1 (t, said, (λ j. with_label (label j) (is j) t) ∙ are)))
other_of r ts front b c o t label is has not other said (inr are) = other.1 are

pub printed_else : (r : WideRow) (ts front : List Tok) (b c o : Bool) → b ≡ wide_rows.has_label r → front ≡ wide_rows.row_tokens r
    → (IsTrue c ↔ AreLabelled b front ts) → c ≡ false → (IsTrue o ↔ (wide_rows.other_tokens r ≡ Some ts)) → IsTrue o ↔ AreRowTokens (by.Wide r) ts
printed_else r ts front b c o label is has not other = (
  λ true_. (number 0, some_label, inr (other.0 true_)),
  λ h. other_of r ts front b c o h.0 label is has not other h.1 h.2,
)

-- the label of a row's tokens
same_ones : (h : Bool) (ts : List Tok) (t : Tok) → h ≡ false → with_label h ts t ≡ ts
same_ones h ts t e = rw e refl

label_by : (w : ByWidth) (ts : List Tok) (b : Bool) (s : Option Tok) → b ≡ has_label_by w
    → ((front : List Tok) (t : Tok) → with_label b front t ≡ ts → s ≡ label_where b t)
    → (t : Tok) → AreOfRow w t ts → s ≡ label_where (has_label_by w) t
label_by (by.Narrow r) ts b s e says t is = label_given b (narrow_rows.has_label r) (narrow_rows.row_tokens r) ts s e says t is
label_by (by.Wide r) ts b s e says t (inl is) = label_given b (wide_rows.has_label r) (wide_rows.row_tokens r) ts s e says t is
label_by (by.Wide r) ts b s e says t (inr is) =
    label_given b (wide_rows.has_label r) ts ts s e says t (same_ones (wide_rows.has_label r) ts t (no_label r ts is))
label_by (by.Vector v) ts b s e says t is = absurd is

pub the_label : (i : Instr) (ts : List Tok) (b : Bool) (s : Option Tok) → b ≡ has_label i
    → ((front : List Tok) (t : Tok) → with_label b front t ≡ ts → s ≡ label_where b t)
    → (t : Tok) → HasTokens i t ts → s ≡ label_of i t
the_label i ts b s e says t has = label_by (by_width i) ts b s e says t has.tokens
