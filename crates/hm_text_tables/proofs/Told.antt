-- What is told of a text: one instruction, or one refusal.
use Rattle.std.proofs.Common.{◌≡◌, ℕ, Bool, true, false, cond, List, Option, Some, None, Result, Ok, Err, refl, sym, ap, subst, inl, inr, ◌∙◌, arith}
use Rattle.std.specs.Prelude.{◌↔◌, MatchOption}
use Rattle.hm_isa.specs.declared.Instr.{Instr}
use Rattle.hm_isa.specs.declared.Instr.TheVariants.{Scalar, Branch, Vector}
use Rattle.hm_line.specs.declared.errors.AsmKind.{AsmKind}
use Rattle.hm_line.specs.declared.errors.AsmKind.TheVariants as kinds
use Rattle.hm_line.specs.declared.errors.TextErr.{TextErr}
use Rattle.hm_line.specs.declared.form.Form.TheVariants as forms
use Rattle.hm_line.specs.Texts.{IsLast, IsOfForm, column}
use Rattle.hm_line.proofs.Fronts.{not_both, one_column}
use Rattle.hm_text_base.proofs.Steps.{some_is}
use Rattle.hm_tokens.specs.Tokens.{Tok, word, number, mark, skip}
use Rattle.hm_text_rows.specs.Labels.{IsLabel, Names, NamesTarget, Reaches}
use Rattle.hm_text_rows.proofs.Shown.{IsGiven}
use Rattle.hm_text_tables.specs.Named.{IsUnknown, IsUnknownGiven, NamesGiven}
use Rattle.hm_text_tables.specs.Refusals.{IsAtLabel, IsMissing, IsOutOfReach, IsShapeRefused, IsTextRefused}
use Rattle.hm_text_tables.specs.Tables.{HasText, IsRowAt, IsVectorText, has_label, label_of, target}
use Rattle.hm_text_tables.specs.Texts.{HasWidth, IsOnlyShape, IsRowText, IsShape, IsTextOf}
use Rattle.hm_text_tables.proofs.Formed.{last_there}
use Rattle.hm_text_tables.proofs.Rows.{given_target}

abbrev Labels : Type 0
Labels = List ℕ → Option ℕ

abbrev ok : {A : Type 0} → A → Result A TextErr
ok x = Ok x

abbrev refused : {A : Type 0} → TextErr → Result A TextErr
refused e = Err e

abbrev given : {A : Type 0} → A → Option A
given x = Some x

abbrev nothing : {A : Type 0} → Option A
nothing = None

-- LABELS
-- each row with the text has this label, or none
abbrev pub HasLabel : List ℕ → Option Tok → Type 0
HasLabel text l = (i : Instr) (t : Tok) → IsRowText text i t → l ≡ label_of i t

pub shape_label : (text : List ℕ) (w : ℕ) (l : Option Tok) → IsOnlyShape text w l → HasLabel text l
shape_label text w l only i t row = (only i t row).1

given_label : (b : Bool) (t u : Tok) → cond b (Some t) None ≡ given u → (b ≡ true) × (t ≡ u)
given_label true t u e = (refl, some_is t u e)
given_label false t u e = absurd cc

with_label : (i : Instr) (t : Tok) → has_label i ≡ true → label_of i t ≡ Some t
with_label i t e = rw e refl

without_label : (i : Instr) (t : Tok) → label_of i t ≡ None → has_label i ≡ false
without_label i t e = none_is (has_label i) e
  where
    none_is : (b : Bool) → cond b (given t) None ≡ nothing → b ≡ false
    none_is true f = absurd cc
    none_is false f = refl

vector_label : (text : List ℕ) (i : Instr) → IsVectorText text i → has_label i ≡ true → ⊥
vector_label text (Scalar i) is e = is
vector_label text (Branch i) is e = is
vector_label text (Vector v) is e = absurd cc

is_label : (text : List ℕ) (i : Instr) (t : Tok) → HasText i t text → has_label i ≡ true → IsLabel t
is_label text i t (inl n) e = n.has.label
is_label text i t (inr v) e = absurd (vector_label text i v e)

reach_without : (b : Bool) (o : Option ℕ) (a : ℕ) → IsGiven b o → b ≡ false → Reaches o a
reach_without b None a g e = tt
reach_without true (Some t) a g e = absurd cc
reach_without false (Some t) a g e = absurd g

-- what is reached is named
named_target : (labels : Labels) (l : Option Tok) (t : Tok) (b : Bool) (o : Option ℕ) (a : ℕ) → IsGiven b o → l ≡ cond b (Some t) None → NamesGiven labels l a
    → Reaches o a → NamesTarget labels t o
named_target labels l t b None a g e names re = tt
named_target labels l t true (Some x) a g e names re = subst (λ (y : ℕ). Names labels t y) (sym re) (subst (λ (m : Option Tok). NamesGiven labels m a) e names)
named_target labels l t false (Some x) a g e names re = absurd g

-- a label names one address
one_name : (labels : Labels) (t : Tok) (a b : ℕ) → Names labels t a → Names labels t b → a ≡ b
one_name labels (word w) a b p q = some_is a b (sym p ∙ q)
one_name labels (number n) a b p q = sym p ∙ q
one_name labels (mark c) a b p q = absurd p

-- and what is named is reached
target_reached : (labels : Labels) (l : Option Tok) (t : Tok) (b : Bool) (o : Option ℕ) (a : ℕ) → IsGiven b o → l ≡ cond b (Some t) None → NamesGiven labels l a
    → NamesTarget labels t o → Reaches o a
target_reached labels l t b None a g e given names = tt
target_reached labels l t true (Some x) a g e given names = one_name labels t x a names (subst (λ (m : Option Tok). NamesGiven labels m a) e given)
target_reached labels l t false (Some x) a g e given names = absurd g

-- what is unknown has no name
unknown_named : (labels : Labels) (t : Tok) (a : ℕ) → IsLabel t → IsUnknown labels t → Names labels t a → ⊥
unknown_named labels (word w) a is none names = let e = sym none ∙ names in cc
unknown_named labels (number n) a is none names = omega (arith, is, none)
unknown_named labels (mark c) a is none names = is

-- REFUSALS
same_error : (d e : TextErr) → d.kind ≡ e.kind → d.column ≡ e.column → d ≡ e
same_error d e p q = λ j. record { column = q j; kind = p j }

pub at_label : (text : List ℕ) (c : ℕ) → IsOfForm forms.Instruction text → ((here : List ℕ) → IsLast text here → c ≡ column text (skip here)) → IsAtLabel text c
at_label text c form is = let last = last_there text form in (last.0, last.1, is last.0 last.1)

-- one of a kind
abbrev pub IsOne : (ℕ → Type 0) → ℕ → Type 0
IsOne P c = (d : ℕ) → P d → c ≡ d

pub one_at_label : (text : List ℕ) (c : ℕ) → ((here : List ℕ) → IsLast text here → c ≡ column text (skip here)) → IsOne (IsAtLabel text) c
one_at_label text c is d at = is at.0 at.1 ∙ sym at.2

-- SHAPES
row_not_refused : (text : List ℕ) (i : Instr) (t : Tok) (k : AsmKind) (c : ℕ) → IsRowText text i t → IsShapeRefused k text c → ⊥
row_not_refused text i t kinds.Syntax c row r = not_both forms.Instruction text c row.form r
row_not_refused text i t kinds.Row c row r = r.none i t row
row_not_refused text i t k c row r = r

one_shape_refusal : (text : List ℕ) (k j : AsmKind) (c d : ℕ) → IsShapeRefused k text c → IsShapeRefused j text d → (k ≡ j) × (c ≡ d)
one_shape_refusal text kinds.Syntax kinds.Syntax c d r s = (refl, one_column forms.Instruction text c d r s)
one_shape_refusal text kinds.Syntax kinds.Row c d r s = absurd (not_both forms.Instruction text c s.form r)
one_shape_refusal text kinds.Row kinds.Syntax c d r s = absurd (not_both forms.Instruction text d r.form s)
one_shape_refusal text kinds.Row kinds.Row c d r s = (refl, r.column ∙ sym s.column)
one_shape_refusal text kinds.Syntax j c d r s = absurd s
one_shape_refusal text kinds.Row j c d r s = absurd s
one_shape_refusal text k j c d r s = absurd r

ok_value : (w n : ℕ) → ok w ≡ ok n → w ≡ n
ok_value w n e = cc

pub widths_of : (text : List ℕ) (w : ℕ) (l : Option Tok) → IsShape text w l → IsOnlyShape text w l → (n : ℕ) → HasWidth text n ↔ (ok w ≡ ok n)
widths_of text w l is only n = (
  (λ h. ap (λ (x : ℕ). ok x) ((only h.instr h.label h.row).0 ∙ sym h.bytes)),
  (λ e. record { instr = is.0; label = is.1; row = is.2; bytes = sym (ok_value w n e) ∙ is.3 }),
)

pub no_shape_refusal : (text : List ℕ) (w : ℕ) (l : Option Tok) → IsShape text w l → (e : TextErr) → IsShapeRefused e.kind text e.column ↔ (ok w ≡ refused e)
no_shape_refusal text w l is e = ((λ r. absurd (row_not_refused text is.0 is.1 e.kind e.column is.2 r)), (λ f. absurd cc))

pub no_widths : (text : List ℕ) (d : TextErr) → IsShapeRefused d.kind text d.column → (n : ℕ) → HasWidth text n ↔ (refused d ≡ ok n)
no_widths text d r n = ((λ h. absurd (row_not_refused text h.instr h.label d.kind d.column h.row r)), (λ f. absurd cc))

moved_error : (P : AsmKind → ℕ → Type 0) (d e : TextErr) → d ≡ e → P d.kind d.column → P e.kind e.column
moved_error P d e same p = subst (λ (x : TextErr). P x.kind x.column) same p

error_is : {A : Type 0} (d e : TextErr) → refused {A = A} d ≡ refused e → d ≡ e
error_is d e f = cc

pub shape_refusals : (text : List ℕ) (d : TextErr) → IsShapeRefused d.kind text d.column → (e : TextErr)
    → IsShapeRefused e.kind text e.column ↔ (refused {A = ℕ} d ≡ refused e)
shape_refusals text d r e = (
  (λ s. let one = one_shape_refusal text d.kind e.kind d.column e.column r s in ap (λ (x : TextErr). refused x) (same_error d e one.0 one.1)),
  (λ f. moved_error (λ k c. IsShapeRefused k text c) d e (error_is {A = ℕ} d e f) r),
)

-- INSTRUCTIONS
shape_refusal_told : (text : List ℕ) (pc : ℕ) (labels : Labels) (k : AsmKind) (c : ℕ) → IsShapeRefused k text c → IsTextRefused k text pc labels c
shape_refusal_told text pc labels kinds.Syntax c r = r
shape_refusal_told text pc labels kinds.Row c r = r
shape_refusal_told text pc labels k c r = absurd r

-- a refusal of the shape is the only one
pub shape_first : (text : List ℕ) (pc : ℕ) (labels : Labels) (k j : AsmKind) (c d : ℕ) → IsShapeRefused k text c → IsTextRefused j text pc labels d
    → (k ≡ j) × (c ≡ d)
shape_first text pc labels k kinds.Syntax c d r s = one_shape_refusal text k kinds.Syntax c d r s
shape_first text pc labels k kinds.Row c d r s = one_shape_refusal text k kinds.Row c d r s
shape_first text pc labels k kinds.Missing c d r s = absurd (row_not_refused text s.instr (word s.name) k c s.row r)
shape_first text pc labels k kinds.Offset c d r s = absurd (row_not_refused text s.instr s.label k c s.row r)
shape_first text pc labels k j c d r s = absurd s

pub shape_reads : (text : List ℕ) (pc : ℕ) (labels : Labels) (d : TextErr) → IsShapeRefused d.kind text d.column → (i : Instr)
    → IsTextOf text pc labels i ↔ (refused d ≡ ok i)
shape_reads text pc labels d r i = ((λ is. absurd (row_not_refused text i is.label d.kind d.column is.row r)), (λ f. absurd cc))

pub shape_tells : (text : List ℕ) (pc : ℕ) (labels : Labels) (d : TextErr) → IsShapeRefused d.kind text d.column → (e : TextErr)
    → IsTextRefused e.kind text pc labels e.column ↔ (refused {A = Instr} d ≡ refused e)
shape_tells text pc labels d r e = (
  (λ s. let one = shape_first text pc labels d.kind e.kind d.column e.column r s in ap (λ (x : TextErr). refused x) (same_error d e one.0 one.1)),
  (λ f. moved_error (λ k c. IsTextRefused k text pc labels c) d e (error_is {A = Instr} d e f) (shape_refusal_told text pc labels d.kind d.column r)),
)

-- a name that is not defined
unknown_label : (labels : Labels) (l : Option Tok) → IsUnknownGiven labels l → (t : Tok) × (l ≡ Some t) × IsUnknown labels t
unknown_label labels (Some t) is = (t, refl, is)
unknown_label labels None is = absurd is

missing_name : (text : List ℕ) (labels : Labels) (c : ℕ) (i : Instr) (t : Tok) → IsRowText text i t → label_of i t ≡ Some t → IsLabel t → IsUnknown labels t
    → IsAtLabel text c → IsMissing text labels c
missing_name text labels c i (word w) row is label none at = record { instr = i; name = w; row = row; labelled = is; unknown = none; column = at }
missing_name text labels c i (number n) row is label none at = absurd (omega (arith, label, none))
missing_name text labels c i (mark m) row is label none at = absurd label

pub is_missing : (text : List ℕ) (labels : Labels) (w : ℕ) (l : Option Tok) (c : ℕ) → IsShape text w l → IsUnknownGiven labels l
    → ((here : List ℕ) → IsLast text here → c ≡ column text (skip here)) → IsMissing text labels c
is_missing text labels w l c is none at =
    let u = unknown_label labels l none in
    let g = given_label (has_label is.0) is.1 u.0 (sym is.4 ∙ u.1) in
    missing_name text labels c is.0 is.1 is.2 (with_label is.0 is.1 g.0) (is_label text is.0 is.1 is.2.has g.0)
    (subst (λ (t : Tok). IsUnknown labels t) (sym g.1) u.2)
    (at_label text c is.2.form at)

-- where there is an unknown label no instruction is named
no_text : (text : List ℕ) (pc : ℕ) (labels : Labels) (t : Tok) (i : Instr) → HasLabel text (Some t) → IsUnknown labels t → IsTextOf text pc labels i → ⊥
no_text text pc labels t i label none is =
    let g = given_label (has_label i) is.label t (sym (label i is.label is.row)) in
    no_name (has_label i) (target i pc) g.0 (given_target i pc) (is_label text i is.label is.row.has g.0)
    (subst (λ (u : Tok). IsUnknown labels u) (sym g.1) none) is.names
  where
    no_name : (b : Bool) (o : Option ℕ) → b ≡ true → IsGiven b o → IsLabel is.label → IsUnknown labels is.label → NamesTarget labels is.label o → ⊥
    no_name true (Some a) e g l u names = unknown_named labels is.label a l u names
    no_name true None e g l u names = g
    no_name false o e g l u names = absurd cc

-- what is refused where the label is unknown
pub missing_only : (text : List ℕ) (pc : ℕ) (labels : Labels) (t : Tok) (c d : ℕ) (j : AsmKind) → HasLabel text (Some t) → IsMissing text labels c
    → IsUnknown labels t → IsOne (IsAtLabel text) c → IsTextRefused j text pc labels d
    → (kinds.Missing ≡ j) × (c ≡ d)
missing_only text pc labels t c d kinds.Syntax label m none one s = absurd (not_both forms.Instruction text d m.row.form s)
missing_only text pc labels t c d kinds.Row label m none one s = absurd (s.none m.instr (word m.name) m.row)
missing_only text pc labels t c d kinds.Missing label m none one s = (refl, one d s.column)
missing_only text pc labels t c d kinds.Offset label m none one s =
    let same : t ≡ s.label = some_is t s.label (label s.instr s.label s.row ∙ s.labelled) in
    let g = given_label (has_label s.instr) s.label s.label s.labelled in
    absurd (unknown_named labels s.label s.address (is_label text s.instr s.label s.row.has g.0) (subst (λ (u : Tok). IsUnknown labels u) same none) s.names)
missing_only text pc labels t c d j label m none one s = absurd s

-- AN ADDRESS
-- a row at the address is what the text names
pub row_is_named : (text : List ℕ) (pc a : ℕ) (labels : Labels) (l : Option Tok) (i : Instr) → IsOfForm forms.Instruction text → HasLabel text l
    → NamesGiven labels l a → IsRowAt text pc a i → IsTextOf text pc labels i
row_is_named text pc a labels l i form label names is =
    let row : IsRowText text i is.label = record { form = form; has = is.has } in
    record {
      label = is.label;
      row = row;
      names = named_target labels l is.label (has_label i) (target i pc) a (given_target i pc) (label i is.label row) names is.reaches;
    }

-- and the other way round
pub named_is_row : (text : List ℕ) (pc a : ℕ) (labels : Labels) (l : Option Tok) (i : Instr) → HasLabel text l → NamesGiven labels l a
    → IsTextOf text pc labels i → IsRowAt text pc a i
named_is_row text pc a labels l i label names is = record {
  label = is.label;
  has = is.row.has;
  reaches = target_reached labels l is.label (has_label i) (target i pc) a (given_target i pc) (label i is.label is.row) names is.names;
}

-- a text that names an instruction is not refused
pub named_not_refused : (text : List ℕ) (pc a : ℕ) (labels : Labels) (l : Option Tok) (i : Instr) (k : AsmKind) (c : ℕ) → HasLabel text l
    → NamesGiven labels l a → IsTextOf text pc labels i → IsTextRefused k text pc labels c → ⊥
named_not_refused text pc a labels l i kinds.Syntax c label names is r = not_both forms.Instruction text c is.row.form r
named_not_refused text pc a labels l i kinds.Row c label names is r = r.none i is.label is.row
named_not_refused text pc a labels l i kinds.Missing c label names is r =
    let e : l ≡ Some (word r.name) = label r.instr (word r.name) r.row ∙ r.labelled in
    let known : Names labels (word r.name) a = subst (λ (m : Option Tok). NamesGiven labels m a) e names in
    let f = sym r.unknown ∙ known in
    absurd cc
named_not_refused text pc a labels l i kinds.Offset c label names is r = r.none i is
named_not_refused text pc a labels l i k c label names is r = r

instr_is : (i j : Instr) → ok i ≡ ok j → i ≡ j
instr_is i j e = cc

pub row_reads : (text : List ℕ) (pc a : ℕ) (labels : Labels) (l : Option Tok) (i : Instr) → HasLabel text l → NamesGiven labels l a → IsTextOf text pc labels i
    → ((j : Instr) → IsRowAt text pc a j → given i ≡ given j)
    → (j : Instr) → IsTextOf text pc labels j ↔ (ok i ≡ ok j)
row_reads text pc a labels l i label names is only j = (
  (λ h. ap (λ (x : Instr). ok x) (some_is i j (only j (named_is_row text pc a labels l j label names h)))),
  (λ e. subst (λ (x : Instr). IsTextOf text pc labels x) (instr_is i j e) is),
)

pub row_tells : (text : List ℕ) (pc a : ℕ) (labels : Labels) (l : Option Tok) (i : Instr) → HasLabel text l → NamesGiven labels l a → IsTextOf text pc labels i
    → (e : TextErr) → IsTextRefused e.kind text pc labels e.column ↔ (ok i ≡ refused e)
row_tells text pc a labels l i label names is e = ((λ r. absurd (named_not_refused text pc a labels l i e.kind e.column label names is r)), (λ f. absurd cc))

-- no row at the address
pub is_out_of_reach : (text : List ℕ) (pc a : ℕ) (labels : Labels) (w : ℕ) (l : Option Tok) (c : ℕ) → IsShape text w l → HasLabel text l → NamesGiven labels l a
    → ((i : Instr) → IsRowAt text pc a i → ⊥)
    → ((here : List ℕ) → IsLast text here → c ≡ column text (skip here)) → IsOutOfReach text pc labels c
is_out_of_reach text pc a labels w (Some t) c is label names none at =
    let g = given_label (has_label is.0) is.1 t (sym is.4) in
    record {
      instr = is.0;
      label = is.1;
      row = is.2;
      labelled = with_label is.0 is.1 g.0;
      address = a;
      names = subst (λ (u : Tok). Names labels u a) (sym g.1) names;
      none = λ i h. none i (named_is_row text pc a labels (Some t) i label names h);
      column = at_label text c is.2.form at;
    }
is_out_of_reach text pc a labels w None c is label names none at =
    absurd (none is.0 (record {
      label = is.1;
      has = is.2.has;
      reaches = reach_without (has_label is.0) (target is.0 pc) a (given_target is.0 pc) (without_label is.0 is.1 (sym is.4));
    }))

pub out_only : (text : List ℕ) (pc a : ℕ) (labels : Labels) (l : Option Tok) (c d : ℕ) (j : AsmKind) → HasLabel text l → NamesGiven labels l a
    → IsOutOfReach text pc labels c → IsOne (IsAtLabel text) c → IsTextRefused j text pc labels d
    → (kinds.Offset ≡ j) × (c ≡ d)
out_only text pc a labels l c d kinds.Syntax label names o one s = absurd (not_both forms.Instruction text d o.row.form s)
out_only text pc a labels l c d kinds.Row label names o one s = absurd (s.none o.instr o.label o.row)
out_only text pc a labels l c d kinds.Missing label names o one s =
    let e : l ≡ Some (word s.name) = label s.instr (word s.name) s.row ∙ s.labelled in
    let known : Names labels (word s.name) a = subst (λ (m : Option Tok). NamesGiven labels m a) e names in
    let f = sym s.unknown ∙ known in
    absurd cc
out_only text pc a labels l c d kinds.Offset label names o one s = (refl, one d s.column)
out_only text pc a labels l c d j label names o one s = absurd s

pub out_reads : (text : List ℕ) (pc : ℕ) (labels : Labels) (d : TextErr) (c : ℕ) → IsOutOfReach text pc labels c → (i : Instr)
    → IsTextOf text pc labels i ↔ (refused d ≡ ok i)
out_reads text pc labels d c o i = ((λ is. absurd (o.none i is)), (λ f. absurd cc))

pub out_tells : (text : List ℕ) (pc a : ℕ) (labels : Labels) (l : Option Tok) (d : TextErr) → d.kind ≡ kinds.Offset → HasLabel text l → NamesGiven labels l a
    → IsOutOfReach text pc labels d.column → IsOne (IsAtLabel text) d.column
    → (e : TextErr) → IsTextRefused e.kind text pc labels e.column ↔ (refused {A = Instr} d ≡ refused e)
out_tells text pc a labels l d kind label names o one e = (
  (λ s. let same = out_only text pc a labels l d.column e.column e.kind label names o one s in
      ap (λ (x : TextErr). refused x) (same_error d e (kind ∙ same.0) same.1)),
  (λ f. moved_error (λ k c. IsTextRefused k text pc labels c) d e (error_is {A = Instr} d e f)
      (subst (λ (k : AsmKind). IsTextRefused k text pc labels d.column) (sym kind) o)),
)

pub missing_reads : (text : List ℕ) (pc : ℕ) (labels : Labels) (l : Option Tok) (d : TextErr) → HasLabel text l → IsUnknownGiven labels l → (i : Instr)
    → IsTextOf text pc labels i ↔ (refused d ≡ ok i)
missing_reads text pc labels (Some t) d label none i = ((λ is. absurd (no_text text pc labels t i label none is)), (λ f. absurd cc))
missing_reads text pc labels None d label none i = absurd none

pub missing_tells : (text : List ℕ) (pc : ℕ) (labels : Labels) (l : Option Tok) (d : TextErr) → d.kind ≡ kinds.Missing → HasLabel text l
    → IsUnknownGiven labels l → IsMissing text labels d.column → IsOne (IsAtLabel text) d.column
    → (e : TextErr) → IsTextRefused e.kind text pc labels e.column ↔ (refused {A = Instr} d ≡ refused e)
missing_tells text pc labels (Some t) d kind label none m one e = (
  (λ s. let same = missing_only text pc labels t d.column e.column e.kind label m none one s in
      ap (λ (x : TextErr). refused x) (same_error d e (kind ∙ same.0) same.1)),
  (λ f. moved_error (λ k c. IsTextRefused k text pc labels c) d e (error_is {A = Instr} d e f)
      (subst (λ (k : AsmKind). IsTextRefused k text pc labels d.column) (sym kind) m)),
)
missing_tells text pc labels None d kind label none m one e = absurd none

pub looked_up : (o p : Option ℕ) → o ≡ p → MatchOption o (p ≡ None) (λ a. p ≡ Some a)
looked_up (Some a) p e = sym e
looked_up None p e = sym e

pub nothing_at : (text : List ℕ) (pc a : ℕ) → ((i : Instr) → IsRowAt text pc a i → nothing ≡ given i) → (i : Instr) → IsRowAt text pc a i → ⊥
nothing_at text pc a only i is = let e = only i is in cc
