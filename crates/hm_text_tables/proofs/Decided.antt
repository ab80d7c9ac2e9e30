-- Every text says an instruction or is refused: whether some row has a text is decided, since all rows can be tried.
use Rattle.std.proofs.Common.{◌≡◌, ◌⊎◌, ◌<◌, ◌≤◌, ◌^◌, ℕ, Bool, true, false, cond, List, [], ◌∷◌, ◌++◌, Option, Some, None, refl, ap, subst, inl}
use Rattle.std.proofs.Common.{inr, arith}
use Rattle.std.proofs.lemmas.Bool.{cases_eq, cases_lt}
use Rattle.hm_codes.proofs.Unique.{coded_instr}
use Rattle.hm_isa.specs.declared.Instr.{Instr}
use Rattle.hm_isa.specs.declared.Instr.TheVariants.{Scalar, Branch, Vector}
use Rattle.hm_isa.specs.declared.widths.ByWidth.{ByWidth}
use Rattle.hm_isa.specs.declared.widths.ByWidth.TheVariants as by
use Rattle.hm_isa.specs.declared.widths.WideRow.{WideRow}
use Rattle.hm_isa.specs.Widths.{by_width}
use Rattle.hm_layout.proofs.Search.{Decided, decided_both, decided_test}
use Rattle.hm_line.specs.declared.errors.AsmKind.{AsmKind}
use Rattle.hm_line.specs.declared.errors.AsmKind.TheVariants as kinds
use Rattle.hm_line.specs.declared.form.Form.TheVariants as forms
use Rattle.hm_line.specs.Texts.{IsLast, IsOfForm, IsRefused, column}
use Rattle.hm_line.proofs.Decided.{line_tokens, some_form}
use Rattle.hm_line.proofs.Fronts.{not_both}
use Rattle.hm_tokens.specs.Lines.{IsLineOf}
use Rattle.hm_tokens.specs.Names.{is_label_name}
use Rattle.hm_tokens.specs.Ranges.{normal}
use Rattle.hm_tokens.specs.Tokens.{Tok, word, number, mark, skip}
use Rattle.hm_text_rows.specs.Labels.{IsLabel, Reaches}
use Rattle.hm_text16_rows.specs.Rows as narrow_rows
use Rattle.hm_text32_rows.specs.Rows as wide_rows
use Rattle.hm_textv_rows.specs.Rows as vectors
use Rattle.hm_text_tables.specs.Named.{IsUnknownGiven, NamesGiven}
use Rattle.hm_text_tables.specs.Refusals.{IsNoRow, IsShapeRefused, IsTextRefused}
use Rattle.hm_isa.specs.Code.{width_of}
use Rattle.hm_text_tables.specs.Tables.{AreOfRow, AreRowTokens, HasText, HasTokens, IsRowAt, IsTokenText, IsVectorText, label_of, target}
use Rattle.hm_text_tables.specs.Texts.{HasWidth, IsRowText, IsShape, IsTextOf}
use Rattle.hm_text_tables.proofs.Formed.{last_there}
use Rattle.hm_text_tables.proofs.Lines.{same_line}
use Rattle.hm_text_tables.proofs.Once.{one_at_last, the_label}
use Rattle.hm_text_tables.proofs.Told.{is_missing, is_out_of_reach, row_is_named}

-- EQUAL OR NOT
pub cons_same : {A : Type 0} (x y : A) (xs ys : List A) → x ≡ y → xs ≡ ys → x ∷ xs ≡ y ∷ ys
cons_same x y xs ys p q = λ j. p j ∷ q j

first_same : {A : Type 0} (x y : A) (xs ys : List A) → x ∷ xs ≡ y ∷ ys → x ≡ y
first_same x y xs ys e = cc

rest_same : {A : Type 0} (x y : A) (xs ys : List A) → x ∷ xs ≡ y ∷ ys → xs ≡ ys
rest_same x y xs ys e = cc

some_first : {A : Type 0} (y : A) (ys : List A) → [] ≡ y ∷ ys → ⊥
some_first y ys e = cc

none_first : {A : Type 0} (x : A) (xs : List A) → x ∷ xs ≡ [] → ⊥
none_first x xs e = cc

pub same_lists : {A : Type 0} → ((x y : A) → Decided (x ≡ y)) → (xs ys : List A) → Decided (xs ≡ ys)
same_lists decide [] [] = inl refl
same_lists decide [] (y ∷ ys) = inr (some_first y ys)
same_lists decide (x ∷ xs) [] = inr (none_first x xs)
same_lists decide (x ∷ xs) (y ∷ ys) = go (decide x y) (same_lists decide xs ys)
  where
    go : Decided (x ≡ y) → Decided (xs ≡ ys) → Decided (x ∷ xs ≡ y ∷ ys)
    go (inl p) (inl q) = inl (cons_same x y xs ys p q)
    go (inr not_) q = inr (λ e. not_ (first_same x y xs ys e))
    go (inl p) (inr not_) = inr (λ e. not_ (rest_same x y xs ys e))

pub same_bytes : (v w : List ℕ) → Decided (v ≡ w)
same_bytes v w = same_lists cases_eq v w

pub word_is : (v w : List ℕ) → word v ≡ word w → v ≡ w
word_is v w e = cc

number_is : (n m : ℕ) → number n ≡ number m → n ≡ m
number_is n m e = cc

pub mark_is : (n m : ℕ) → mark n ≡ mark m → n ≡ m
mark_is n m e = cc

pub under : {A B : Type 0} → (A → B) → (B → A) → Decided A → Decided B
under to from (inl x) = inl (to x)
under to from (inr not_) = inr (λ y. not_ (from y))

pub same_token : (t u : Tok) → Decided (t ≡ u)
same_token (word v) (word w) = under (λ e. ap word e) (word_is v w) (same_bytes v w)
same_token (number n) (number m) = under (λ e. ap number e) (number_is n m) (cases_eq n m)
same_token (mark n) (mark m) = under (λ e. ap mark e) (mark_is n m) (cases_eq n m)
same_token t u = inr (λ e. cc)

pub same_tokens : (ts us : List Tok) → Decided (ts ≡ us)
same_tokens ts us = same_lists same_token ts us

some_tokens_is : (us ts : List Tok) → Some us ≡ Some ts → us ≡ ts
some_tokens_is us ts e = cc

same_other : (o : Option (List Tok)) (ts : List Tok) → Decided (o ≡ Some ts)
same_other None ts = inr (λ e. cc)
same_other (Some us) ts = under (λ e. ap (λ (x : List Tok). Some x) e) (some_tokens_is us ts) (same_tokens us ts)

pub one_of : {A B : Type 0} → Decided A → Decided B → Decided (A ⊎ B)
one_of (inl a) b = inl (inl a)
one_of (inr no_) (inl b) = inl (inr b)
one_of {A = A} {B = B} (inr no_) (inr not_) = inr neither
  where
    neither : A ⊎ B → ⊥
    neither (inl a) = no_ a
    neither (inr b) = not_ b

-- LABELS
is_label : (t : Tok) → Decided (IsLabel t)
is_label (word w) = decided_test (is_label_name w)
is_label (number n) = under (λ x. x) (λ x. x) (below (cases_lt n (2 ^ 32)))
  where
    below : (n < 2 ^ 32) ⊎ (2 ^ 32 ≤ n) → Decided (n < 2 ^ 32)
    below (inl lt) = inl lt
    below (inr le) = inr (λ lt. omega (arith, lt, le))
is_label (mark c) = inr (λ x. x)

-- a last token that is a label, behind others
ends : (front ts : List Tok) → Decided ((t : Tok) × IsLabel t × (front ++ t ∷ [] ≡ ts))
ends [] [] = inr (λ x. none_first x.0 [] x.2)
ends [] (t ∷ []) = go (is_label t)
  where
    go : Decided (IsLabel t) → Decided ((u : Tok) × IsLabel u × (u ∷ [] ≡ t ∷ []))
    go (inl l) = inl (t, l, refl)
    go (inr no_) = inr (λ x. no_ (subst IsLabel (first_same x.0 t [] [] x.2) x.1))
ends [] (t ∷ u ∷ ts) = inr (λ x. some_first u ts (rest_same x.0 t [] (u ∷ ts) x.2))
ends (f ∷ fs) [] = inr (λ x. none_first f (fs ++ x.0 ∷ []) x.2)
ends (f ∷ fs) (t ∷ ts) = go (same_token f t) (ends fs ts)
  where
    go : Decided (f ≡ t) → Decided ((u : Tok) × IsLabel u × (fs ++ u ∷ [] ≡ ts)) → Decided ((u : Tok) × IsLabel u × (f ∷ (fs ++ u ∷ []) ≡ t ∷ ts))
    go (inr no_) x = inr (λ y. no_ (first_same f t (fs ++ y.0 ∷ []) ts y.2))
    go (inl e) (inl (u, l, is)) = inl (u, l, cons_same f t (fs ++ u ∷ []) ts e is)
    go (inl e) (inr no_) = inr (λ y. no_ (y.0, y.1, rest_same f t (fs ++ y.0 ∷ []) ts y.2))

-- where there is no label any token stands for it
labelled : (b : Bool) (front ts : List Tok) → Decided ((t : Tok) × IsLabel t × (cond b (front ++ t ∷ []) front ≡ ts))
labelled true front ts = ends front ts
labelled false front ts = under (λ e. (number 0, any, e)) (λ x. x.2) (same_tokens front ts)
  where
    any : IsLabel (number 0)
    any = omega arith

-- ROWS
wide_told : (r : WideRow) (ts : List Tok) → Decided (AreRowTokens (by.Wide r) ts)
wide_told r ts = go (labelled (wide_rows.has_label r) (wide_rows.row_tokens r) ts) (same_other (wide_rows.other_tokens r) ts)
  where
    any : IsLabel (number 0)
    any = omega arith

    neither : (((t : Tok) × IsLabel t × (wide_rows.tokens_of r t ≡ ts)) → ⊥) → (wide_rows.other_tokens r ≡ Some ts → ⊥) → (t : Tok) → IsLabel t
        → AreOfRow (by.Wide r) t ts → ⊥
    neither no_ not_ t l (inl e) = no_ (t, l, e)
    neither no_ not_ t l (inr e) = not_ e

    go : Decided ((t : Tok) × IsLabel t × (wide_rows.tokens_of r t ≡ ts)) → Decided (wide_rows.other_tokens r ≡ Some ts)
        → Decided (AreRowTokens (by.Wide r) ts)
    go (inl x) other = inl (x.0, x.1, inl x.2)
    go (inr no_) (inl e) = inl (number 0, any, inr e)
    go (inr no_) (inr not_) = inr (λ x. neither no_ not_ x.0 x.1 x.2)

row_told : (w : ByWidth) (ts : List Tok) → Decided (AreRowTokens w ts)
row_told (by.Narrow r) ts = labelled (narrow_rows.has_label r) (narrow_rows.row_tokens r) ts
row_told (by.Wide r) ts = wide_told r ts
row_told (by.Vector v) ts = inr (λ x. x.2)

tokens_had : (i : Instr) (ts : List Tok) → Decided ((t : Tok) × HasTokens i t ts)
tokens_had i ts = under (λ x. (x.0, record { label = x.1; tokens = x.2 })) (λ x. (x.0, x.1.label, x.1.tokens)) (row_told (by_width i) ts)

-- in a text
tokens_in : (text : List ℕ) (i : Instr) → Decided ((t : Tok) × IsTokenText text i t)
tokens_in text i = go (line_tokens text)
  where
    moved : (ts : List Tok) → IsLineOf text ts → ((t : Tok) × IsTokenText text i t) → (t : Tok) × HasTokens i t (normal ts)
    moved ts line x = (x.0, subst (λ (y : List Tok). HasTokens i x.0 (normal y)) (same_line x.1.tokens ts text x.1.line line) x.1.has)

    go : ((ts : List Tok) × IsLineOf text ts) ⊎ ((ts : List Tok) → IsLineOf text ts → ⊥) → Decided ((t : Tok) × IsTokenText text i t)
    go (inr none) = inr (λ x. none x.1.tokens x.1.line)
    go (inl (ts, line)) = under (λ x. (x.0, record { tokens = ts; line = line; has = x.1 })) (moved ts line) (tokens_had i (normal ts))

vector_in : (text : List ℕ) (i : Instr) → Decided (IsVectorText text i)
vector_in text (Scalar i) = inr (λ x. x)
vector_in text (Branch i) = inr (λ x. x)
vector_in text (Vector v) = go (line_tokens text)
  where
    has : (ts : List Tok) → Decided (vectors.HasTokens v ts)
    has ts = one_of (same_tokens (vectors.tokens_of v) ts) (same_other (vectors.other_tokens v) ts)

    moved : (ts : List Tok) → IsLineOf text ts → vectors.IsTextOf text v → vectors.HasTokens v ts
    moved ts line x = subst (λ (y : List Tok). vectors.HasTokens v y) (same_line x.0 ts text x.1 line) x.2

    go : ((ts : List Tok) × IsLineOf text ts) ⊎ ((ts : List Tok) → IsLineOf text ts → ⊥) → Decided (vectors.IsTextOf text v)
    go (inr none) = inr (λ x. none x.0 x.1)
    go (inl (ts, line)) = under (λ h. (ts, line, h)) (moved ts line) (has ts)

row_has : (text : List ℕ) (i : Instr) → Decided ((t : Tok) × HasText i t text)
row_has text i = go (tokens_in text i) (vector_in text i)
  where
    none : (((t : Tok) × IsTokenText text i t) → ⊥) → (IsVectorText text i → ⊥) → (t : Tok) → HasText i t text → ⊥
    none n v t (inl x) = n (t, x)
    none n v t (inr x) = v x

    go : Decided ((t : Tok) × IsTokenText text i t) → Decided (IsVectorText text i) → Decided ((t : Tok) × HasText i t text)
    go (inl x) v = inl (x.0, inl x.1)
    go (inr n) (inl x) = inl (number 0, inr x)
    go (inr n) (inr v) = inr (λ x. none n v x.0 x.1)

row_text : (text : List ℕ) → IsOfForm forms.Instruction text → Decided ((i : Instr) × (t : Tok) × IsRowText text i t)
row_text text form =
    under (λ x. (x.0, x.1.0, record { form = form; has = x.1.1 })) (λ x. (x.0, (x.1, x.2.has)))
    (coded_instr.tried.find (λ i. (t : Tok) × HasText i t text) (row_has text))

reaches : (o : Option ℕ) (a : ℕ) → Decided (Reaches o a)
reaches (Some b) a = cases_eq b a
reaches None a = inl tt

row_at : (text : List ℕ) (pc a : ℕ) → Decided ((i : Instr) × IsRowAt text pc a i)
row_at text pc a = coded_instr.tried.find (λ i. IsRowAt text pc a i) (λ i. at i)
  where
    at : (i : Instr) → Decided (IsRowAt text pc a i)
    at i =
        under (λ x. record { label = x.0.0; has = x.0.1; reaches = x.1 }) (λ x. ((x.label, x.has), x.reaches))
        (decided_both (row_has text i) (reaches (target i pc) a))

-- WIDTHS
no_row_there : (text : List ℕ) → IsOfForm forms.Instruction text → (((i : Instr) × (t : Tok) × IsRowText text i t) → ⊥) → IsNoRow text (column text (skip text))
no_row_there text form none = record { form = form; none = λ i t row. none (i, t, row); column = refl }

pub some_width_or_refusal : (text : List ℕ) → ((n : ℕ) × HasWidth text n) ⊎ ((k : AsmKind) × (c : ℕ) × IsShapeRefused k text c)
some_width_or_refusal text = go (some_form forms.Instruction text)
  where
    formed : IsOfForm forms.Instruction text → Decided ((i : Instr) × (t : Tok) × IsRowText text i t)
        → ((n : ℕ) × HasWidth text n) ⊎ ((k : AsmKind) × (c : ℕ) × IsShapeRefused k text c)
    formed form (inl (i, t, row)) = inl (width_of i, record { instr = i; label = t; row = row; bytes = refl })
    formed form (inr none) = inr (kinds.Row, column text (skip text), no_row_there text form none)

    go : IsOfForm forms.Instruction text ⊎ ((c : ℕ) × IsRefused forms.Instruction text c)
        → ((n : ℕ) × HasWidth text n) ⊎ ((k : AsmKind) × (c : ℕ) × IsShapeRefused k text c)
    go (inl form) = formed form (row_text text form)
    go (inr (c, r)) = inr (kinds.Syntax, c, r)

pub width_or_none : (text : List ℕ) → Decided ((n : ℕ) × HasWidth text n)
width_or_none text = go (some_form forms.Instruction text)
  where
    formed : Decided ((i : Instr) × (t : Tok) × IsRowText text i t) → Decided ((n : ℕ) × HasWidth text n)
    formed row =
        under (λ x. (width_of x.0, record { instr = x.0; label = x.1; row = x.2; bytes = refl })) (λ x. (x.1.instr, x.1.label, x.1.row)) row

    go : IsOfForm forms.Instruction text ⊎ ((c : ℕ) × IsRefused forms.Instruction text c) → Decided ((n : ℕ) × HasWidth text n)
    go (inl form) = formed (row_text text form)
    go (inr (c, r)) = inr (λ x. not_both forms.Instruction text c x.1.row.form r)

-- INSTRUCTIONS
abbrev Labels : Type 0
Labels = List ℕ → Option ℕ

abbrev pub TextOutcome : List ℕ → ℕ → Labels → Type 0
TextOutcome text pc labels = ((i : Instr) × IsTextOf text pc labels i) ⊎ ((k : AsmKind) × (c : ℕ) × IsTextRefused k text pc labels c)

named_or_not : (labels : Labels) (l : Option Tok) → ((a : ℕ) × NamesGiven labels l a) ⊎ IsUnknownGiven labels l
named_or_not labels None = inl (0, tt)
named_or_not labels (Some (number n)) = inl (n, refl)
named_or_not labels (Some (mark c)) = inr tt
named_or_not labels (Some (word w)) = go (labels w) refl
  where
    go : (o : Option ℕ) → labels w ≡ o → ((a : ℕ) × (labels w ≡ Some a)) ⊎ (labels w ≡ None)
    go (Some a) e = inl (a, e)
    go None e = inr e

row_outcome : (text : List ℕ) (pc : ℕ) (labels : Labels) (i : Instr) (t : Tok) → IsRowText text i t → TextOutcome text pc labels
row_outcome text pc labels i t row = go (named_or_not labels (label_of i t))
  where
    label : (j : Instr) (u : Tok) → IsRowText text j u → label_of i t ≡ label_of j u
    label = the_label text i t row

    shape : IsShape text (width_of i) (label_of i t)
    shape = (i, t, row, refl, refl)

    last : (here : List ℕ) × IsLast text here
    last = last_there text row.form

    at : (here : List ℕ) → IsLast text here → column text (skip last.0) ≡ column text (skip here)
    at here is = one_at_last text (column text (skip last.0)) (last.0, last.1, refl) (column text (skip here)) (here, is, refl)

    placed : (a : ℕ) → NamesGiven labels (label_of i t) a → Decided ((j : Instr) × IsRowAt text pc a j) → TextOutcome text pc labels
    placed a names (inl (j, there)) = inl (j, row_is_named text pc a labels (label_of i t) j row.form label names there)
    placed a names (inr none) =
        inr (
          kinds.Offset,
          column text (skip last.0),
          is_out_of_reach text pc a labels (width_of i) (label_of i t) (column text (skip last.0)) shape label names (λ j there. none (j, there)) at,
        )

    go : ((a : ℕ) × NamesGiven labels (label_of i t) a) ⊎ IsUnknownGiven labels (label_of i t) → TextOutcome text pc labels
    go (inl (a, names)) = placed a names (row_at text pc a)
    go (inr unknown) = inr (
      kinds.Missing,
      column text (skip last.0),
      is_missing text labels (width_of i) (label_of i t) (column text (skip last.0)) shape unknown at,
    )

pub some_instruction : (text : List ℕ) (pc : ℕ) (labels : Labels) → TextOutcome text pc labels
some_instruction text pc labels = go (some_form forms.Instruction text)
  where
    formed : IsOfForm forms.Instruction text → Decided ((i : Instr) × (t : Tok) × IsRowText text i t) → TextOutcome text pc labels
    formed form (inl (i, t, row)) = row_outcome text pc labels i t row
    formed form (inr none) = inr (kinds.Row, column text (skip text), no_row_there text form none)

    go : IsOfForm forms.Instruction text ⊎ ((c : ℕ) × IsRefused forms.Instruction text c) → TextOutcome text pc labels
    go (inl form) = formed form (row_text text form)
    go (inr (c, r)) = inr (kinds.Syntax, c, r)
