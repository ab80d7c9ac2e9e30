-- Texts read in all tables.
use Rattle.std.proofs.Common.{◌≡◌, ℕ, ◌<◌, ◌≤◌, List, length, Option, Some, None, refl, sym, ap, subst, inl, inr, ◌∙◌, arith}
use Rattle.std.specs.Prelude.{IfSome}
use Rattle.hm_isa.specs.declared.Instr.{Instr}
use Rattle.hm_isa.specs.declared.Instr.TheVariants.{Scalar, Branch, Vector}
use Rattle.hm_isa.specs.declared.Vector.{Vector as VectorRow}
use Rattle.hm_text_base.proofs.Steps.{some_is}
use Rattle.hm_tokens.specs.Lines.{IsLineOf}
use Rattle.hm_tokens.specs.Ranges.{normal}
use Rattle.hm_tokens.specs.Tokens.{Tok, number}
use Rattle.hm_tokens.proofs.Ranges.{normal_no_fewer}
use Rattle.hm_text_rows.specs.Labels.{Reaches}
use Rattle.hm_textv_rows.specs.Rows as vectors
use Rattle.hm_isa.specs.Code.{width_of}
use Rattle.hm_text_tables.specs.Tables.{HasText, HasTokens, IsRowAt, IsRowOf, IsTokenText, IsVectorText, Seen, label_of, target}
use Rattle.hm_text_tables.proofs.Apart.{apart}
use Rattle.hm_text_tables.proofs.Rows.{at_nearest, few_tokens}

abbrev these : List Tok → Option (List Tok)
these ts = Some ts

abbrev no_tokens : Option (List Tok)
no_tokens = None

-- what is read of a text of at most 40 tokens
abbrev pub AreRead : List ℕ → Option (List Tok) → Type 0
AreRead text o = (ts : List Tok) → IsLineOf text ts → length ts ≤ 40 → o ≡ Some ts

abbrev pub seen_of : Instr → Tok → Seen
seen_of i t = (width_of i, label_of i t)

abbrev pub given : {A : Type 0} → A → Option A
given x = Some x

abbrev pub nothing : {A : Type 0} → Option A
nothing = None

pub seen_parts : (w : ℕ) (l : Option Tok) (x : Seen) → given (w, l) ≡ given x → (w ≡ x.0) × (l ≡ x.1)
seen_parts w l x e = let same = some_is (w, l) x e in (ap (λ (s : Seen). s.0) same, ap (λ (s : Seen). s.1) same)

-- what is the same for all rows with the same tokens, by the one whose label is near
pub seen_near : (ts : List Tok) (i : Instr) (w : ℕ) (s : Option Tok) → w ≡ width_of i → ((j : Instr) → IsRowOf ts 0 4 j → given i ≡ given j)
    → ((t : Tok) → HasTokens i t ts → s ≡ label_of i t) → (j : Instr) (t : Tok) → HasTokens j t ts → given (w, s) ≡ given (seen_of j t)
seen_near ts i w s bytes only says j t has =
    let n = at_nearest j t ts has in
    let is : i ≡ n.0 = some_is i n.0 (only n.0 n.1) in
    let mine : HasTokens i n.1.label ts = subst (λ (x : Instr). HasTokens x n.1.label ts) (sym is) n.1.has in
    let same : w ≡ width_of j = bytes ∙ ap width_of is ∙ n.3 in
    let label : s ≡ label_of j t = says n.1.label mine ∙ ap (λ (x : Instr). label_of x n.1.label) is ∙ n.2 in
    λ k. Some (same k, label k)

pub none_near : (ts : List Tok) → ((j : Instr) → IsRowOf ts 0 4 j → ⊥) → (j : Instr) (t : Tok) → HasTokens j t ts → ⊥
none_near ts none j t has = let n = at_nearest j t ts has in none n.0 n.1

-- rows have few tokens
pub too_many_tokens : (ts : List Tok) → 40 < length (normal ts) → (i : Instr) (t : Tok) → HasTokens i t (normal ts) → ⊥
too_many_tokens ts lt i t has = let few = few_tokens i t (normal ts) has in omega (arith, few, lt)

pub too_many : (ts : List Tok) (pc a : ℕ) → 40 < length (normal ts) → (i : Instr) → IsRowOf (normal ts) pc a i → ⊥
too_many ts pc a lt i is = too_many_tokens ts lt i is.label is.has

-- ROWS THAT ARE NO VECTOR ROWS
module _ (text : List ℕ) where
  few : (i : Instr) (t : Tok) (n : IsTokenText text i t) → length n.tokens ≤ 40
  few i t n =
      let single = few_tokens i t (normal n.tokens) n.has in
      let more = normal_no_fewer n.tokens in
      omega (arith, single, more)

  pub none_read : AreRead text no_tokens → (i : Instr) (t : Tok) → IsTokenText text i t → ⊥
  none_read read i t n = let e = read n.tokens n.line (few i t n) in cc

  same_read : (ts : List Tok) → AreRead text (these ts) → (i : Instr) (t : Tok) (n : IsTokenText text i t) → n.tokens ≡ ts
  same_read ts read i t n = sym (some_is ts n.tokens (read n.tokens n.line (few i t n)))

  pub read_has : (ts : List Tok) → AreRead text (these ts) → (i : Instr) (t : Tok) → IsTokenText text i t → HasTokens i t (normal ts)
  read_has ts read i t n = subst (λ (x : List Tok). HasTokens i t (normal x)) (same_read ts read i t n) n.has

  pub shape_found : {A : Type 0} (ts : List Tok) (r : Option A) (width : A → ℕ) (label : A → Option Tok) → IsLineOf text ts
      → IfSome r (λ s. (i : Instr) × (t : Tok) × HasTokens i t (normal ts) × (width s ≡ width_of i) × (label s ≡ label_of i t))
      → IfSome r (λ s. (i : Instr) × (t : Tok) × IsTokenText text i t × (width s ≡ width_of i) × (label s ≡ label_of i t))
  shape_found ts (Some s) width label line f = (f.0, f.1, record { tokens = ts; line = line; has = f.2 }, f.3, f.4)
  shape_found ts None width label line f = tt

  pub at_found : (ts : List Tok) (pc a : ℕ) (r : Option Instr) → IsLineOf text ts → IfSome r (λ i. IsRowOf (normal ts) pc a i)
      → IfSome r (λ i. (t : Tok) × IsTokenText text i t × Reaches (target i pc) a)
  at_found ts pc a (Some i) line is = (is.label, record { tokens = ts; line = line; has = is.has }, is.reaches)
  at_found ts pc a None line is = tt

  pub at_only : (ts : List Tok) (pc a : ℕ) (r : Option Instr) → AreRead text (these ts) → ((i : Instr) → IsRowOf (normal ts) pc a i → r ≡ Some i)
      → (i : Instr) (t : Tok) → IsTokenText text i t → Reaches (target i pc) a → r ≡ Some i
  at_only ts pc a r read only i t n re = only i (record { label = t; has = read_has ts read i t n; reaches = re })

-- VECTOR ROWS
pub vector_found : (text : List ℕ) (v : VectorRow) → vectors.IsTextOf text v
    → (i : Instr) × (t : Tok) × IsVectorText text i × (4 ≡ width_of i) × (nothing ≡ label_of i t)
vector_found text v is = (Vector v, number 0, is, refl, refl)

pub vector_seen : (text : List ℕ) (i : Instr) (t : Tok) → IsVectorText text i → given (4, nothing) ≡ given (seen_of i t)
vector_seen text (Scalar i) t is = absurd is
vector_seen text (Branch i) t is = absurd is
vector_seen text (Vector v) t is = refl

pub vector_none : (text : List ℕ) → ((v : VectorRow) → vectors.IsTextOf text v → nothing ≡ given v) → (i : Instr) → IsVectorText text i → ⊥
vector_none text only (Scalar i) is = is
vector_none text only (Branch i) is = is
vector_none text only (Vector v) is = let e = only v is in cc

pub vector_only : (text : List ℕ) (u : VectorRow) → ((v : VectorRow) → vectors.IsTextOf text v → given u ≡ given v) → (i : Instr) → IsVectorText text i
    → given (Vector u) ≡ given i
vector_only text u only (Scalar i) is = absurd is
vector_only text u only (Branch i) is = absurd is
vector_only text u only (Vector v) is = ap (λ (x : VectorRow). Some (Vector x)) (some_is u v (only v is))

vector_reaches : (text : List ℕ) (i : Instr) (pc a : ℕ) → IsVectorText text i → Reaches (target i pc) a
vector_reaches text (Scalar i) pc a is = absurd is
vector_reaches text (Branch i) pc a is = absurd is
vector_reaches text (Vector v) pc a is = tt

-- ROWS THAT ARE NO VECTOR ROWS, AND THEN THOSE: no text is of both
module _ (text : List ℕ) where
  pub first_only : (s : Option Seen) (j : Instr) (u : Tok) → IsTokenText text j u
      → ((i : Instr) (t : Tok) → IsTokenText text i t → s ≡ given (seen_of i t)) → (i : Instr) (t : Tok) → HasText i t text → s ≡ given (seen_of i t)
  first_only s j u p only i t (inl n) = only i t n
  first_only s j u p only i t (inr v) = absurd (apart text j i u t p v)

  pub first_at : (pc a : ℕ) (r : Option Instr) (j : Instr) (u : Tok) → IsTokenText text j u
      → ((i : Instr) (t : Tok) → IsTokenText text i t → Reaches (target i pc) a → r ≡ Some i) → (i : Instr) → IsRowAt text pc a i → r ≡ Some i
  first_at pc a r j u p only i is = by_table is.has
    where
      by_table : HasText i is.label text → r ≡ Some i
      by_table (inl n) = only i is.label n is.reaches
      by_table (inr v) = absurd (apart text j i u is.label p v)

  pub then_found : {A : Type 0} (r : Option A) (width : A → ℕ) (label : A → Option Tok)
      → IfSome r (λ s. (i : Instr) × (t : Tok) × IsVectorText text i × (width s ≡ width_of i) × (label s ≡ label_of i t))
      → IfSome r (λ s. (i : Instr) × (t : Tok) × HasText i t text × (width s ≡ width_of i) × (label s ≡ label_of i t))
  then_found (Some s) width label f = (f.0, f.1, inr f.2, f.3, f.4)
  then_found None width label f = tt

  pub then_only : (s : Option Seen) → ((i : Instr) (t : Tok) → IsTokenText text i t → nothing ≡ given (seen_of i t))
      → ((i : Instr) (t : Tok) → IsVectorText text i → s ≡ given (seen_of i t)) → (i : Instr) (t : Tok) → HasText i t text → s ≡ given (seen_of i t)
  then_only s none only i t (inl n) = absurd (let e = none i t n in cc)
  then_only s none only i t (inr v) = only i t v

  pub vector_at : (pc a : ℕ) (r : Option Instr) → IfSome r (λ i. IsVectorText text i) → IfSome r (λ i. IsRowAt text pc a i)
  vector_at pc a (Some i) is = record { label = number 0; has = inr is; reaches = vector_reaches text i pc a is }
  vector_at pc a None is = tt

  pub then_at : (pc a : ℕ) (r : Option Instr) → ((i : Instr) (t : Tok) → IsTokenText text i t → Reaches (target i pc) a → nothing ≡ given i)
      → ((i : Instr) → IsVectorText text i → r ≡ Some i) → (i : Instr) → IsRowAt text pc a i → r ≡ Some i
  then_at pc a r none only i is = by_table is.has
    where
      by_table : HasText i is.label text → r ≡ Some i
      by_table (inl n) = absurd (let e = none i is.label n is.reaches in cc)
      by_table (inr v) = only i v
