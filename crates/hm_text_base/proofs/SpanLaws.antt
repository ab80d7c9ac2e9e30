-- What cutting at a mark gives.
use Rattle.std.proofs.Common.{◌≡◌, ◌≢◌, ℕ, zero, suc, ◌<◌, ◌≤◌, true, eqb, List, [], ◌∷◌, ◌++◌, take, drop, length, get_or, refl, ◌∙◌, arith}
use Rattle.std.proofs.lemmas.Bool.{ne_eqb, eq-eqb, cases_Bool, eqb-true, eqb-false, and_parts, not-true}
use Rattle.std.specs.List.{slice_split, list_all, join_with_byte, AllByRecursion}
use Rattle.std.specs.Prelude.{◌==◌, not}
use Rattle.std.proofs.Common.{inl, inr}
use Rattle.hm_text_base.specs.Spans.{span, Lacks}

-- the mark is not among the first n, and stands there unless the text ends
pub span_is : (mark : ℕ) (text : List ℕ) (n : ℕ) → n ≤ length text → ((k : ℕ) → k < n → get_or text k 0 ≢ mark) → (n < length text → get_or text n 0 ≡ mark)
    → span mark text ≡ (take n text, drop n text)
unfolding span
span_is mark [] zero le before here = refl
span_is mark [] (suc n) le before here = absurd (omega arith)
span_is mark (b ∷ bs) zero le before here = rw (eq-eqb b mark (here (omega arith))) refl
span_is mark (b ∷ bs) (suc n) le before here =
    rw (ne_eqb b mark (before 0 (omega arith)), span_is mark bs n (omega arith) (λ k lt. before (suc k) (omega arith)) (λ lt. here (omega arith))) refl

pub span_at : (mark : ℕ) (front rest : List ℕ) → Lacks mark front → span mark (front ++ mark ∷ rest) ≡ (front, mark ∷ rest)
unfolding span
span_at mark [] rest lacks = rw (eq-eqb mark mark refl) refl
span_at mark (b ∷ bs) rest lacks = rw (ne_eqb b mark lacks.0, span_at mark bs rest lacks.1) refl

pub span_all : (mark : ℕ) (text : List ℕ) → Lacks mark text → span mark text ≡ (text, [])
unfolding span
span_all mark [] lacks = refl
span_all mark (b ∷ bs) lacks = rw (ne_eqb b mark lacks.0, span_all mark bs lacks.1) refl

-- the two parts are the text
pub span_parts : (mark : ℕ) (text : List ℕ) → (span mark text).0 ++ (span mark text).1 ≡ text
unfolding span
span_parts mark [] = refl
span_parts mark (b ∷ bs) =
    elim (cases_Bool (eqb b mark)) [
      | inl e ↦ rw e refl
      | inr e ↦ rw (e, span_parts mark bs) refl
    ]

-- the parts after a mark
abbrev pub parts_from : ℕ → List ℕ → List (List ℕ)
parts_from mark [] = []
parts_from mark (b ∷ rest) = slice_split (λ x. x == mark) rest

pub split_span : (mark : ℕ) (text : List ℕ) → slice_split (λ b. b == mark) text ≡ (span mark text).0 ∷ parts_from mark (span mark text).1
unfolding span
split_span mark [] = refl
split_span mark (b ∷ bs) =
    elim (cases_Bool (eqb b mark)) [
      | inl e ↦ rw e refl
      | inr e ↦ rw (e, split_span mark bs) refl
    ]

-- the first byte, where there is one, is the mark
abbrev pub BeginsWith : ℕ → List ℕ → Type 0
BeginsWith mark [] = Unit {0}
BeginsWith mark (b ∷ bs) = b ≡ mark

pub span_first : (mark : ℕ) (text : List ℕ) → BeginsWith mark (span mark text).1
unfolding span
span_first mark [] = tt
span_first mark (b ∷ bs) =
    elim (cases_Bool (eqb b mark)) [
      | inl e ↦ rw e (eqb-true b mark e)
      | inr e ↦ rw e (span_first mark bs)
    ]

-- ---- marks that a text lacks

pub Lacks_append : (mark : ℕ) (a b : List ℕ) → Lacks mark a → Lacks mark b → Lacks mark (a ++ b)
Lacks_append mark [] b p q = q
Lacks_append mark (x ∷ a) b p q = (p.0, Lacks_append mark a b p.1 q)

pub Lacks_from_test : (mark : ℕ) (text : List ℕ) → list_all (λ b. not (eqb b mark)) text ≡ true → Lacks mark text
Lacks_from_test mark [] e = tt
Lacks_from_test mark (b ∷ bs) e =
    let p = and_parts (not (eqb b mark)) (list_all (λ c. not (eqb c mark)) bs) e in
    (eqb-false b mark (not-true (eqb b mark) p.0), Lacks_from_test mark bs p.1)

pub split_join : (mark : ℕ) (word : List ℕ) (words : List (List ℕ)) → AllByRecursion (Lacks mark) (word ∷ words)
    → slice_split (λ b. b == mark) (join_with_byte mark (word ∷ words)) ≡ word ∷ words
split_join mark word [] lacks = split_span mark word ∙ rw (span_all mark word lacks.0) refl
split_join mark word (next ∷ words) lacks =
    split_span mark (word ++ mark ∷ join_with_byte mark (next ∷ words))
    ∙ rw (span_at mark word (join_with_byte mark (next ∷ words)) lacks.0, split_join mark next words lacks.1) refl
