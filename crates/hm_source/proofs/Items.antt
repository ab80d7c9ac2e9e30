-- Items of lists, by their first token.
use Rattle.std.proofs.Common.{◌≡◌, ℕ, true, false, List, [], ◌∷◌, Some, refl, sym, ap, subst, ◌∙◌}
use Rattle.hm_tokens.specs.Tokens.{word, number, skip, token_at, minus_mark, plus_mark}
use Rattle.hm_source.specs.Directives.{Datum, literal, named, beyond, datum_tokens}
use Rattle.hm_line.specs.Fronts.{AreFront}
use Rattle.hm_source.specs.Shown.{EndsHere}
use Rattle.hm_text_tables.proofs.Decided.{word_is}
use Rattle.hm_source.proofs.Fronts.{same_front, same_next}

-- ---- that `-` begins

pub minus_first : (text r rest : List ℕ) (d : Datum) → token_at (skip text) ≡ Some (minus_mark, r) → AreFront text (datum_tokens d) rest
    → (m : ℕ) × (d ≡ literal true m) × AreFront r (number m ∷ []) rest
minus_first text r rest (literal false m) e f = let same = same_next text minus_mark (number m) r f.0 e f.1 in absurd cc
minus_first text r rest (literal true m) e f =
    let same = same_next text minus_mark minus_mark r f.0 e f.1 in
    (m, refl, subst (λ (x : List ℕ). AreFront x (number m ∷ []) rest) (sym same.1) f.2)
minus_first text r rest (named w) e f = let same = same_next text minus_mark (word w) r f.0 e f.1 in absurd cc
minus_first text r rest (beyond w m) e f = let same = same_next text minus_mark (word w) r f.0 e f.1 in absurd cc

-- ---- that a name begins: it is a name alone, or a number goes on behind `+`

pub data Named (w r rest : List ℕ) (d : Datum) : Type 0 where
  alone : d ≡ named w → r ≡ rest → Named w r rest d
  more : (n : ℕ) → (mid : List ℕ) → d ≡ beyond w n → AreFront r (plus_mark ∷ []) mid → AreFront mid (number n ∷ []) rest → Named w r rest d

pub name_first : (text w r rest : List ℕ) (d : Datum) → AreFront text (word w ∷ []) r → AreFront text (datum_tokens d) rest → Named w r rest d
name_first text w r rest (literal false m) a f = let same = same_next text (word w) (number m) a.0 f.0 a.1 f.1 in absurd cc
name_first text w r rest (literal true m) a f = let same = same_next text (word w) minus_mark a.0 f.0 a.1 f.1 in absurd cc
name_first text w r rest (named v) a f =
    let same = same_next text (word w) (word v) a.0 f.0 a.1 f.1 in
    alone (ap named (sym (word_is w v same.0))) (sym a.2 ∙ same.1 ∙ f.2)
name_first text w r rest (beyond v n) a f =
    let same = same_next text (word w) (word v) a.0 f.0 a.1 f.1 in
    more n f.2.0 (ap (λ (x : List ℕ). beyond x n) (sym (word_is w v same.0)))
    (subst (λ (x : List ℕ). AreFront x (plus_mark ∷ []) f.2.0) (sym same.1 ∙ a.2) (f.2.0, f.2.1, refl)) f.2.2

pub name_alone : (text w r rest : List ℕ) (d : Datum) → AreFront text (word w ∷ []) r → AreFront text (datum_tokens d) rest
    → ((mid : List ℕ) → AreFront r (plus_mark ∷ []) mid → ⊥) → (named w ≡ d) × (r ≡ rest)
name_alone text w r rest d a f none =
    elim (name_first text w r rest d a f) [
      | alone e same ↦ (sym e, same)
      | more n mid e plus last ↦ absurd (none mid plus)
    ]

pub name_more : (text w r from rest : List ℕ) (d : Datum) → AreFront text (word w ∷ []) r → AreFront text (datum_tokens d) rest → EndsHere rest
    → AreFront r (plus_mark ∷ []) from → (n : ℕ) × (d ≡ beyond w n) × AreFront from (number n ∷ []) rest
name_more text w r from rest d a f ends plus =
    elim (name_first text w r rest d a f) [
      | alone e same ↦ absurd (ends plus.0 (subst (λ (x : List ℕ). token_at (skip x) ≡ Some (plus_mark, plus.0)) same plus.1))
      | more n mid e other last ↦ (n, e, subst (λ (x : List ℕ). AreFront x (number n ∷ []) rest) (same_front r plus_mark plus_mark mid from other plus).1 last)
    ]
