-- Pieces that follow each other, in front of others.
use Rattle.std.proofs.Common.{◌≡◌, ℕ, ◌+◌, eqb, List, [], ◌∷◌, ◌++◌, ◌<◌, ◌≤◌, length, refl, sym, ap, ◌∙◌, append_assoc, arith, inl, inr}
use Rattle.std.proofs.lemmas.Bool.{cases_Bool, eqb-true, eqb-false, eq-eqb, ne_eqb}
use Rattle.std.proofs.lemmas.List.{append-nil, length-append}
use Rattle.std.specs.List.{AllByRecursion}
use Rattle.hm_base.specs.Image.{Segment, segment}
use Rattle.hm_source.specs.Places.{HasRoom}
use Rattle.hm_asm.specs.Segments.{onto, with_piece, joined}

-- in front of a segment that begins at their end, and of one that does not
pub onto_next : (a : ℕ) (b : ℕ) (bs : List ℕ) (s : Segment) (ss : List Segment) → a + length (b ∷ bs) ≡ s.addr
    → onto (segment a (b ∷ bs)) (s ∷ ss) ≡ segment a ((b ∷ bs) ++ s.bytes) ∷ ss
onto_next a b bs s ss e = rw (eq-eqb (a + length (b ∷ bs)) s.addr e) refl

pub onto_apart : (a : ℕ) (b : ℕ) (bs : List ℕ) (s : Segment) (ss : List Segment) → (a + length (b ∷ bs) ≡ s.addr → ⊥)
    → onto (segment a (b ∷ bs)) (s ∷ ss) ≡ segment a (b ∷ bs) ∷ s ∷ ss
onto_apart a b bs s ss e = rw (ne_eqb (a + length (b ∷ bs)) s.addr e) refl

both_onto : (a b : ℕ) (bs : List ℕ) (c : ℕ) (cs : List ℕ) (ss : List Segment)
    → onto (segment a (b ∷ bs)) (onto (segment (a + length (b ∷ bs)) (c ∷ cs)) ss) ≡ onto (segment a ((b ∷ bs) ++ c ∷ cs)) ss
both_onto a b bs c cs [] = onto_next a b bs (segment (a + length (b ∷ bs)) (c ∷ cs)) [] refl
both_onto a b bs c cs (s ∷ ss) =
    let lengths : a + length (b ∷ bs) + length (c ∷ cs) ≡ a + length (b ∷ (bs ++ c ∷ cs)) = omega (arith, length-append (b ∷ bs) (c ∷ cs)) in
    elim (cases_Bool (eqb (a + length (b ∷ bs) + length (c ∷ cs)) s.addr)) [
      | inl e ↦
          (let next = eqb-true _ _ e in
          ap (onto (segment a (b ∷ bs))) (onto_next (a + length (b ∷ bs)) c cs s ss next)
          ∙ onto_next a b bs (segment (a + length (b ∷ bs)) ((c ∷ cs) ++ s.bytes)) ss refl
          ∙ ap (λ (x : List ℕ). segment a x ∷ ss) (sym (append_assoc (b ∷ bs) (c ∷ cs) s.bytes))
          ∙ sym (onto_next a b (bs ++ c ∷ cs) s ss (sym lengths ∙ next)))
      | inr e ↦
          (let apart = eqb-false _ _ e in
          ap (onto (segment a (b ∷ bs))) (onto_apart (a + length (b ∷ bs)) c cs s ss apart)
          ∙ onto_next a b bs (segment (a + length (b ∷ bs)) (c ∷ cs)) (s ∷ ss) refl
          ∙ sym (onto_apart a b (bs ++ c ∷ cs) s ss (λ f. apart (lengths ∙ f))))
    ]

-- bytes, and bytes that follow them, are one piece
pub with_both : (a : ℕ) (bs cs : List ℕ) (ss : List Segment) → with_piece a bs (with_piece (a + length bs) cs ss) ≡ with_piece a (bs ++ cs) ss
with_both a [] cs ss = ap (λ n. with_piece n cs ss) (let e : a + length {A = ℕ} [] ≡ a = omega arith in e)
with_both a (b ∷ bs) [] ss = ap (λ (x : List ℕ). with_piece a x ss) (sym (append-nil (b ∷ bs)))
with_both a (b ∷ bs) (c ∷ cs) ss = both_onto a b bs c cs ss

pub joined_both : (a : ℕ) (bs cs : List ℕ) (ps : List Segment) → joined (segment a bs ∷ segment (a + length bs) cs ∷ ps) ≡ joined (segment a (bs ++ cs) ∷ ps)
joined_both a bs cs ps = with_both a bs cs (joined ps)

-- bytes that end before all segments
pub with_piece-apart : (a : ℕ) (bs : List ℕ) (ss : List Segment) → AllByRecursion (λ s. a + length bs < s.addr) ss
    → with_piece a bs ss ≡ with_piece a bs [] ++ ss
with_piece-apart a [] ss all = refl
with_piece-apart a (b ∷ bs) [] all = refl
with_piece-apart a (b ∷ bs) (s ∷ ss) all = onto_apart a b bs s ss (λ e. omega (arith, e, all.0))

-- pieces one behind another from an address on, each with its room
abbrev pub AreRising : ℕ → List Segment → Type 0
AreRising a [] = Unit {0}
AreRising a (p ∷ ps) = (a ≤ p.addr) × HasRoom p.addr (length p.bytes) × AreRising (p.addr + length p.bytes) ps

pub from_lower : (a b : ℕ) (ss : List Segment) → a ≤ b → AllByRecursion (λ s. b ≤ s.addr) ss → AllByRecursion (λ s. a ≤ s.addr) ss
from_lower a b [] h all = tt
from_lower a b (s ∷ ss) h all = (omega (arith, h, all.0), from_lower a b ss h all.1)

onto_from : (a b : ℕ) (bs : List ℕ) (ss : List Segment) → AllByRecursion (λ s. a + length (b ∷ bs) ≤ s.addr) ss
    → AllByRecursion (λ s. a ≤ s.addr) (onto (segment a (b ∷ bs)) ss)
onto_from a b bs [] all = (omega arith, tt)
onto_from a b bs (s ∷ ss) all =
    let rest = from_lower a (a + length (b ∷ bs)) ss (omega arith) all.1 in
    elim (cases_Bool (eqb (a + length (b ∷ bs)) s.addr)) [
      | inl e ↦ rw (onto_next a b bs s ss (eqb-true _ _ e)) (omega arith, rest)
      | inr e ↦ rw (onto_apart a b bs s ss (eqb-false _ _ e)) (omega arith, (omega (arith, all.0), rest))
    ]

piece_from : (a b : ℕ) (bs : List ℕ) (ss : List Segment) → a ≤ b → AllByRecursion (λ s. b + length bs ≤ s.addr) ss
    → AllByRecursion (λ s. a ≤ s.addr) (with_piece b bs ss)
piece_from a b [] ss h all = from_lower a (b + 0) ss (omega (arith, h)) all
piece_from a b (c ∷ bs) ss h all = from_lower a b (onto (segment b (c ∷ bs)) ss) h (onto_from b c bs ss all)

-- their segments begin there or behind
pub joined_from : (a : ℕ) (ps : List Segment) → AreRising a ps → AllByRecursion (λ s. a ≤ s.addr) (joined ps)
joined_from a [] h = tt
joined_from a (p ∷ ps) h = piece_from a p.addr p.bytes (joined ps) h.0 (joined_from (p.addr + length p.bytes) ps h.2)
