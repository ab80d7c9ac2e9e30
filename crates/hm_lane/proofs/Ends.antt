-- The predicate word by word, and what the end of a beat leaves.
use Rattle.std.proofs.Common.{◌≡◌, ◌≢◌, ℕ, ◌+◌, ◌*◌, ◌-◌, ◌%◌, ◌<◌, Bool, true, false, ◌&&◌, ◌||◌, not, eqb, ltb, cond, List, [], ◌∷◌, ◌++◌, arith, refl, ap}
use Rattle.std.proofs.Common.{sym, ◌∙◌, subst}
use Rattle.std.proofs.lemmas.Bool.{or_parts}
use Rattle.hm_base.specs.Bits.{field}
use Rattle.hm_base.specs.Place.{IsPlace, same_place, has_place}
use Rattle.hm_base.specs.declared.Place.{Place}
use Rattle.hm_base.specs.declared.Place.TheVariants.{QWord, P0, Mask01, Mask23}
use Rattle.hm_base.proofs.Order.{same_place-refl}
use Rattle.hm_regs.specs.declared.Regs.{Regs}
use Rattle.hm_regs.specs.Place.{value_at, with_value}
use Rattle.hm_regs.specs.Writes.{Write, write, apply, places_of, Each}
use Rattle.hm_regs.proofs.Places.{value_at-others}
use Rattle.hm_lane.specs.Lanes.{bytes_of, merged}
use Rattle.hm_lane.specs.Predicate.{allowed, in_tail, mask_of, mask_place, active_word, advance_writes, advance_places, predicate_of, finish_writes}
use Rattle.hm_lane.proofs.Bits.{bit_at-field}

-- a bit of P0 is one of its slice
by_slice : (m lo j w : ℕ) (x : Bool) → j < 4 → (allowed m w (lo + j) && x) ≡ (allowed m (field lo 4 w) j && x)
by_slice m lo j w x h = ap (λ n. (eqb m 0 || eqb n 1) && x) (sym (bit_at-field lo 4 w j h))

pub predicate_words : (r : Regs) → predicate_of r ≡ active_word r 0 ++ active_word r 1 ++ active_word r 2 ++ active_word r 3
predicate_words r =
    let low = value_at Mask01 r in
    let high = value_at Mask23 r in
    λ i.
    by_slice low 0 0 r.vpr (in_tail r 0) (omega arith) i ∷ by_slice low 0 1 r.vpr (in_tail r 1) (omega arith) i
    ∷ by_slice low 0 2 r.vpr (in_tail r 2) (omega arith) i ∷ by_slice low 0 3 r.vpr (in_tail r 3) (omega arith) i
    ∷ by_slice low 4 0 r.vpr (in_tail r 4) (omega arith) i ∷ by_slice low 4 1 r.vpr (in_tail r 5) (omega arith) i
    ∷ by_slice low 4 2 r.vpr (in_tail r 6) (omega arith) i ∷ by_slice low 4 3 r.vpr (in_tail r 7) (omega arith) i
    ∷ by_slice high 8 0 r.vpr (in_tail r 8) (omega arith) i ∷ by_slice high 8 1 r.vpr (in_tail r 9) (omega arith) i
    ∷ by_slice high 8 2 r.vpr (in_tail r 10) (omega arith) i ∷ by_slice high 8 3 r.vpr (in_tail r 11) (omega arith) i
    ∷ by_slice high 12 0 r.vpr (in_tail r 12) (omega arith) i ∷ by_slice high 12 1 r.vpr (in_tail r 13) (omega arith) i
    ∷ by_slice high 12 2 r.vpr (in_tail r 14) (omega arith) i ∷ by_slice high 12 3 r.vpr (in_tail r 15) (omega arith) i ∷ []

pub predicate_merges : (r : Regs) (a b c d x y z w : ℕ)
    → merged (predicate_of r) (bytes_of a ++ bytes_of b ++ bytes_of c ++ bytes_of d) (bytes_of x ++ bytes_of y ++ bytes_of z ++ bytes_of w)
    ≡ merged (active_word r 0) (bytes_of a) (bytes_of x) ++ merged (active_word r 1) (bytes_of b) (bytes_of y)
    ++ merged (active_word r 2) (bytes_of c) (bytes_of z) ++ merged (active_word r 3) (bytes_of d) (bytes_of w)
predicate_merges r a b c d x y z w =
    ap (λ ps. merged ps (bytes_of a ++ bytes_of b ++ bytes_of c ++ bytes_of d) (bytes_of x ++ bytes_of y ++ bytes_of z ++ bytes_of w)) (predicate_words r)

-- WHAT STAYS
differs : (p q : Place) → same_place p q ≡ false → q ≢ p
differs p q e same = let t = subst (λ x. same_place p x ≡ true) (sym same) (same_place-refl p) in absurd cc

-- places that no write of a list names
others_stay : (ws : List Write) (s : Regs) (q : Place) → Each IsPlace (places_of ws) → IsPlace q → has_place (places_of ws) q ≡ false
    → value_at q (apply ws s) ≡ value_at q s
others_stay [] s q p i h = refl
others_stay (w ∷ ws) s q p i h =
    let off = or_parts (same_place w.place q) (has_place (places_of ws) q) h in
    others_stay ws (with_value w.place w.value s) q p.1 i off.1 ∙ value_at-others w.place w.value s p.0 q (differs w.place q off.0) i

advance_placed : (x y : Bool) (p q : Place) (u v : ℕ) → IsPlace p → IsPlace q
    → Each IsPlace (places_of (cond x (write p u ∷ []) [] ++ cond y (write q v ∷ []) []))
advance_placed true true p q u v i j = (i, (j, tt))
advance_placed true false p q u v i j = (i, tt)
advance_placed false true p q u v i j = (j, tt)
advance_placed false false p q u v i j = tt

-- the mask of a beat is a place
pub mask_placed : (b : ℕ) → IsPlace (mask_place b)
mask_placed b = go (ltb b 2)
  where
    go : (x : Bool) → IsPlace (cond x Mask01 Mask23)
    go true = tt
    go false = tt

advance_is : (x y : Bool) (p q : Place) (u v : ℕ)
    → places_of (cond x (write p u ∷ []) [] ++ cond y (write q v ∷ []) []) ≡ cond x (p ∷ []) [] ++ cond y (q ∷ []) []
advance_is true true p q u v = refl
advance_is true false p q u v = refl
advance_is false true p q u v = refl
advance_is false false p q u v = refl

-- the places that the advance writes
pub places_of-advance_writes : (b : ℕ) (r : Regs) → places_of (advance_writes b r) ≡ advance_places b r
places_of-advance_writes b r =
    advance_is (ltb 8 (mask_of b r)) (eqb (b % 2) 1 && not (eqb (mask_of b r) 0)) (P0 b) (mask_place b) (15 - value_at (P0 b) r) (2 * mask_of b r)

pub finish_others : (d b new : ℕ) (r : Regs) (q : Place) → d < 8 → b < 4 → IsPlace q → has_place (QWord (4 * d + b) ∷ advance_places b r) q ≡ false
    → value_at q (apply (finish_writes d b new r) r) ≡ value_at q r
finish_others d b new r q low high i h =
    let word : IsPlace (QWord (4 * d + b)) = omega arith in
    others_stay (finish_writes d b new r) r q (
      word,
      advance_placed (ltb 8 (mask_of b r)) (eqb (b % 2) 1 && not (eqb (mask_of b r) 0)) (P0 b) (mask_place b) (15 - value_at (P0 b) r) (2 * mask_of b r)
          high (mask_placed b),
    )
    i (ap (λ ps. has_place (QWord (4 * d + b) ∷ ps) q) (places_of-advance_writes b r) ∙ h)
