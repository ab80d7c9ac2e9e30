-- Stretches that are cut off, and of which interrupts are left out, come of those that were there.
use Rattle.std.proofs.Common.{◌≡◌, ◌≤◌, ℕ, zero, suc, ◌-◌, ◌∙◌, Bool, true, false, cond, List, [], ◌∷◌, Option, ap, arith, inl, inr, nat_le, refl, subst, sym}
use Rattle.std.proofs.lemmas.Bool.{leb-false}
use Rattle.hm_shake.proofs.Fewer.{ticks-cons}
use Rattle.hm_shake.specs.Shorter.{LeavesOut, StaysOrNone}
use Rattle.hm_shake_runs.proofs.Room.{ticks}
use Rattle.hm_shake_runs.specs.Stretches.{cut, one_if, quieted, without}
use Rattle.hm_shake_runs.specs.declared.stretches.Stretch.{Stretch}

-- all of them do
pub all_left : (xs : List Stretch) → LeavesOut xs xs
all_left [] = tt
all_left (x ∷ xs) = (refl, inl refl, inl (refl, all_left xs))

-- ---- interrupts left out

quieted_left : (n : ℕ) (xs : List Stretch) → LeavesOut (quieted n xs) xs
quieted_left zero xs = all_left xs
quieted_left (suc n) [] = tt
quieted_left (suc n) (x ∷ xs) = (refl, inr refl, inl (refl, quieted_left (suc n - one_if x.irq) xs))

without_left : (k n : ℕ) (xs : List Stretch) → LeavesOut (without k n xs) xs
without_left zero n xs = quieted_left n xs
without_left (suc k) n [] = tt
without_left (suc k) n (x ∷ xs) = (refl, inl refl, inl (refl, without_left (suc k - one_if x.irq) n xs))

-- ---- cut off

cut_none : (n : ℕ) (xs : List Stretch) → n ≡ 0 → cut n xs ≡ []
cut_none n [] e = refl
cut_none zero (x ∷ xs) e = cut_none (0 - x.count) xs (omega arith)
cut_none (suc n) (x ∷ xs) e = absurd (omega arith)

-- a stretch that is whole, or the last
first_left : (b : Bool) (n : ℕ) (x : Stretch) (xs ys : List Stretch) → LeavesOut ys xs → (b ≡ false → n ≤ x.count) → (b ≡ false → ys ≡ [])
    → LeavesOut (record x { count = cond b x.count n } ∷ ys) (x ∷ xs)
first_left true n x xs ys rest few none = (refl, inl refl, inl (refl, rest))
first_left false n x xs ys rest few none = (refl, inl refl, inr (few refl, none refl))

pub cut_left : (n : ℕ) (xs : List Stretch) → LeavesOut (cut n xs) xs
cut_left n [] = tt
cut_left zero (x ∷ xs) = subst (λ (ys : List Stretch). LeavesOut ys (x ∷ xs)) (sym (cut_none zero (x ∷ xs) refl)) tt
cut_left (suc n) (x ∷ xs) =
    first_left (nat_le x.count (suc n)) (suc n) x xs (cut (suc n - x.count) xs) (cut_left (suc n - x.count) xs)
    (λ e. omega (arith, leb-false x.count (suc n) e))
    (λ e. cut_none (suc n - x.count) xs (omega (arith, leb-false x.count (suc n) e)))

-- ---- one after the other

stays_twice : (a b c : Option ℕ) → StaysOrNone a b → StaysOrNone b c → StaysOrNone a c
stays_twice a b c (inr e) f = inr e
stays_twice a b c (inl e) (inl f) = inl (e ∙ f)
stays_twice a b c (inl e) (inr f) = inr (e ∙ f)

none_left : (xs ys : List Stretch) → ys ≡ [] → LeavesOut xs ys → xs ≡ []
none_left [] ys e left = refl
none_left (x ∷ xs) ys e left = absurd (subst (λ (zs : List Stretch). LeavesOut (x ∷ xs) zs) e left)

-- what comes of what comes of stretches comes of them
pub left_twice : (xs ys zs : List Stretch) → LeavesOut xs ys → LeavesOut ys zs → LeavesOut xs zs
left_twice [] ys zs p q = tt
left_twice (x ∷ xs) [] zs p q = absurd p
left_twice (x ∷ xs) (y ∷ ys) [] p q = absurd q
left_twice (x ∷ xs) (y ∷ ys) (z ∷ zs) (a, i, inl (c, p)) (b, j, inl (d, q)) = (a ∙ b, stays_twice x.irq y.irq z.irq i j, inl (c ∙ d, left_twice xs ys zs p q))
left_twice (x ∷ xs) (y ∷ ys) (z ∷ zs) (a, i, inl (c, p)) (b, j, inr (d, e)) =
    (a ∙ b, stays_twice x.irq y.irq z.irq i j, inr (omega arith, none_left xs ys e p))
left_twice (x ∷ xs) (y ∷ ys) (z ∷ zs) (a, i, inr (c, e)) (b, j, inl (d, q)) = (a ∙ b, stays_twice x.irq y.irq z.irq i j, inr (omega arith, e))
left_twice (x ∷ xs) (y ∷ ys) (z ∷ zs) (a, i, inr (c, e)) (b, j, inr (d, f)) = (a ∙ b, stays_twice x.irq y.irq z.irq i j, inr (omega arith, e))

-- what comes of stretches has no more ticks
pub left_ticks : (xs ys : List Stretch) → LeavesOut xs ys → ticks xs ≤ ticks ys
left_ticks [] ys left = omega arith
left_ticks (x ∷ xs) [] left = absurd left
left_ticks (x ∷ xs) (y ∷ ys) (letters, irq, inl (same, left)) =
    let whole = ticks-cons x xs in
    let all = ticks-cons y ys in
    let rest = left_ticks xs ys left in
    omega arith
left_ticks (x ∷ xs) (y ∷ ys) (letters, irq, inr (few, none)) =
    let whole = ticks-cons x xs in
    let all = ticks-cons y ys in
    let last : ticks xs ≡ 0 = ap ticks none in
    omega arith

-- first interrupts are left out, and then it is cut off
pub shorter_left : (n k m : ℕ) (xs ys zs : List Stretch) → ys ≡ without k m xs → zs ≡ cut n ys → LeavesOut zs xs
shorter_left n k m xs ys zs e f =
    let some : LeavesOut zs ys = subst (λ (us : List Stretch). LeavesOut us ys) (sym f) (cut_left n ys) in
    let all : LeavesOut ys xs = subst (λ (us : List Stretch). LeavesOut us xs) (sym e) (without_left k m xs) in
    left_twice zs ys xs some all
