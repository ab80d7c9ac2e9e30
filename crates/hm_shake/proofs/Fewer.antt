-- Stretches that are cut off, and from which interrupts are taken out: sound, no more ticks, and fewer interrupts.
use Rattle.std.proofs.Common.{◌≡◌, ℕ, zero, suc, ◌+◌, ◌-◌, ◌≤◌, ◌<◌, Bool, true, false, cond, List, [], ◌∷◌, ◌++◌, map, arith, refl, sym, ap, ◌∙◌, nat_le}
use Rattle.std.proofs.Common.{◌⊎◌, inl, inr, Option, Some, None}
use Rattle.std.specs.List.{All}
use Rattle.std.proofs.lemmas.Bool.{leb-false, leb-true}
use Rattle.std.proofs.lemmas.List.Elements.{All-append, All-cons, All-head, All-nil, All-tail}
use Rattle.hm_sched.proofs.Ticks.{total-cons}
use Rattle.hm_shake_runs.proofs.Room.{ticks, ticks-append}
use Rattle.hm_shake_runs.specs.Stretches.{IsStretch, cut, first_of, interrupts_in, one_if, quiet, quieted, stretch_line, without}
use Rattle.hm_shake_runs.specs.declared.stretches.Stretch.{Stretch}

pub ticks-cons : (x : Stretch) (xs : List Stretch) → ticks (x ∷ xs) ≡ x.count + ticks xs
ticks-cons x xs = total-cons (stretch_line x) (map stretch_line xs)

-- ---- interrupts taken out

quieted_ticks : (n : ℕ) (xs : List Stretch) → ticks (quieted n xs) ≡ ticks xs
quieted_ticks zero xs = refl
quieted_ticks (suc n) [] = refl
quieted_ticks (suc n) (x ∷ xs) =
    ticks-cons (quiet x) (quieted (suc n - one_if x.irq) xs) ∙ ap (λ (j : ℕ). x.count + j) (quieted_ticks (suc n - one_if x.irq) xs) ∙ sym (ticks-cons x xs)

pub without_ticks : (k n : ℕ) (xs : List Stretch) → ticks (without k n xs) ≡ ticks xs
without_ticks zero n xs = quieted_ticks n xs
without_ticks (suc k) n [] = refl
without_ticks (suc k) n (x ∷ xs) =
    ticks-cons x (without (suc k - one_if x.irq) n xs) ∙ ap (λ (j : ℕ). x.count + j) (without_ticks (suc k - one_if x.irq) n xs) ∙ sym (ticks-cons x xs)

quiet_sound : (most : ℕ) (x : Stretch) → IsStretch most x → IsStretch most (quiet x)
quiet_sound most x h = record { some = h.some; eight_digits = h.eight_digits; some_letters = h.some_letters; few_letters = h.few_letters; named = tt }

quieted_sound : (most n : ℕ) (xs : List Stretch) → All (IsStretch most) xs → All (IsStretch most) (quieted n xs)
quieted_sound most zero xs all = all
quieted_sound most (suc n) [] all = All-nil (IsStretch most)
quieted_sound most (suc n) (x ∷ xs) all =
    All-cons (IsStretch most) (quiet x) (quieted (suc n - one_if x.irq) xs) (quiet_sound most x (All-head (IsStretch most) x xs all))
    (quieted_sound most (suc n - one_if x.irq) xs (All-tail (IsStretch most) x xs all))

pub without_sound : (most k n : ℕ) (xs : List Stretch) → All (IsStretch most) xs → All (IsStretch most) (without k n xs)
without_sound most zero n xs all = quieted_sound most n xs all
without_sound most (suc k) n [] all = All-nil (IsStretch most)
without_sound most (suc k) n (x ∷ xs) all =
    All-cons (IsStretch most) x (without (suc k - one_if x.irq) n xs) (All-head (IsStretch most) x xs all)
    (without_sound most (suc k - one_if x.irq) n xs (All-tail (IsStretch most) x xs all))

-- ---- cut off

least : (b : Bool) (c n : ℕ) → (b ≡ true → c ≤ n) → 1 ≤ c → 1 ≤ n → (cond b c n ≤ n) × (1 ≤ cond b c n)
least true c n f g h = (f refl, g)
least false c n f g h = (omega arith, h)

least_few : (b : Bool) (c n : ℕ) → (b ≡ false → n ≤ c) → cond b c n ≤ c
least_few true c n f = omega arith
least_few false c n f = f refl

first_sound : (most n : ℕ) (x : Stretch) → IsStretch most x → All (IsStretch most) (first_of n x)
first_sound most zero x h = All-nil (IsStretch most)
first_sound most (suc n) x h =
    let k = cond (nat_le x.count (suc n)) x.count (suc n) in
    let some = least (nat_le x.count (suc n)) x.count (suc n) (λ e. leb-true x.count (suc n) e) h.some (omega arith) in
    let few : k ≤ x.count = least_few (nat_le x.count (suc n)) x.count (suc n) (λ e. omega (arith, leb-false x.count (suc n) e)) in
    let many : x.count ≤ 99999999 = h.eight_digits in
    All-cons (IsStretch most) (record x { count = k }) []
    (record { some = some.1; eight_digits = omega arith; some_letters = h.some_letters; few_letters = h.few_letters; named = h.named })
    (All-nil (IsStretch most))

pub cut_sound : (most n : ℕ) (xs : List Stretch) → All (IsStretch most) xs → All (IsStretch most) (cut n xs)
cut_sound most n [] all = All-nil (IsStretch most)
cut_sound most n (x ∷ xs) all =
    All-append (IsStretch most) (first_of n x) (cut (n - x.count) xs) (first_sound most n x (All-head (IsStretch most) x xs all))
    (cut_sound most (n - x.count) xs (All-tail (IsStretch most) x xs all))

whole_or : (b : Bool) (c n : ℕ) → (b ≡ true → c ≤ n) → (b ≡ false → n ≤ c) → cond b c n + (n - c) ≡ n
whole_or true c n f g = let few : c ≤ n = f refl in omega arith
whole_or false c n f g = let many : n ≤ c = g refl in omega arith

first_all : (n : ℕ) (x : Stretch) → ticks (first_of n x) + (n - x.count) ≡ n
first_all zero x = omega arith
first_all (suc n) x =
    let all = whole_or (nat_le x.count (suc n)) x.count (suc n) (λ e. leb-true x.count (suc n) e) (λ e. omega (arith, leb-false x.count (suc n) e)) in
    omega arith

pub cut_ticks_few : (n : ℕ) (xs : List Stretch) → ticks (cut n xs) ≤ n
cut_ticks_few n [] = omega arith
cut_ticks_few n (x ∷ xs) =
    let both = ticks-append (first_of n x) (cut (n - x.count) xs) in
    let rest = cut_ticks_few (n - x.count) xs in
    let first = first_all n x in
    omega arith

-- the first n ticks are n
pub cut_ticks_all : (n : ℕ) (xs : List Stretch) → n ≤ ticks xs → ticks (cut n xs) ≡ n
cut_ticks_all n [] room = omega arith
cut_ticks_all n (x ∷ xs) room =
    let whole = ticks-cons x xs in
    let both = ticks-append (first_of n x) (cut (n - x.count) xs) in
    let rest = cut_ticks_all (n - x.count) xs (omega arith) in
    let first = first_all n x in
    omega arith

-- ---- how many interrupts

abbrev count : List Stretch → ℕ
count xs = interrupts_in xs

append_count : (xs ys : List Stretch) → count (xs ++ ys) ≡ count xs + count ys
append_count [] ys = omega arith
append_count (x ∷ xs) ys = let rest = append_count xs ys in omega arith

first_count : (n : ℕ) (x : Stretch) → count (first_of n x) ≤ one_if x.irq
first_count zero x = omega arith
first_count (suc n) x = omega arith

pub cut_count : (n : ℕ) (xs : List Stretch) → count (cut n xs) ≤ count xs
cut_count n [] = omega arith
cut_count n (x ∷ xs) =
    let both = append_count (first_of n x) (cut (n - x.count) xs) in
    let first = first_count n x in
    let rest = cut_count (n - x.count) xs in
    omega arith

quieted_count : (n : ℕ) (xs : List Stretch) → count (quieted n xs) ≤ count xs
quieted_count zero xs = omega arith
quieted_count (suc n) [] = omega arith
quieted_count (suc n) (x ∷ xs) = let rest = quieted_count (suc n - one_if x.irq) xs in omega arith

one_or_none : (o : Option ℕ) → (one_if o ≡ 0) ⊎ (one_if o ≡ 1)
one_or_none None = inl refl
one_or_none (Some n) = inr refl

quieted_less : (n : ℕ) (xs : List Stretch) → 0 < n → 0 < count xs → count (quieted n xs) < count xs
quieted_less zero xs some has = absurd (omega arith)
quieted_less (suc n) [] some has = absurd (omega arith)
quieted_less (suc n) (x ∷ xs) some has = elim (one_or_none x.irq) [
  | inl none ↦ let rest = quieted_less (suc n - one_if x.irq) xs (omega arith) (omega arith) in omega arith
  | inr one ↦ let rest = quieted_count (suc n - one_if x.irq) xs in omega arith
]

pub without_less : (k n : ℕ) (xs : List Stretch) → 0 < n → k < count xs → count (without k n xs) < count xs
without_less zero n xs some has = quieted_less n xs some has
without_less (suc k) n [] some has = absurd (omega arith)
without_less (suc k) n (x ∷ xs) some has = elim (one_or_none x.irq) [
  | inl none ↦ let rest = without_less (suc k - one_if x.irq) n xs some (omega arith) in omega arith
  | inr one ↦ let rest = without_less (suc k - one_if x.irq) n xs some (omega arith) in omega arith
]
