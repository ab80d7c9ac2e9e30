-- An array that a loop fills from its first element on.
use Rattle.std.proofs.Common.{◌≡◌, ◌≢◌, ℕ, ◌+◌, ◌-◌, ◌<◌, ◌≤◌, ◌⊎◌, Bool, true, false, List, [], ◌++◌, length, get_or, set, arith, refl, sym, ◌∙◌, ap, inl, inr}
use Rattle.std.specs.Prelude.{nat_lt, nat_eq}
use Rattle.std.proofs.Math.ListN.{replicate}
use Rattle.std.proofs.lemmas.Bool.Decides.{nat_tests}
use Rattle.std.proofs.lemmas.Grind.{same_number_lists}
use Rattle.std.proofs.lemmas.List.{get_or-set_same, get_or-set_other, length-set, length-append, length-replicate, get_or-replicate, get_or_append_left}
use Rattle.std.proofs.lemmas.List.{get_or-append_right, get_or_past}

-- the first k elements are those of `new`, and the others those of `old`
pub record Filled (new old : List ℕ) (k : ℕ) (xs : List ℕ) : Type 0 where
  pub done : (j : ℕ) → j < k → get_or xs j 0 ≡ get_or new j 0
  pub left : (j : ℕ) → k ≤ j → get_or xs j 0 ≡ get_or old j 0

pub none_filled : (new old xs : List ℕ) → ((j : ℕ) → get_or xs j 0 ≡ get_or old j 0) → Filled new old 0 xs
none_filled new old xs h = record { done = λ j l. absurd (omega arith); left = λ j l. h j }

pub zeros : (n j : ℕ) → ◌≡◌ {A = ℕ} (get_or (replicate n 0) j 0) 0
zeros n j = go (nat_lt j n) refl
  where
    go : (t : Bool) → nat_lt j n ≡ t → ◌≡◌ {A = ℕ} (get_or (replicate n 0) j 0) 0
    go true e = get_or-replicate n j 0 0 (grind (arith, nat_tests))
    go false e =
        let l : n ≤ j = grind (arith, nat_tests) in
        let z : ℕ = 0 in
        let m : length (replicate n z) ≡ n = length-replicate n z in
        get_or_past (replicate n 0) j 0 (omega arith)

pub one_filled : (new old xs : List ℕ) (k v : ℕ) → Filled new old k xs → k < length xs → v ≡ get_or new k 0 → Filled new old (k + 1) (set xs k v)
one_filled new old xs k v h l e = record {
  done = λ j m. at j m (nat_eq j k) refl;
  left = λ j m. let ne : j ≢ k = (λ s. omega arith) in get_or-set_other xs k j v 0 ne ∙ h.left j (omega arith);
}
  where
    at : (j : ℕ) → j < k + 1 → (t : Bool) → nat_eq j k ≡ t → get_or (set xs k v) j 0 ≡ get_or new j 0
    at j m true t =
        let s : j ≡ k = grind (arith, nat_tests) in
        ap (λ (i : ℕ). get_or (set xs k v) i 0) s ∙ get_or-set_same xs k v 0 l ∙ e ∙ ap (λ (i : ℕ). get_or new i 0) (sym s)
    at j m false t =
        let ne : j ≢ k = (λ s. grind (arith, nat_tests)) in
        let less : j < k = omega arith in
        get_or-set_other xs k j v 0 ne ∙ h.done j less

either_way : (a b : ℕ) → (a < b) ⊎ (b ≤ a)
either_way a b = grind arith

-- the first n are filled, and the others were the same before
pub all_filled : (new old xs : List ℕ) (k n : ℕ) → length xs ≡ n → length new ≡ n → Filled new old k xs
    → ((j : ℕ) → k ≤ j → j < n → get_or old j 0 ≡ get_or new j 0) → xs ≡ new
all_filled new old xs k n a b h g = same_number_lists xs new (a ∙ sym b) (λ j l. at j l (either_way j k))
  where
    at : (j : ℕ) → j < length xs → (j < k) ⊎ (k ≤ j) → get_or xs j 0 ≡ get_or new j 0
    at j l (inl m) = h.done j m
    at j l (inr m) = h.left j m ∙ g j m (omega arith)

-- the first n, one more beyond those that were the same before
pub all_but_one : (new old xs : List ℕ) (k n v : ℕ) → length xs ≡ n + 1 → length new ≡ n + 1 → Filled new old k xs → k ≤ n
    → ((j : ℕ) → k ≤ j → j < n → get_or old j 0 ≡ get_or new j 0) → v ≡ get_or new n 0 → set xs n v ≡ new
all_but_one new old xs k n v a b h le g e =
    let s : length (set xs n v) ≡ length xs = length-set xs n v in
    same_number_lists (set xs n v) new (s ∙ a ∙ sym b) (λ j l. at j (omega arith) (nat_eq j n) refl)
  where
    below : (j : ℕ) → j < n → (j < k) ⊎ (k ≤ j) → get_or xs j 0 ≡ get_or new j 0
    below j l (inl m) = h.done j m
    below j l (inr m) = h.left j m ∙ g j m l

    at : (j : ℕ) → j < n + 1 → (t : Bool) → nat_eq j n ≡ t → get_or (set xs n v) j 0 ≡ get_or new j 0
    at j l true t =
        let s : j ≡ n = grind (arith, nat_tests) in
        ap (λ (i : ℕ). get_or (set xs n v) i 0) s ∙ get_or-set_same xs n v 0 (omega arith) ∙ e ∙ ap (λ (i : ℕ). get_or new i 0) (sym s)
    at j l false t =
        let ne : j ≢ n = (λ s. grind (arith, nat_tests)) in
        let less : j < n = omega arith in
        get_or-set_other xs n j v 0 ne ∙ below j less (either_way j k)

-- a list, and 0 after it
pub padded : (new xs : List ℕ) (n total : ℕ) → length xs ≡ total → length new ≡ n → n ≤ total → Filled new [] n xs → xs ≡ new ++ replicate (total - n) 0
padded new xs n total a b le h =
    let rest : List ℕ = replicate (total - n) 0 in
    let c : length (new ++ rest) ≡ length new + length rest = length-append new rest in
    let d : length rest ≡ total - n = length-replicate (total - n) 0 in
    same_number_lists xs (new ++ rest) (omega arith) (λ j l. at j (either_way j n))
  where
    at : (j : ℕ) → (j < n) ⊎ (n ≤ j) → get_or xs j 0 ≡ get_or (new ++ replicate (total - n) 0) j 0
    at j (inl m) = h.done j m ∙ sym (get_or_append_left new (replicate (total - n) 0) 0 j (omega arith))
    at j (inr m) = h.left j m ∙ sym (get_or-append_right new (replicate (total - n) 0) n j 0 b m ∙ zeros (total - n) (j - n))
