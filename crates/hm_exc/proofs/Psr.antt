-- xPSR: its fields, and the position and the IT byte in it.
use Rattle.std.proofs.Common.{◌≡◌, ℕ, ◌+◌, ◌*◌, ◌/◌, ◌%◌, ◌^◌, ◌<◌, ◌⊎◌, Bool, true, false, arith, refl, sym, ◌∙◌, ap, subst, inl, inr, eqb-true}
use Rattle.std.specs.Prelude.{◌&&◌, ◌==◌, if◌then◌else◌, Option, Some}
use Rattle.std.proofs.lemmas.Bool.Decides.{nat_tests}
use Rattle.std.specs.Option.{unwrap_or}
use Rattle.hm_base.specs.Bits.{field}
use Rattle.hm_exc.specs.Entry.{CanEnter}
use Rattle.hm_exc.specs.Frame.{between, eci_of, flags, is_between, progress, psr_window, xpsr}
use Rattle.hm_state.specs.State.{bit}
use Rattle.hm_regs.specs.declared.Regs.{Regs}
use Rattle.hm_window.specs.Positions.{may_end, window_of}
use Rattle.hm_window.specs.declared.rule.Window.{Window}

-- ECI: the positions at which a tick may end, one by one
four : (a : ℕ) → a < 4 → (a ≡ 0) ⊎ ((a ≡ 1) ⊎ ((a ≡ 2) ⊎ (a ≡ 3)))
four a h = grind arith

cases : (a b : ℕ) → may_end a b ≡ true → ((b ≡ 0) × (a < 4)) ⊎ ((a ≡ 3) × (b ≡ 1))
cases a b h = grind (arith, nat_tests)

pub eci-back : (w : Window) → may_end w.a w.b ≡ true → window_of (eci_of w) ≡ Some w
eci-back w h = by_cases (cases w.a w.b h)
  where
    at : (a b : ℕ) → w.a ≡ a → w.b ≡ b → window_of (eci_of (record { a = a; b = b })) ≡ Some (record { a = a; b = b }) → window_of (eci_of w) ≡ Some w
    at a b e f h =
        let same : record { a = a; b = b } ≡ w = (λ j. record { a = sym e j; b = sym f j }) in
        subst (λ (v : Window). window_of (eci_of v) ≡ Some v) same h

    by_count : w.b ≡ 0 → (w.a ≡ 0) ⊎ ((w.a ≡ 1) ⊎ ((w.a ≡ 2) ⊎ (w.a ≡ 3))) → window_of (eci_of w) ≡ Some w
    by_count b (inl e) = at 0 0 e b refl
    by_count b (inr (inl e)) = at 1 0 e b refl
    by_count b (inr (inr (inl e))) = at 2 0 e b refl
    by_count b (inr (inr (inr e))) = at 3 0 e b refl

    by_cases : ((w.b ≡ 0) × (w.a < 4)) ⊎ ((w.a ≡ 3) × (w.b ≡ 1)) → window_of (eci_of w) ≡ Some w
    by_cases (inl c) = by_count c.0 (four w.a c.1)
    by_cases (inr c) = at 3 1 c.0 c.1 refl

pub eci-below : (w : Window) → may_end w.a w.b ≡ true → eci_of w < 8
eci-below w h = elim (cases w.a w.b h) [ inl c ↦ grind (arith, nat_tests) | inr c ↦ grind (arith, nat_tests) ]

-- THE FIELDS OF A SUM
module _ (a b c d e i h s n : ℕ) (ba : a < 2) (bb : b < 2) (bc : c < 2) (bd : d < 2) (be : e < 2) (bi : i < 4) (bh : h < 64) (bs : s < 2) (bn : n < 512) where
  abbrev total : ℕ
  total = (16 * a + 8 * b + 4 * c + 2 * d + e) * 2 ^ 27 + (i * 2 ^ 25 + h * 2 ^ 10) + 2 ^ 24 + s * 2 ^ 9 + n

  pub at_31 : total / 2 ^ 31 % 2 ≡ a
  at_31 = omega arith

  pub at_30 : total / 2 ^ 30 % 2 ≡ b
  at_30 = omega arith

  pub at_29 : total / 2 ^ 29 % 2 ≡ c
  at_29 = omega arith

  pub at_28 : total / 2 ^ 28 % 2 ≡ d
  at_28 = omega arith

  pub at_27 : total / 2 ^ 27 % 2 ≡ e
  at_27 = omega arith

  pub at_25 : total / 2 ^ 25 % 4 ≡ i
  at_25 = omega arith

  pub at_10 : total / 2 ^ 10 % 64 ≡ h
  at_10 = omega arith

  pub at_9 : total / 2 ^ 9 % 2 ≡ s
  at_9 = omega arith

  pub at_0 : total % 512 ≡ n
  at_0 = omega arith

  pub total_below : total < 2 ^ 32
  total_below = omega arith

-- the two numbers that stand in bits 26:25 and 15:10
abbrev pub upper : ℕ → Window → ℕ
upper it w = if is_between w then it % 4 else 0

abbrev pub lower : ℕ → Window → ℕ
lower it w = if is_between w then it / 4 else eci_of w * 4

pub progress_is : (it : ℕ) (w : Window) → progress it w ≡ upper it w * 2 ^ 25 + lower it w * 2 ^ 10
progress_is it w = go (is_between w)
  where
    go : (t : Bool) → (if t then it % 4 * 2 ^ 25 + it / 4 * 2 ^ 10 else eci_of w * 2 ^ 12)
        ≡ (if t then it % 4 else 0) * 2 ^ 25 + (if t then it / 4 else eci_of w * 4) * 2 ^ 10
    go true = refl
    go false = omega arith

pub upper_below : (it : ℕ) (w : Window) → upper it w < 4
upper_below it w = go (is_between w)
  where
    go : (t : Bool) → (if t then it % 4 else 0) < 4
    go true = omega arith
    go false = omega arith

pub lower_below : (it : ℕ) (w : Window) → it < 256 → may_end w.a w.b ≡ true → lower it w < 64
lower_below it w h m = let e : eci_of w < 8 = eci-below w m in go (is_between w) e
  where
    go : (t : Bool) → eci_of w < 8 → (if t then it / 4 else eci_of w * 4) < 64
    go true e = omega arith
    go false e = omega arith

pub bit_below : (b : Bool) → bit b < 2
bit_below true = omega arith
bit_below false = omega arith

pub bit_told : (b : Bool) (x : ℕ) → x ≡ bit b → (x == 1) ≡ b
bit_told true x e = grind (arith, nat_tests)
bit_told false x e = grind (arith, nat_tests)

-- THE FIELDS OF xPSR
module _ (r : Regs) (w : Window) (k : CanEnter r w) (bit8 : r.it < 256) where
  psr_is : xpsr r w ≡ flags r * 2 ^ 27 + (upper r.it w * 2 ^ 25 + lower r.it w * 2 ^ 10) + 2 ^ 24 + r.sp / 4 % 2 * 2 ^ 9 + r.ipsr
  unfolding xpsr
  psr_is = ap (λ (p : ℕ). flags r * 2 ^ 27 + p + 2 ^ 24 + r.sp / 4 % 2 * 2 ^ 9 + r.ipsr) (progress_is r.it w)

  ba : bit r.n < 2
  ba = bit_below r.n

  bb : bit r.z < 2
  bb = bit_below r.z

  bc : bit r.c < 2
  bc = bit_below r.c

  bd : bit r.v < 2
  bd = bit_below r.v

  be : bit r.q < 2
  be = bit_below r.q

  bi : upper r.it w < 4
  bi = upper_below r.it w

  bh : lower r.it w < 64
  bh = lower_below r.it w bit8 k.position

  bs : r.sp / 4 % 2 < 2
  bs = omega arith

  pub psr-n : xpsr r w / 2 ^ 31 % 2 ≡ bit r.n
  psr-n = ap (λ (x : ℕ). x / 2 ^ 31 % 2) psr_is
      ∙ at_31 (bit r.n) (bit r.z) (bit r.c) (bit r.v) (bit r.q) (upper r.it w) (lower r.it w) (r.sp / 4 % 2) r.ipsr ba bb bc bd be bi bh bs k.number

  pub psr-z : xpsr r w / 2 ^ 30 % 2 ≡ bit r.z
  psr-z = ap (λ (x : ℕ). x / 2 ^ 30 % 2) psr_is
      ∙ at_30 (bit r.n) (bit r.z) (bit r.c) (bit r.v) (bit r.q) (upper r.it w) (lower r.it w) (r.sp / 4 % 2) r.ipsr ba bb bc bd be bi bh bs k.number

  pub psr-c : xpsr r w / 2 ^ 29 % 2 ≡ bit r.c
  psr-c = ap (λ (x : ℕ). x / 2 ^ 29 % 2) psr_is
      ∙ at_29 (bit r.n) (bit r.z) (bit r.c) (bit r.v) (bit r.q) (upper r.it w) (lower r.it w) (r.sp / 4 % 2) r.ipsr ba bb bc bd be bi bh bs k.number

  pub psr-v : xpsr r w / 2 ^ 28 % 2 ≡ bit r.v
  psr-v = ap (λ (x : ℕ). x / 2 ^ 28 % 2) psr_is
      ∙ at_28 (bit r.n) (bit r.z) (bit r.c) (bit r.v) (bit r.q) (upper r.it w) (lower r.it w) (r.sp / 4 % 2) r.ipsr ba bb bc bd be bi bh bs k.number

  pub psr-q : xpsr r w / 2 ^ 27 % 2 ≡ bit r.q
  psr-q = ap (λ (x : ℕ). x / 2 ^ 27 % 2) psr_is
      ∙ at_27 (bit r.n) (bit r.z) (bit r.c) (bit r.v) (bit r.q) (upper r.it w) (lower r.it w) (r.sp / 4 % 2) r.ipsr ba bb bc bd be bi bh bs k.number

  pub psr-upper : xpsr r w / 2 ^ 25 % 4 ≡ upper r.it w
  psr-upper = ap (λ (x : ℕ). x / 2 ^ 25 % 4) psr_is
      ∙ at_25 (bit r.n) (bit r.z) (bit r.c) (bit r.v) (bit r.q) (upper r.it w) (lower r.it w) (r.sp / 4 % 2) r.ipsr ba bb bc bd be bi bh bs k.number

  pub psr-lower : xpsr r w / 2 ^ 10 % 64 ≡ lower r.it w
  psr-lower = ap (λ (x : ℕ). x / 2 ^ 10 % 64) psr_is
      ∙ at_10 (bit r.n) (bit r.z) (bit r.c) (bit r.v) (bit r.q) (upper r.it w) (lower r.it w) (r.sp / 4 % 2) r.ipsr ba bb bc bd be bi bh bs k.number

  pub psr-aligned : xpsr r w / 2 ^ 9 % 2 ≡ r.sp / 4 % 2
  psr-aligned = ap (λ (x : ℕ). x / 2 ^ 9 % 2) psr_is
      ∙ at_9 (bit r.n) (bit r.z) (bit r.c) (bit r.v) (bit r.q) (upper r.it w) (lower r.it w) (r.sp / 4 % 2) r.ipsr ba bb bc bd be bi bh bs k.number

  pub psr-number : xpsr r w % 512 ≡ r.ipsr
  psr-number = ap (λ (x : ℕ). x % 512) psr_is
      ∙ at_0 (bit r.n) (bit r.z) (bit r.c) (bit r.v) (bit r.q) (upper r.it w) (lower r.it w) (r.sp / 4 % 2) r.ipsr ba bb bc bd be bi bh bs k.number

  pub psr-below : xpsr r w < 2 ^ 32
  psr-below = subst (λ (x : ℕ). x < 2 ^ 32) (sym psr_is)
      (total_below (bit r.n) (bit r.z) (bit r.c) (bit r.v) (bit r.q) (upper r.it w) (lower r.it w) (r.sp / 4 % 2) r.ipsr ba bb bc bd be bi bh bs k.number)

  -- the position, and the IT byte
  low_two : field 10 2 (xpsr r w) ≡ lower r.it w % 4
  unfolding field
  low_two = let e : xpsr r w / 2 ^ 10 % 64 ≡ lower r.it w = psr-lower in omega arith

  high_four : field 12 4 (xpsr r w) ≡ lower r.it w / 4
  unfolding field
  high_four = let e : xpsr r w / 2 ^ 10 % 64 ≡ lower r.it w = psr-lower in omega arith

  two : field 25 2 (xpsr r w) ≡ upper r.it w
  unfolding field
  two = psr-upper

  starts : is_between w ≡ true → w ≡ between
  starts h = let a : w.a ≡ 0 = grind (arith, nat_tests) in let b : w.b ≡ 0 = grind (arith, nat_tests) in λ j. record { a = a j; b = b j }

  seen_as : (p q e : ℕ) → field 25 2 (xpsr r w) ≡ p → field 10 2 (xpsr r w) ≡ q → field 12 4 (xpsr r w) ≡ e
      → psr_window (xpsr r w) ≡ (if p == 0 && q == 0 then unwrap_or (window_of e) between else between)
  seen_as p q e f g h = λ j. if f j == 0 && g j == 0 then unwrap_or (window_of (h j)) between else between

  -- between two instructions an IT byte of 0 has the ECI of that position, and any other shows itself
  no_block : (it : ℕ) → (it % 16 ≡ 0 → it ≡ 0) → (if it % 4 == 0 && it / 4 % 4 == 0 then unwrap_or (window_of (it / 4 / 4)) between else between) ≡ between
  no_block it h = go (it % 4 == 0) (it / 4 % 4 == 0) refl refl
    where
      go : (p q : Bool) → (it % 4 == 0) ≡ p → (it / 4 % 4 == 0) ≡ q → (if p && q then unwrap_or (window_of (it / 4 / 4)) between else between) ≡ between
      go true true a b =
          let e : it % 4 ≡ 0 = eqb-true _ _ a in
          let f : it / 4 % 4 ≡ 0 = eqb-true _ _ b in
          let z : it ≡ 0 = h (omega arith) in
          let y : it / 4 / 4 ≡ 0 = omega arith in
          ap (λ (x : ℕ). unwrap_or (window_of x) between) y
      go true false a b = refl
      go false q a b = refl

  pub psr-window : psr_window (xpsr r w) ≡ w
  psr-window = go (is_between w) refl
    where
      go : (t : Bool) → is_between w ≡ t → psr_window (xpsr r w) ≡ w
      go true t =
          let u : upper r.it w ≡ r.it % 4 = ap (λ (b : Bool). if b then r.it % 4 else 0) t in
          let l : lower r.it w ≡ r.it / 4 = ap (λ (b : Bool). if b then r.it / 4 else eci_of w * 4) t in
          seen_as (r.it % 4) (r.it / 4 % 4) (r.it / 4 / 4) (two ∙ u) (low_two ∙ ap (λ (x : ℕ). x % 4) l) (high_four ∙ ap (λ (x : ℕ). x / 4) l)
          ∙ no_block r.it k.block ∙ sym (starts t)
      go false t =
          let u : upper r.it w ≡ 0 = ap (λ (b : Bool). if b then r.it % 4 else 0) t in
          let l : lower r.it w ≡ eci_of w * 4 = ap (λ (b : Bool). if b then r.it / 4 else eci_of w * 4) t in
          let q : lower r.it w % 4 ≡ 0 = omega arith in
          let e : lower r.it w / 4 ≡ eci_of w = omega arith in
          seen_as 0 0 (eci_of w) (two ∙ u) (low_two ∙ q) (high_four ∙ e) ∙ ap (λ (o : Option Window). unwrap_or o between) (eci-back w k.position)

  pub psr-block : (if is_between w then xpsr r w / 2 ^ 25 % 4 + 4 * (xpsr r w / 2 ^ 10 % 64) else 0) ≡ r.it
  psr-block = go (is_between w) refl
    where
      go : (t : Bool) → is_between w ≡ t → (if t then xpsr r w / 2 ^ 25 % 4 + 4 * (xpsr r w / 2 ^ 10 % 64) else 0) ≡ r.it
      go true t =
          let u : xpsr r w / 2 ^ 25 % 4 ≡ r.it % 4 = psr-upper ∙ ap (λ (b : Bool). if b then r.it % 4 else 0) t in
          let l : xpsr r w / 2 ^ 10 % 64 ≡ r.it / 4 = psr-lower ∙ ap (λ (b : Bool). if b then r.it / 4 else eci_of w * 4) t in
          omega arith
      go false t = sym (k.inside t)
