-- Every text ends: behind its start there is a byte that can't be loaded, nearer than the most bytes of a text.
use Rattle.std.proofs.Common.{◌≡◌, ◌⊎◌, ℕ, zero, suc, ◌+◌, ◌-◌, ◌%◌, ◌^◌, ◌<◌, ◌≤◌, Bool, true, false, inl, inr, List, [], arith, refl, ap, sym, subst, cond}
use Rattle.std.proofs.Common.{◌∙◌}
use Rattle.std.proofs.lemmas.Bool.Decides.{nat_tests}
use Rattle.std.specs.Prelude.{Some, Result, Ok, nat_eq, nat_le, nat_lt}
use native.Mathlib.Nat.{mod-eq_of_lt}
use Rattle.hm_base.specs.declared.FaultKind.{FaultKind}
use Rattle.hm_base.specs.declared.FaultKind.TheVariants.{Bus}
use Rattle.hm_mem.specs.Devices.{has_width, device_word}
use Rattle.hm_mem.specs.Memory.{thread_under, Bounds}
use Rattle.hm_mem.specs.Seen.{Seen, fault_kind, is_barred, read, stop_after}
use Rattle.hm_base.specs.Results.{unless}
use Rattle.hm_mem.specs.declared.Actor.TheVariants.{Thread}
use Rattle.hm_mem.specs.declared.Access.TheVariants.{Scalar}
use Rattle.hm_thumb.specs.Calls.{more, most_text, text}
use Rattle.hm_thumb.specs.Does.{Runner, alone, behind, fault_at, in_machine}

-- a byte that no thread can load
abbrev pub IsBad : ℕ → Type 0
IsBad a = (k : FaultKind) × (fault_kind true Scalar false 1 a ≡ Some k)

-- the widths of devices: the words of priorities alone are read by bytes
narrow : (a : ℕ) → has_width (device_word a) 1 ≡ true → ((0xe000e400 ≤ a) × (a < 0xe000e4f0)) ⊎ ((0xe000ed20 ≤ a) × (a < 0xe000ed24))
narrow a h = grind (arith, nat_tests, h)

-- where no byte is flash, SRAM or a priority, it is bad
bad : (a : ℕ) → 0x100000 ≤ a → (a < 0x20000000) ⊎ (0x20040000 ≤ a) → has_width (device_word a) 1 ≡ false → IsBad a
bad a past (inl below) narrow = (Bus, grind arith)
bad a past (inr above) narrow = (Bus, grind arith)

most_is : most_text ≡ 0x100001
unfolding most_text
most_is = refl

module _ {E : Type 0} (R : Runner E) (s : Seen) where
  abbrev rest : ℕ → Result (List ℕ) E → Result (List ℕ) E
  rest a r = unless (R.stop Scalar false 1 a s) (cond (nat_eq (read 1 a s) 0) (Ok []) (more (read 1 a s) r))

  abbrev pub Stops : ℕ → Type 0
  Stops a = (e : E) × (R.stop Scalar false 1 a s ≡ Some e)

  -- behind a byte that stops nothing is read
  nothing_behind : (a : ℕ) (r q : Result (List ℕ) E) → Stops a → rest a r ≡ rest a q
  nothing_behind a r q h =
      (λ j. unless (h.1 j) (cond (nat_eq (read 1 a s) 0) (Ok []) (more (read 1 a s) r)))
      ∙ sym (λ j. unless (h.1 j) (cond (nat_eq (read 1 a s) 0) (Ok []) (more (read 1 a s) q)))

  more_is_same : (n m d a : ℕ) → d < n → n ≤ m → a + d < 2 ^ 32 → Stops (a + d) → text R m a s ≡ text R n a s
  more_is_same zero m d a near up fits h = absurd (omega (arith, near))
  more_is_same (suc n) zero d a near up fits h = absurd (omega (arith, up))
  more_is_same (suc n) (suc m) zero a near up fits h = nothing_behind a (text R m (behind 1 a) s) (text R n (behind 1 a) s) (subst Stops (omega arith) h)
  more_is_same (suc n) (suc m) (suc d) a near up fits h =
      let next : (a + 1) % 2 ^ 32 ≡ a + 1 = mod-eq_of_lt (omega (arith, fits)) in
      ap (rest a) (subst (λ b. text R m b s ≡ text R n b s) (sym next)
      (more_is_same n m d (a + 1) (omega (arith, near)) (omega (arith, up)) (omega (arith, fits)) (subst Stops (omega arith) h)))

  -- from each byte on there is one that stops, nearer than the most bytes of a text
  abbrev pub IsEnded : Type 0
  IsEnded = (a : ℕ) → IsBad a → Stops a

  -- as many bytes as stand before a bad one are enough
  enough_to : IsEnded → (m a b : ℕ) → most_text ≤ m → IsBad b → a ≤ b → b < 2 ^ 32 → b - a < most_text → text R m a s ≡ text R most_text a s
  enough_to ended m a b up is before fits near =
      more_is_same most_text m (b - a) a near up (subst (λ c. c < 2 ^ 32) (omega (arith, before)) fits) (subst Stops (omega (arith, before)) (ended b is))

  enough_here : IsEnded → (m a : ℕ) → most_text ≤ m → a < 2 ^ 32 → IsBad a → text R m a s ≡ text R most_text a s
  enough_here ended m a up fits is = enough_to ended m a a up is (omega arith) fits (omega (arith, most_is))

  -- by where the text begins: in flash; before SRAM or behind it, at a priority or not; or in SRAM
  by_priority : IsEnded → (m a : ℕ) → most_text ≤ m → a < 2 ^ 32 → 0x100000 ≤ a → (a < 0x20000000) ⊎ (0x20040000 ≤ a)
      → (b : Bool) → has_width (device_word a) 1 ≡ b → text R m a s ≡ text R most_text a s
  by_priority ended m a up fits past outside false e = enough_here ended m a up fits (bad a past outside e)
  by_priority ended m a up fits past outside true e = at_priority (narrow a e)
    where
      at_priority : ((0xe000e400 ≤ a) × (a < 0xe000e4f0)) ⊎ ((0xe000ed20 ≤ a) × (a < 0xe000ed24)) → text R m a s ≡ text R most_text a s
      at_priority (inl h) = enough_to ended m a 0xe000e4f0 up (Bus, refl) (omega (arith, h.1)) (omega arith) (omega (arith, most_is, h.0))
      at_priority (inr h) = enough_to ended m a 0xe000ed24 up (Bus, refl) (omega (arith, h.1)) (omega arith) (omega (arith, most_is, h.0))

  by_sram : IsEnded → (m a : ℕ) → most_text ≤ m → a < 2 ^ 32 → 0x100000 ≤ a → (b c : Bool) → nat_lt a 0x20000000 ≡ b → nat_le 0x20040000 a ≡ c
      → text R m a s ≡ text R most_text a s
  by_sram ended m a up fits past true c below above = by_priority ended m a up fits past (inl (grind (arith, nat_tests))) (has_width (device_word a) 1) refl
  by_sram ended m a up fits past false true below above = by_priority ended m a up fits past (inr (grind (arith, nat_tests))) (has_width (device_word a) 1) refl
  by_sram ended m a up fits past false false below above =
      let low : 0x20000000 ≤ a = grind (arith, nat_tests) in
      let high : a < 0x20040000 = grind (arith, nat_tests) in
      enough_to ended m a 0x20040000 up (Bus, refl) (omega (arith, high)) (omega arith) (omega (arith, most_is, low))

  by_flash : IsEnded → (m a : ℕ) → most_text ≤ m → a < 2 ^ 32 → (b : Bool) → nat_lt a 0x100000 ≡ b → text R m a s ≡ text R most_text a s
  by_flash ended m a up fits true e =
      let low : a < 0x100000 = grind (arith, nat_tests) in
      enough_to ended m a 0x100000 up (Bus, refl) (omega (arith, low)) (omega arith) (omega (arith, most_is))
  by_flash ended m a up fits false e = by_sram ended m a up fits (grind (arith, nat_tests)) (nat_lt a 0x20000000) (nat_le 0x20040000 a) refl refl

  pub enough : IsEnded → (m a : ℕ) → most_text ≤ m → a < 2 ^ 32 → text R m a s ≡ text R most_text a s
  enough ended m a up fits = by_flash ended m a up fits (nat_lt a 0x100000) refl

pub enough-alone : (s : Seen) (m a : ℕ) → most_text ≤ m → a < 2 ^ 32 → text alone m a s ≡ text alone most_text a s
enough-alone s = enough alone s (λ a is. (_, λ j. fault_at (is.1 j) a))

pub enough-machine : (bounds : Bounds) (s : Seen) (m a : ℕ) → most_text ≤ m → a < 2 ^ 32
    → text (in_machine (thread_under bounds)) m a s ≡ text (in_machine (thread_under bounds)) most_text a s
enough-machine bounds s = enough (in_machine (thread_under bounds)) s (λ a is. (_, λ j. stop_after (is.1 j) (is_barred Thread bounds false 1 a s) false a))
