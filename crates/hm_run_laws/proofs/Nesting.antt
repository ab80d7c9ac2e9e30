-- The priorities of active exceptions are eight and fall, so that at most eight are active.
use Rattle.std.proofs.Common.{◌≡◌, ℕ, suc, ◌+◌, ◌-◌, ◌*◌, ◌%◌, ◌<◌, ◌≤◌, Bool, true, false, cond, ◌&&◌, ◌==◌, nat_lt, List, [], ◌∷◌, length, get_or, Option}
use Rattle.std.proofs.Common.{Some, arith, refl, sym, ap, subst}
use Rattle.std.specs.Prelude.{All, min}
use Rattle.std.proofs.Math.Nat.{min-eq_left, min-le_right}
use Rattle.std.proofs.lemmas.Bool.Decides.{nat_tests}
use Rattle.std.proofs.lemmas.List.{get_or_past}
use Rattle.std.proofs.lemmas.List.Elements.{All-get_or}
use Rattle.hm_run_laws.specs.Levels.{HasLevels, IsLevel}
use Rattle.hm_mem.specs.Devices.{open_devices}
use Rattle.hm_mem.specs.declared.Dev.{Dev}
use Rattle.hm_order.proofs.Results.{decide}
use Rattle.hm_sys.proofs.Picked.{best_below, waits}
use Rattle.hm_sys.specs.Best.{IsBest, IsFirst}
use Rattle.hm_sys.specs.Exceptions.{IsException, end_number, is_waiting, picked, priority_of, tick_number}
use Rattle.hm_run_laws.specs.Entries.{least_active, running_priority}
use Rattle.hm_run_laws.specs.Nested.{Interrupted}
use Rattle.hm_run_laws.specs.Sound.{AreUrgent}

-- DEVICES that agree on what a thread may read of them have the same priorities.
module _ (d e : Dev) (same : open_devices e ≡ open_devices d) where
  same_priority : (n : ℕ) → priority_of e n ≡ priority_of d n
  same_priority n = ap (λ (v : Dev). priority_of v n) same

  same_least : (acts : List Interrupted) → least_active e acts ≡ least_active d acts
  same_least [] = refl
  same_least (x ∷ acts) = λ j. min (same_priority x.stacked.number j) (same_least acts j)

  less : (p q k l : ℕ) → q ≡ p → l ≡ k → p < k → q < l
  less p q k l a b h = omega arith

  pub urgent_over : (n : ℕ) (acts : List Interrupted) → priority_of d n < least_active d acts → priority_of e n < least_active e acts
  urgent_over n acts h = less (priority_of d n) (priority_of e n) (least_active d acts) (least_active e acts) (same_priority n) (same_least acts) h

  pub urgent_same : (acts : List Interrupted) → AreUrgent d acts → AreUrgent e acts
  urgent_same [] h = tt
  urgent_same (x ∷ acts) h = (urgent_over x.stacked.number acts h.0, urgent_same acts h.1)

  pub levels_same : HasLevels d → HasLevels e
  levels_same h = record {
    interrupts = subst (λ (v : Dev). All IsLevel v.prio) (sym same) h.interrupts;
    tick = subst (λ (v : Dev). IsLevel v.tick_prio) (sym same) h.tick;
  }

-- HOW MANY
level_at : (ps : List ℕ) (k : ℕ) → All IsLevel ps → IsLevel (get_or ps k 0)
level_at ps k h = decide (nat_lt k (length ps))
    (λ there. All-get_or IsLevel ps k 0 (grind (arith, nat_tests)) h)
    (λ past. let far : length ps ≤ k = grind (arith, nat_tests) in subst IsLevel (sym (get_or_past ps k 0 far)) (refl, omega arith))

module _ (d : Dev) (levels : HasLevels d) where
  level_of : (n : ℕ) → IsLevel (priority_of d n)
  level_of n = by_number (n == tick_number)
    where
      by_number : (b : Bool) → IsLevel (cond b d.tick_prio (get_or d.prio (n - 16) 0))
      by_number true = levels.tick
      by_number false = level_at d.prio (n - 16) levels.interrupts

  -- 32 between each two
  abbrev Apart : ℕ → ℕ → Type 0
  Apart l count = (l % 32 ≡ 0) × (l + 32 * count ≤ 256)

  one_more : (p l m count : ℕ) → p % 32 ≡ 0 → p < l → m ≡ p → Apart l count → Apart m (suc count)
  one_more p l m count level below is h = let a : l % 32 ≡ 0 = h.0 in let b : l + 32 * count ≤ 256 = h.1 in (omega arith, omega arith)

  under : {p l : ℕ} → p < l → p ≤ l
  under h = omega arith

  least_apart : (acts : List Interrupted) → AreUrgent d acts → Apart (least_active d acts) (length acts)
  least_apart [] h = (refl, omega arith)
  least_apart (x ∷ acts) h =
      one_more (priority_of d x.stacked.number) (least_active d acts) (least_active d (x ∷ acts)) (length acts) (level_of x.stacked.number).0 h.0
      (min-eq_left (under h.0)) (least_apart acts h.1)

  pub most_active : (acts : List Interrupted) → AreUrgent d acts → length acts ≤ 8
  most_active acts h = let both = least_apart acts h in let b : least_active d acts + 32 * length acts ≤ 256 = both.1 in omega arith

  pub room_for : (p : ℕ) (acts : List Interrupted) → p < least_active d acts → AreUrgent d acts → length acts < 8
  room_for p acts below h =
      let both = least_apart acts h in
      let a : least_active d acts % 32 ≡ 0 = both.0 in
      let b : least_active d acts + 32 * length acts ≤ 256 = both.1 in
      omega arith

-- WHAT IS PICKED is an exception more urgent than all that are active
module _ (d : Dev) (mask : ℕ) (acts : List Interrupted) (e : ℕ) (h : picked d (running_priority d mask acts) ≡ Some e) where
  first : IsFirst d (running_priority d mask acts) end_number e
  first = subst (λ (o : Option ℕ). IsBest d (running_priority d mask acts) end_number o) h (best_below d (running_priority d mask acts) end_number)

  pub picked_number : IsException e
  picked_number = waits d (running_priority d mask acts) e first.eligible

  tested : (w : Bool) (p c : ℕ) → (w && nat_lt p c) ≡ true → p < c
  tested true p c t = grind (arith, nat_tests)
  tested false p c t = absurd cc

  unmasked : (m p l : ℕ) → p < min m l → p < l
  unmasked m p l t = let least : min m l ≤ l = min-le_right m l in omega arith

  pub picked_urgent : priority_of d e < least_active d acts
  picked_urgent =
      unmasked mask (priority_of d e) (least_active d acts) (tested (is_waiting d e) (priority_of d e) (running_priority d mask acts) first.eligible)
