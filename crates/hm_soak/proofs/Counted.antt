-- Entries that are counted along a run.
use Rattle.std.proofs.Common.{◌≡◌, ℕ, suc, ◌+◌, ◌^◌, ◌<◌, ◌≤◌, Bool, cond, not, ◌&&◌, List, length, nat_eq, nat_le, refl, sym, ap, ◌∙◌}
use Rattle.std.proofs.Common.{subst, arith, Option, Some, None}
use Rattle.std.proofs.lemmas.Bool.Decides.{nat_tests}
use Rattle.hm_base.specs.Image.{Segment, flash_byte}
use Rattle.hm_codes.proofs.Exists.{exists}
use Rattle.hm_codes.specs.Listing.{IsListing, Listing}
use Rattle.hm_run_laws.proofs.TickCounts.{closed_ticks}
use Rattle.hm_run_laws.specs.Runs.{Run, begin, run}
use Rattle.hm_run_laws.proofs.Ends.{closed_on}
use Rattle.hm_machine.proofs.Ticks.{shows_end, shows_past}
use Rattle.hm_machine.specs.Shown.{Shown, Shows, fixed_of, timed_of}
use Rattle.hm_order.proofs.Results.{decide}
use Rattle.hm_run.specs.declared.Outcome.{Outcome}
use Rattle.hm_sched.proofs.Ticks.{length-ticks_of}
use Rattle.hm_sched.specs.Schedule.{Sched, ticks_of}
use Rattle.hm_soak.specs.Runs.{CountsEntries, IsOver}
use Rattle.hm_soak_laws.proofs.Schedules.{total_is}
use Rattle.hm_soak_laws.specs.Schedule.{schedule}
use Rattle.hm_soak_laws.specs.Summary.{entered, in_thread}
use Rattle.hm_state.specs.State.{regs_of}

-- a machine shows its run after the ticks that were begun, in which so many handlers were entered
pub record CountedTo (image : List Segment) (s : Sched) (m : Shown) (e : ℕ) : Type 0 where
  pub shows : Shows image s m.ticks m
  pub counts : (listing : Listing) → IsListing (flash_byte image) listing → e ≡ entered listing image s m.ticks

module _ (image : List Segment) (s : Sched) where
  at_start : (m : Shown) → Shows image s 0 m → m.ticks ≡ 0
  at_start m h =
      let there = exists (flash_byte image) in
      ap (λ (r : Run). r.ticks) (h.now there.0 there.1) ∙ closed_ticks (ticks_of s.lines) (begin image s)

  pub counted_none : (m : Shown) → Shows image s 0 m → CountedTo image s m 0
  counted_none m h =
      let e = at_start m h in
      record { shows = subst (λ (t : ℕ). Shows image s t m) (sym e) h; counts = λ listing is. ap (entered listing image s) (sym e) }

  thread_is : (t : ℕ) (m : Shown) (listing : Listing) → Shows image s t m → IsListing (flash_byte image) listing
      → nat_eq (regs_of (timed_of m).config.state).ipsr 0 ≡ in_thread (run listing image s t)
  thread_is t m listing h is = ap in_thread (h.now listing is)

  pub counted_next : (m n : Shown) (e f : ℕ) (begins ends : Bool) → CountedTo image s m e → Shows image s (suc m.ticks) n → n.ticks ≡ m.ticks + 1
      → begins ≡ nat_eq (regs_of (timed_of m).config.state).ipsr 0
      → ends ≡ nat_eq (regs_of (timed_of n).config.state).ipsr 0 → f ≡ e + cond (begins && not ends) 1 0 → CountedTo image s n f
  counted_next m n e f begins ends c h once before after sum =
      let t : n.ticks ≡ suc m.ticks = omega arith in
      record {
        shows = subst (λ (k : ℕ). Shows image s k n) (sym t) h;
        counts = λ listing is.
            let b : begins ≡ in_thread (run listing image s m.ticks) = before ∙ thread_is m.ticks m listing c.shows is in
            let d : ends ≡ in_thread (run listing image s (suc m.ticks)) = after ∙ thread_is (suc m.ticks) n listing h is in
            let so_far = c.counts listing is in
            sum ∙ (λ j. so_far j + cond (b j && not (d j)) 1 0) ∙ ap (entered listing image s) (sym t);
      }

  over : (m : Shown) (o : Outcome) → Shows image s m.ticks m → m.outcome ≡ Some o → Shows image s (length (ticks_of s.lines)) m
  over m o h out = decide (nat_le m.ticks (length (ticks_of s.lines)))
      (λ within. let le : m.ticks ≤ length (ticks_of s.lines) = grind (arith, nat_tests, within) in
      shows_end image s m.ticks (length (ticks_of s.lines)) m o out le h)
      (λ past. let le : length (ticks_of s.lines) ≤ m.ticks = grind (arith, nat_tests, past) in (shows_past image s m.ticks m le h).1)

  pub counted_over : (m : Shown) (e : ℕ) (o : Outcome) → CountedTo image s m e → m.outcome ≡ Some o → IsOver image s m × CountsEntries image s e
  counted_over m e o c out =
      let end = over m o c.shows out in
      (record { shows = end }, record { counts = λ listing is. c.counts listing is ∙ ap (λ (r : Run). entered listing image s r.ticks) (end.now listing is) })

pub one_at_most : (b : Bool) → cond b 1 0 ≤ 1
one_at_most b = grind arith

-- a run that does not go on has ended
pub ended : (o : Option Outcome) → (o ≡ None → ⊥) → (x : Outcome) × (o ≡ Some x)
ended None h = absurd (h refl)
ended (Some x) h = (x, refl)

-- at the start of a soak there are few ticks left
pub few_left : (image : List Segment) (m : Shown) → Shows image schedule 0 m → length m.left < 2 ^ 32
few_left image m h =
    let there = exists (flash_byte image) in
    let size : length (ticks_of schedule.lines) ≡ 8398 = length-ticks_of schedule.lines ∙ total_is in
    let some : 0 < length (ticks_of schedule.lines) = omega arith in
    let running : m.outcome ≡ None = ap (λ (r : Run). r.outcome) (h.now there.0 there.1 ∙ closed_on (ticks_of schedule.lines) (begin image schedule) some) in
    let left : length m.left ≡ length (ticks_of schedule.lines) = ap length (h.left running) in
    omega arith

-- and its schedule has lines
some_lines : 0 < length schedule.lines
unfolding schedule
some_lines = omega arith

pub lines_there : (image : List Segment) (m : Shown) → Shows image schedule 0 m → 0 < length m.schedule.lines
lines_there image m h = subst (λ (s : Sched). 0 < length s.lines) (sym h.plan) some_lines

-- they stay
pub lines_stay : (m n : Shown) → fixed_of n ≡ fixed_of m → 0 < length m.schedule.lines → 0 < length n.schedule.lines
lines_stay m n same h = subst (λ (s : Sched). 0 < length s.lines) (sym (ap (λ x. x.schedule) same)) h
