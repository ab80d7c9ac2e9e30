-- Ticks one behind another.
use Rattle.std.specs.Prelude.{◌≡◌, ℕ, ◌+◌, ◌<◌, ◌≤◌, List, length, IsSome, Some, None}
use Rattle.hm_base.specs.Image.{Segment}
use Rattle.hm_machine.specs.Shown.{Shown, Shows, fixed_of}
use Rattle.hm_run.specs.declared.Outcome.TheVariants.{OutOfTicks}
use Rattle.hm_sched.specs.Schedule.{Sched}

-- So many ticks, or those until the run ends, lead from one machine to another.
pub record Passes (count : ℕ) (old new : Shown) : Type 0 where
  -- each is a tick more of the run
  pub shows : (image : List Segment) (s : Sched) (t : ℕ) → Shows image s t old → Shows image s (t + count) new
  -- a machine that has ended stays
  pub ended : IsSome old.outcome → new ≡ old
  -- none is done that the schedule does not have
  pub turns : new.ticks + length new.left ≤ old.ticks + length old.left
  -- under a schedule without lines the first ends it
  pub out : old.outcome ≡ None → length old.schedule.lines ≡ 0 → 0 < count → new ≡ record old { outcome = Some OutOfTicks }
  -- more than are left end it
  pub through : length old.left < count → IsSome new.outcome
  pub fixed : fixed_of new ≡ fixed_of old
