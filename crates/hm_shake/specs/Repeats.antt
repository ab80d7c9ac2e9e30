-- MACHINES THAT RUN AGAIN.
use Rattle.std.specs.Prelude.{ℕ, List, length}
use Rattle.hm_base.specs.Image.{Segment}
use Rattle.hm_machine.specs.Shown.{Shows}
use Rattle.hm_machine.specs.Starts.{IsStart, SameBounds}
use Rattle.hm_sched.specs.Schedule.{Sched, ticks_of}
use Rattle.hm_shake.specs.declared.repeats.Repeater.{Repeater}
use Rattle.hm_shake_runs.specs.Heads.{bare}
use Rattle.hm_shake_runs.specs.declared.head.Head.{Head}

-- a machine for runs of an image under schedules with this head: it is somewhere in a run with its region and its floors, and its start is kept
pub record Repeats (image : List Segment) (h : Head) (x : Repeater) : Type 0 where
  pub start : IsStart image (bare h) x.start
  pub schedule : Sched
  pub ticks : ℕ
  pub same : SameBounds schedule (bare h)
  pub shows : Shows image schedule ticks x.machine

-- it stands at the end of the run under this schedule
abbrev pub StandsOver : List Segment → Sched → Repeater → Type 0
StandsOver image s x = Shows image s (length (ticks_of s.lines)) x.machine
