-- STARTS of runs: what a machine was before its first tick, under schedules of one region and one pair of floors.
use Rattle.std.specs.Prelude.{◌≡◌, List, [], Some}
use Rattle.hm_base.specs.Image.{Segment}
use Rattle.hm_machine.specs.Checkpoints.{at_checkpoint}
use Rattle.hm_machine.specs.Shown.{Shown, Shows, fixed_of}
use Rattle.hm_machine.specs.declared.start.Start.{Start}
use Rattle.hm_run.specs.Timed.{bounds_of}
use Rattle.hm_run.specs.declared.Outcome.TheVariants.{OutOfTicks}
use Rattle.hm_sched.specs.Schedule.{Sched}

-- two schedules have one region and the same floors: format, ticks, and whether exceptions enter may differ
abbrev pub SameBounds : Sched → Sched → Type 0
SameBounds s t = bounds_of s ≡ bounds_of t

-- THE START of an image's runs: that of a machine that shows it before its first tick, but for its outcome and the ticks that are left
pub record IsStart (image : List Segment) (s : Sched) (x : Start) : Type 0 where
  pub machine : Shown
  pub shows : Shows image s 0 machine
  pub is : record (at_checkpoint x.checkpoint (fixed_of machine) []) { outcome = machine.outcome; left = machine.left } ≡ machine
  pub over : x.checkpoint.outcome ≡ Some OutOfTicks
