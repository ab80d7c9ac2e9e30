use Rattle.std.proofs.Common.{◌+◌, ◌<◌, ◌≤◌, List, length}
use Rattle.hm_base.specs.Image.{Segment}
use Rattle.hm_machine.specs.Shown.{Shows}
use Rattle.hm_sched.specs.Schedule.{Sched}
use Rattle.hm_soak.proofs.Counted.{CountedTo}
use Rattle.hm_soak.proofs.runs.run_counting.Given as goal

abbrev pub invariant-loop-machine : goal.invariant-loop-machine
invariant-loop-machine l = record {
  few : l.entries + length l.machine.left ≤ length l.initial.machine.left;
  lines : 0 < length l.machine.schedule.lines;
  counted : (image : List Segment) (s : Sched) → Shows image s 0 l.initial.machine → CountedTo image s l.machine l.entries;
}

abbrev pub decreases-loop-machine : goal.decreases-loop-machine
decreases-loop-machine l = length l.machine.left
