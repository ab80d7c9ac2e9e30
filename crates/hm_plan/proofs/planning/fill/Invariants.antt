use Rattle.std.proofs.Common.{[], ◌-◌, ◌*◌, List}
use Rattle.hm_base.specs.Image.{Segment}
use Rattle.hm_machine.specs.Shown.{run_of}
use Rattle.hm_plan.specs.Follows.{Follow}
use Rattle.hm_plan.proofs.planning.fill.Given as goal

abbrev pub invariant-loop-machine : goal.invariant-loop-machine
invariant-loop-machine l = record
    { follow : (image : List Segment) → Follow image l.n l.initial.lines l.initial.machine → Follow image l.n l.lines l.machine }

abbrev pub decreases-loop-machine : goal.decreases-loop-machine
decreases-loop-machine l = 4 * l.n - (run_of l.machine []).ticks
