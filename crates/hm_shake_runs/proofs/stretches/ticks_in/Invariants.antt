use Rattle.std.proofs.Common.{◌≡◌, take, map}
use Rattle.hm_sched.specs.Schedule.{total}
use Rattle.hm_shake_runs.specs.Stretches.{stretch_line}
use Rattle.hm_shake_runs.proofs.stretches.ticks_in.Given as goal

abbrev pub invariant-loop-stretch : goal.invariant-loop-stretch
invariant-loop-stretch l = l.ticks ≡ total (map stretch_line (take l.stretch-index l.stretches))
