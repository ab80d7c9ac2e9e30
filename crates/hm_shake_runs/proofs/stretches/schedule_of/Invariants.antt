use Rattle.std.proofs.Common.{◌≡◌, take}
use Rattle.hm_shake_runs.specs.Heads.{bare}
use Rattle.hm_shake_runs.specs.Stretches.{with_stretches}
use Rattle.hm_shake_runs.proofs.stretches.schedule_of.Given as goal

-- the stretches so far are its lines
abbrev pub invariant-loop-stretch : goal.invariant-loop-stretch
invariant-loop-stretch l = l.s ≡ with_stretches (take l.stretch-index l.stretches) (bare l.head)
