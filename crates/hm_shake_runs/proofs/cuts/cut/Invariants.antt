use Rattle.std.proofs.Common.{◌≡◌, ◌++◌, drop}
use Rattle.hm_shake_runs.specs.Stretches.{cut}
use Rattle.hm_shake_runs.proofs.cuts.cut.Given as goal

-- what is kept, and what is left to cut
abbrev pub invariant-loop-stretch : goal.invariant-loop-stretch
invariant-loop-stretch l = l.out.items ++ cut l.left (drop l.stretch-index l.stretches) ≡ cut l.ticks l.stretches
