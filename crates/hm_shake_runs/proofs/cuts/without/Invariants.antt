use Rattle.std.proofs.Common.{◌≡◌, ◌++◌, drop}
use Rattle.hm_shake_runs.specs.Stretches.{without}
use Rattle.hm_shake_runs.proofs.cuts.without.Given as goal

-- what is done, and what is left to do
abbrev pub invariant-loop-stretch : goal.invariant-loop-stretch
invariant-loop-stretch l = l.out.items ++ without l.before l.left (drop l.stretch-index l.stretches) ≡ without l.kept l.count l.stretches
