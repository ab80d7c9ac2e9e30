use Rattle.std.proofs.Common.{◌≡◌, ◌≤◌, take}
use Rattle.hm_shake_runs.specs.Stretches.{interrupts_in}
use Rattle.hm_shake_runs.proofs.stretches.interrupts_in.Given as goal

abbrev pub invariant-loop-stretch : goal.invariant-loop-stretch
invariant-loop-stretch l = record {
  so_far : l.count ≡ interrupts_in (take l.stretch-index l.stretches);
  few : l.count ≤ l.stretch-index;
}
