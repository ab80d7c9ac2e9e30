use Rattle.std.proofs.Common.{◌≡◌, ◌+◌, ◌-◌}
use Rattle.hm_debug.specs.Lines.{all_mapped}
use Rattle.hm_debug.proofs.memory.all_mapped.Given as goal

abbrev pub invariant-loop-k : goal.invariant-loop-k
invariant-loop-k l = all_mapped (l.at + l.k) (l.count - l.k) ≡ all_mapped l.at l.count
