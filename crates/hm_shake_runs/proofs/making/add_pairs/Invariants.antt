use Rattle.std.proofs.Common.{◌≡◌, ◌-◌, ◌++◌}
use Rattle.hm_shake_runs.specs.Shaken.{pairs}
use Rattle.hm_shake_runs.proofs.making.add_pairs.Given as goal

-- what is done and what is left to do are together what is wanted
abbrev pub invariant-loop-k : goal.invariant-loop-k
invariant-loop-k l = l.out.items ++ pairs (l.count - l._k) l.gap l.irqs l.x ≡ l.initial.out.items ++ pairs l.count l.gap l.irqs l.initial.x
