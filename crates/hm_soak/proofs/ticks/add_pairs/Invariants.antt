use Rattle.hm_soak.proofs.Lines.{Paired}
use Rattle.hm_soak.proofs.ticks.add_pairs.Given as goal

abbrev pub invariant-loop-k : goal.invariant-loop-k
invariant-loop-k l = Paired l.initial.lines l.k l.lines
