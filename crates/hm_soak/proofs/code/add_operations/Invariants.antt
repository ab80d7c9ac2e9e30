use Rattle.hm_soak.proofs.Adding.{Operates}
use Rattle.hm_soak.proofs.code.add_operations.Given as goal

abbrev pub invariant-loop-k : goal.invariant-loop-k
invariant-loop-k l = Operates l.fn.last l.initial.out.items l.k l.x l.out.items
