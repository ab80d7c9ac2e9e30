use Rattle.hm_soak.proofs.Adding.{Fills}
use Rattle.hm_soak.proofs.code.add_fill.Given as goal

abbrev pub invariant-loop-j : goal.invariant-loop-j
invariant-loop-j l = Fills l.fn.number l.initial.out.items l.j l.x l.out.items
