use Rattle.std.proofs.Common.{IsTrue}
use Rattle.hm_outside.proofs.perform.vector_step.Given as goal

abbrev pub invariant-loop-b : goal.invariant-loop-b
invariant-loop-b l = IsTrue l.regs.fpca
