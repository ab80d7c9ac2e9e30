use Rattle.std.proofs.Common.{◌≡◌, length}
use Rattle.hm_exc.proofs.Filled.{Filled}
use Rattle.hm_exc.proofs.exit.core_registers.Given as goal

abbrev pub invariant-loop-k : goal.invariant-loop-k
invariant-loop-k l = record { filled : Filled l.x.regs.r l.r.r l.k l.core; count : length l.core ≡ 13 }
