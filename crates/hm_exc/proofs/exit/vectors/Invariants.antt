use Rattle.std.proofs.Common.{◌≡◌, length}
use Rattle.hm_exc.proofs.Filled.{Filled}
use Rattle.hm_exc.proofs.exit.vectors.Given as goal

abbrev pub invariant-loop-k : goal.invariant-loop-k
invariant-loop-k l = record { filled : Filled l.x.regs.qw l.r.qw l.k l.words; count : length l.words ≡ 32 }
