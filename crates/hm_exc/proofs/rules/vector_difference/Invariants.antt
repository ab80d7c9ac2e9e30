use Rattle.std.proofs.Common.{◌≡◌, ℕ, ◌<◌, ◌≤◌, get_or}
use Rattle.hm_exc.proofs.rules.vector_difference.Given as goal

abbrev pub invariant-loop-k : goal.invariant-loop-k
invariant-loop-k l = (j : ℕ) → 16 ≤ j → j < l.k → get_or l.r.qw j 0 ≡ get_or l.x.regs.qw j 0
