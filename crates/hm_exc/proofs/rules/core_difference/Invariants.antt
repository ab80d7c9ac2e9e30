use Rattle.std.proofs.Common.{◌≡◌, ℕ, ◌<◌, ◌≤◌, get_or}
use Rattle.hm_exc.proofs.rules.core_difference.Given as goal

abbrev pub invariant-loop-k : goal.invariant-loop-k
invariant-loop-k l = (j : ℕ) → 4 ≤ j → j < l.k → get_or l.r.r j 0 ≡ get_or l.x.regs.r j 0
