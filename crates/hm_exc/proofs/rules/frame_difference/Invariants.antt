use Rattle.std.proofs.Common.{◌≡◌, ℕ, ◌+◌, ◌<◌, get_or}
use Rattle.hm_mem.specs.Memory.{byte_at, memory_of}
use Rattle.hm_exc.proofs.rules.frame_difference.Given as goal

abbrev pub invariant-loop-k : goal.invariant-loop-k
invariant-loop-k l = (j : ℕ) → j < l.k → byte_at (memory_of l.m) (l.x.frame + j) ≡ get_or l.x.bytes j 0
