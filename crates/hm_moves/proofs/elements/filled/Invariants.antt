use Rattle.std.proofs.Common.{◌≡◌, drop}
use Rattle.hm_mem.specs.Memory.{memory_of}
use Rattle.hm_mem.specs.Seen.{seen}
use Rattle.hm_moves.specs.Coded.{filled_in}
use Rattle.hm_moves.specs.Ways.{moves_of}
use Rattle.hm_moves.proofs.elements.filled.Given as goal

abbrev pub invariant-loop-k : goal.invariant-loop-k
invariant-loop-k l = l.word ≡ filled_in (moves_of l.row) l.j (drop l.k l.es) l.old (seen (memory_of l.m))
