use Rattle.std.proofs.Common.{◌≡◌, drop}
use Rattle.hm_mem.specs.Memory.{memory_of}
use Rattle.hm_mem.specs.Seen.{seen}
use Rattle.hm_moves.specs.Coded.{first_stop}
use Rattle.hm_moves.specs.Moves.{byte_count}
use Rattle.hm_moves.proofs.elements.check_all.Given as goal

abbrev pub invariant-loop-e : goal.invariant-loop-e
invariant-loop-e l =
    let m = memory_of l.m in
    first_stop m.around l.store (byte_count l.z) (drop l.e-index l.es) (seen m) ≡ first_stop m.around l.store (byte_count l.z) l.es (seen m)
