use Rattle.std.proofs.Common.{◌≡◌}
use Rattle.hm_exc.specs.Written.{written}
use Rattle.hm_mem.specs.Memory.{memory_of}
use Rattle.hm_mem.specs.Seen.{IsSameElsewhere, seen}
use Rattle.hm_exc.proofs.entry.write_frame.Given as goal

abbrev pub invariant-loop-k : goal.invariant-loop-k
invariant-loop-k l = record {
  seen : seen (memory_of l.m) ≡ written l.x l.k (seen (memory_of l.initial.m));
  kept : IsSameElsewhere (memory_of l.initial.m) (memory_of l.m);
}
