use Rattle.std.proofs.Common.{◌≡◌}
use Rattle.hm_mem.specs.Devices.{put_prios}
use Rattle.hm_mem.proofs.devices.put_prios.Given as goal

abbrev pub invariant-loop-byte : goal.invariant-loop-byte
invariant-loop-byte l = l.prios ≡ put_prios l.byte l.k l.x l.initial.prios
