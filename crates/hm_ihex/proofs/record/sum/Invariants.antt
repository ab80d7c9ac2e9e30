use Rattle.std.proofs.Common.{◌≡◌, ◌+◌, ◌<◌, ◌%◌, drop}
use Rattle.hm_ihex.specs.Records.{sum_of}
use Rattle.hm_ihex.proofs.record.sum.Given as goal

abbrev pub invariant-loop-byte : goal.invariant-loop-byte
invariant-loop-byte l = (l.total < 256) × ((l.total + sum_of (drop l.byte-index l.bytes)) % 256 ≡ sum_of l.bytes % 256)
