use Rattle.std.proofs.Common.{◌≡◌, length}
use Rattle.hm_ihex.specs.Records.{bytes_in}
use Rattle.hm_ihex.proofs.Loops.{behind}
use Rattle.hm_ihex.proofs.record.read_bytes.Given as goal

abbrev pub invariant-loop-rest : goal.invariant-loop-rest
invariant-loop-rest l = behind l.bytes.items (bytes_in l.rest) ≡ bytes_in l.digits

abbrev pub decreases-loop-rest : goal.decreases-loop-rest
decreases-loop-rest l = length l.rest
