use Rattle.std.proofs.Common.{◌≡◌, ◌++◌, drop}
use Rattle.hm_ihex.specs.Written.{digits_of}
use Rattle.hm_ihex.proofs.writing.add_digits.Given as goal

abbrev pub invariant-loop-byte : goal.invariant-loop-byte
invariant-loop-byte l = l.out.items ++ digits_of (drop l.byte-index l.bytes) ≡ l.initial.out.items ++ digits_of l.bytes
