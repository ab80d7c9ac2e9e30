use Rattle.std.proofs.Common.{◌≡◌, drop, map}
use Rattle.hm_kernel_text.specs.Held.{array_written}
use Rattle.hm_kernel_text.specs.ReadLine.{is_there}
use Rattle.hm_kernel_text.proofs.names.position.Given as goal

abbrev pub invariant-loop-i : goal.invariant-loop-i
invariant-loop-i l = is_there l.name (map array_written (drop l.i l.arrays)) ≡ is_there l.name (map array_written l.arrays)
