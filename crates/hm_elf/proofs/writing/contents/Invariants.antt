use Rattle.std.proofs.Common.{◌≡◌, ◌++◌, drop}
use Rattle.hm_elf.specs.WriteImage.{all_bytes}
use Rattle.hm_elf.proofs.writing.contents.Given as goal

abbrev pub invariant-loop-k : goal.invariant-loop-k
invariant-loop-k l = l.out.items ++ all_bytes (drop l.k l.image) ≡ l.initial.out.items ++ all_bytes l.image
