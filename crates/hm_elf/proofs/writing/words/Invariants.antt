use Rattle.std.proofs.Common.{◌≡◌, ◌++◌, take}
use Rattle.std.specs.List.{flat_map}
use Rattle.hm_elf.specs.WriteImage.{word_bytes}
use Rattle.hm_elf.proofs.writing.words.Given as goal

abbrev pub invariant-loop-number : goal.invariant-loop-number
invariant-loop-number l = l.out.items ≡ l.initial.out.items ++ flat_map word_bytes (take l.number-index l.numbers)
