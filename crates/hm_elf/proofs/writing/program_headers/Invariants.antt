use Rattle.std.proofs.Common.{◌≡◌, ◌+◌, ◌*◌, ◌≤◌, ◌++◌, drop}
use Rattle.hm_elf.specs.WriteImage.{program_headers}
use Rattle.hm_elf.proofs.writing.program_headers.Given as goal

abbrev pub invariant-loop-k : goal.invariant-loop-k
invariant-loop-k l = record {
  so_far : l.out.items ++ program_headers l.offset (drop l.k l.image) ≡ l.initial.out.items ++ program_headers l.start l.image;
  near : l.offset ≤ l.start + 0x100000 * l.k;
}
