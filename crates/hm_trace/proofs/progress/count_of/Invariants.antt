use Rattle.std.proofs.Common.{◌≡◌, nat_eq, take}
use Rattle.std.specs.List.{count_by}
use Rattle.hm_trace.proofs.progress.count_of.Given as goal

abbrev pub invariant-loop-c : goal.invariant-loop-c
invariant-loop-c l = l.count ≡ count_by (nat_eq l.letter) (take l.c-index l.letters)
