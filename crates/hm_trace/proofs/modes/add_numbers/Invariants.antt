use Rattle.std.proofs.Common.{◌≡◌, ◌++◌, take}
use Rattle.std.specs.Prelude.{reverse}
use Rattle.hm_trace.specs.Lines.{numbers_text}
use Rattle.hm_trace.proofs.modes.add_numbers.Given as goal

abbrev pub invariant-loop-x : goal.invariant-loop-x
invariant-loop-x l = l.out.items ≡ l.initial.out.items ++ numbers_text (reverse (take l.x-index l.active))
