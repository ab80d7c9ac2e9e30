use Rattle.hm_machine.proofs.Passing.{Going}
use Rattle.hm_machine.proofs.machine.Machine.go_on.Given as goal

abbrev pub invariant-loop-k : goal.invariant-loop-k
invariant-loop-k g l = record { going : Going l._k l.initial.self l.self }
