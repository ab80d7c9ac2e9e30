use Rattle.std.proofs.Common.{◌≡◌, ◌-◌, ◌/◌, ◌^◌, ◌++◌}
use Rattle.std.specs.List.{flat_map}
use Rattle.hm_sched.specs.Words.{number_of}
use Rattle.hm_sched.specs.Printed.{ones_from}
use Rattle.hm_sched.proofs.PrintLaws.{spaced}
use Rattle.hm_sched.proofs.printing.add_irq.Given as goal

abbrev pub invariant-loop-n : goal.invariant-loop-n
invariant-loop-n l = l.out.items ++ flat_map spaced (ones_from (256 - l.n) l.n (number_of l.irq / 2 ^ l.n))
    ≡ l.initial.out.items ++ flat_map spaced (ones_from 256 0 (number_of l.irq))
