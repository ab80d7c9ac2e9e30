use Rattle.std.proofs.Common.{◌≡◌, ◌-◌, ◌++◌}
use Rattle.hm_sched.specs.Schedule.{most_irq}
use Rattle.hm_shake_runs.specs.Heads.{numbers_from}
use Rattle.hm_shake_runs.proofs.interrupts.all.Given as goal

abbrev pub invariant-loop-n : goal.invariant-loop-n
invariant-loop-n l = l.irqs.items ++ numbers_from (most_irq l.format - l.n) l.n ≡ numbers_from (most_irq l.format) 0
