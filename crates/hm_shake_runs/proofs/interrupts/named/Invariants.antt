use Rattle.std.proofs.Common.{◌≡◌, ◌-◌, ◌++◌}
use Rattle.hm_sched.specs.Schedule.{most_irq}
use Rattle.hm_shake_runs.specs.Heads.{named, named_from}
use Rattle.hm_shake_runs.proofs.interrupts.named.Given as goal

-- those so far, and those that are left to look at
abbrev pub invariant-loop-n : goal.invariant-loop-n
invariant-loop-n l = l.irqs.items ++ named_from l.s.lines (most_irq l.s.format - l.n) l.n ≡ named l.s
