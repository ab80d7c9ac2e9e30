use Rattle.std.proofs.Common.{rules, ◌-◌, ◌+◌}
use Rattle.hm_sched.specs.Schedule.{most_irq}
use Rattle.hm_shake_runs.specs.Heads.{numbers_from}
use Rattle.hm_shake_runs.proofs.Turns.{moved, numbers_turn}
use Rattle.hm_shake_runs.proofs.interrupts.all.Goals as goal

pub loop-n-preserved : goal.loop-n-preserved
loop-n-preserved c =
    moved c.loop-n.irqs.items c.push.new.self.items (numbers_from (most_irq c.args.format - (c.loop-n.n + 1)) (c.loop-n.n + 1)) _ _ c.loop-n.n (search rules)
    (numbers_turn (most_irq c.args.format) c.loop-n.n (search rules)) c.loop-n.invariant
