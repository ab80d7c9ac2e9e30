use Rattle.hm_sched.specs.Schedule.{most_irq}
use Rattle.hm_sched.proofs.WordLaws.{none_fits}
use Rattle.hm_plan.proofs.lines.Lines.write.Goals as goal

pub add-requires-clause-named : goal.add-requires-clause-named
add-requires-clause-named c = none_fits (most_irq c.args.self.now.schedule.format)
