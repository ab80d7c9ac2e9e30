use Rattle.std.proofs.Common.{arith}
use Rattle.hm_sched.proofs.Ticks.{most_irq_few}
use Rattle.hm_sched.specs.Schedule.{most_irq}
use Rattle.hm_shake_runs.proofs.Words.{irq_named, length-steps, steps_letters}
use Rattle.hm_shake_runs.proofs.stretches.add.Goals as goal

pub add-requires-clause-few : goal.add-requires-clause-few
add-requires-clause-few c = rw (c.steps.ensures.value, length-steps) (omega arith)

pub add-requires-clause-each_letter : goal.add-requires-clause-each_letter
add-requires-clause-each_letter c = rw c.steps.ensures.value (steps_letters c.args.stretch.now.letters)

pub add-requires-clause-named : goal.add-requires-clause-named
add-requires-clause-named c =
    rw c.irq_words.ensures.value (irq_named (most_irq c.args.s.now.format) c.args.stretch.now.irq (most_irq_few c.args.s.now.format) c.requires.sound.named)
