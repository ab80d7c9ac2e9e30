use Rattle.std.proofs.Common.{◌<◌}
use Rattle.std.specs.List.{All}
use Rattle.std.proofs.lemmas.List.Elements.{All-same}
use Rattle.hm_sched.specs.Schedule.{most_irq}
use Rattle.hm_shake_runs.specs.Stretches.{IsStretch}
use Rattle.hm_sessions.proofs.shakes.interrupts_of_run.Goals as goal

-- the stretches of a run have a tick at least
pub cut-requires : goal.cut-requires
cut-requires c =
    let format = c.args.schedule.now.format in
    let sound : All (IsStretch (most_irq format)) c.deref-2.result.now =
    All-same (IsStretch (most_irq format)) c.deref-2.result.now c.in_ok-stretches.stretches.items c.deref-2.ensures.value
    (c.in_ok-stretches.ensures.sound format
    (All-same (λ n. n < most_irq format) c.deref.result.now c.in_ok-irqs.irqs.items c.deref.ensures.value c.in_ok-irqs.ensures.each)) in
    record { some = λ k d lt. (sound k d lt).some }
