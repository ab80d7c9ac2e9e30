use Rattle.std.proofs.Common.{◌≡◌, ◌<◌, ◌∙◌, List, ap, subst}
use Rattle.std.specs.Prelude.{IfOk}
use Rattle.std.proofs.lemmas.List.Elements.{All-same}
use Rattle.hm_sched.specs.Schedule.{most_irq}
use Rattle.hm_shake.specs.Repeats.{StandsOver}
use Rattle.hm_shake_runs.specs.Heads.{bare}
use Rattle.hm_shake.specs.Ends.{ended_under}
use Rattle.hm_shake_runs.specs.Shaken.{shaken}
use Rattle.hm_shake_runs.specs.Stretches.{IsStretch, with_stretches}
use Rattle.hm_shake_runs.specs.declared.stretches.Stretch.{Stretch}
use Rattle.hm_shake.proofs.counting.do_run.Goals as goal

pub run-requires-clause-sound : goal.run-requires-clause-sound
run-requires-clause-sound c =
    let format = c.args.given.now.head.format in
    All-same (IsStretch (most_irq format)) c.deref-2.result.now c.in_ok-stretches.stretches.items c.deref-2.ensures.value
    (c.in_ok-stretches.ensures.sound format
    (All-same (λ n. n < most_irq format) c.deref.result.now c.args.given.now.irqs.items c.deref.ensures.value c.requires.sound.each))

pub returns-clause-ended : goal.returns-clause-ended
returns-clause-ended c = λ image listing isl repeats.
    let e : c.deref-2.result.now ≡ shaken c.args.given.now.plan c.args.given.now.irqs.items c.args.run =
    c.deref-2.ensures.value ∙ c.in_ok-stretches.ensures.value ∙ ap (λ irqs. shaken c.args.given.now.plan irqs c.args.run) c.deref.ensures.value in
    subst (λ (xs : List Stretch). IfOk c.run.result (λ e. e ≡ ended_under listing image (with_stretches xs (bare c.args.given.now.head)))) e
    (c.run.ensures.ended image listing isl repeats)

pub returns-clause-over : goal.returns-clause-over
returns-clause-over c = λ image repeats.
    let e : c.deref-2.result.now ≡ shaken c.args.given.now.plan c.args.given.now.irqs.items c.args.run =
    c.deref-2.ensures.value ∙ c.in_ok-stretches.ensures.value ∙ ap (λ irqs. shaken c.args.given.now.plan irqs c.args.run) c.deref.ensures.value in
    subst (λ (xs : List Stretch). IfOk c.run.result (λ x. StandsOver image (with_stretches xs (bare c.args.given.now.head)) c.run.new.self)) e
    (c.run.ensures.over image repeats)
