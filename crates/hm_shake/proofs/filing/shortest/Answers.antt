use Rattle.std.proofs.Common.{◌≡◌, ◌<◌, ◌∙◌, List, ap, arith, refl, subst, sym}
use Rattle.std.proofs.lemmas.List.Elements.{All-same}
use Rattle.hm_sched.specs.Schedule.{Sched, most_irq}
use Rattle.hm_sched.specs.Written.{IsFile}
use Rattle.hm_shake.specs.Ends.{ended_under}
use Rattle.hm_shake.specs.Shorter.{LeavesOut}
use Rattle.hm_shake_runs.proofs.Letters.{stretches_older}
use Rattle.hm_shake_runs.proofs.Room.{ticks}
use Rattle.hm_shake_runs.specs.Heads.{bare}
use Rattle.hm_shake_runs.specs.Shaken.{shaken}
use Rattle.hm_shake_runs.specs.Stretches.{IsStretch, interrupts_in, with_stretches}
use Rattle.hm_shake_runs.specs.declared.stretches.Stretch.{Stretch}
use Rattle.hm_shake.proofs.filing.shortest.Goals as goal

pub shrink-requires-clause-sound : goal.shrink-requires-clause-sound
shrink-requires-clause-sound g c =
    let format = c.args.given.now.head.format in
    All-same (IsStretch (most_irq format)) c.deref-2.result.now c.in_ok-stretches.stretches.items c.deref-2.ensures.value
    (c.in_ok-stretches.ensures.sound format
    (All-same (λ n. n < most_irq format) c.deref.result.now c.args.given.now.irqs.items c.deref.ensures.value c.requires.sound.each))

pub schedule_of-requires-clause-sound : goal.schedule_of-requires-clause-sound
schedule_of-requires-clause-sound g c =
    All-same (IsStretch (most_irq c.args.given.now.head.format)) c.deref-3.result.now c.in_ok-best.best.items c.deref-3.ensures.value c.in_ok-best.ensures.sound

pub returns-clause-filed : goal.returns-clause-filed
returns-clause-filed g c = λ image listing is repeats found_in.
    let head = c.args.given.now.head in
    let plan = c.args.given.now.plan in
    let run = c.args.found.run in
    let drawn : c.deref-2.result.now ≡ shaken plan c.args.given.now.irqs.items run =
    c.deref-2.ensures.value ∙ c.in_ok-stretches.ensures.value ∙ ap (λ irqs. shaken plan irqs run) c.deref.ensures.value in
    let ends = sym found_in.ended ∙ ap (λ (xs : List Stretch). ended_under listing image (with_stretches xs (bare head))) (sym drawn) in
    let many = c.ticks_in.ensures.sum ∙ ap ticks c.deref-4.ensures.value in
    let few = c.in_ok-best.ensures.few in
    record {
      stretches = c.in_ok-best.best.items;
      file = subst (λ (s : Sched). IsFile c.in_ok-print.field-0.items s)
          (c.in_ok-schedule.ensures.value ∙ ap (λ (xs : List Stretch). with_stretches xs (bare head)) c.deref-3.ensures.value) c.in_ok-print.ensures.file;
      letters = stretches_older c.in_ok-best.best.items;
      left = subst (λ (xs : List Stretch). LeavesOut c.in_ok-best.best.items xs) drawn c.in_ok-best.ensures.leaves;
      ticks = sym many;
      few = omega arith;
      interrupts = sym (c.interrupts_in.ensures.value ∙ ap interrupts_in c.deref-5.ensures.value);
      kind = refl;
      gives = c.in_ok-best.ensures.kind image listing is repeats ends;
      last = c.in_ok-best.ensures.last image listing is repeats ends;
      needed = c.in_ok-best.ensures.needed image listing is repeats;
    }
