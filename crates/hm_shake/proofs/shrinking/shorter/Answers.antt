use Rattle.std.proofs.Common.{◌≡◌, ◌∙◌, ap, arith, sym}
use Rattle.std.specs.List.{All}
use Rattle.std.proofs.lemmas.List.Elements.{All-same}
use Rattle.hm_sched.specs.Schedule.{most_irq}
use Rattle.hm_shake.proofs.Ends.{cut_last, cut_so, other_so}
use Rattle.hm_shake.proofs.Fewer.{cut_count, cut_sound, without_less, without_sound, without_ticks}
use Rattle.hm_shake.proofs.Leaving.{shorter_left}
use Rattle.hm_shake_runs.proofs.Room.{ticks}
use Rattle.hm_shake_runs.specs.Stretches.{IsStretch, cut, interrupts_in, without}
use Rattle.hm_shake.proofs.shrinking.shorter.Goals as goal

pub run-requires-clause-sound : goal.run-requires-clause-sound
run-requires-clause-sound c =
    let most = most_irq c.args.head.format in
    let xs = c.args.stretches.now in
    All-same (IsStretch most) c.deref.result.now (without c.args.kept c.args.size xs) (c.deref.ensures.value ∙ c.in_ok-fewer.ensures.value)
    (without_sound most c.args.kept c.args.size xs c.requires.sound)

pub run-requires-clause-room : goal.run-requires-clause-room
run-requires-clause-room c =
    let is = ap ticks (c.deref.ensures.value ∙ c.in_ok-fewer.ensures.value) in
    let same = without_ticks c.args.kept c.args.size c.args.stretches.now in
    let room = c.requires.room in
    omega arith

pub cut-requires : goal.cut-requires
cut-requires c =
    let most = most_irq c.args.head.format in
    let xs = c.args.stretches.now in
    let sound : All (IsStretch most) c.deref-then-same_kind.result.now =
    All-same (IsStretch most) c.deref-then-same_kind.result.now (without c.args.kept c.args.size xs)
    (c.deref-then-same_kind.ensures.value ∙ c.in_ok-fewer.ensures.value)
    (without_sound most c.args.kept c.args.size xs c.requires.sound) in
    record { some = λ k d lt. (sound k d lt).some }

module _ (c : goal.After-drop-fewer-then-same_kind) where
  -- what is cut is what was run
  same : c.deref-then-same_kind.result.now ≡ c.deref.result.now
  same = c.deref-then-same_kind.ensures.value ∙ sym c.deref.ensures.value

  sound : All (IsStretch (most_irq c.args.head.format)) c.deref-then-same_kind.result.now
  sound =
      let xs = c.args.stretches.now in
      All-same (IsStretch (most_irq c.args.head.format)) c.deref-then-same_kind.result.now (without c.args.kept c.args.size xs)
      (c.deref-then-same_kind.ensures.value ∙ c.in_ok-fewer.ensures.value)
      (without_sound (most_irq c.args.head.format) c.args.kept c.args.size xs c.requires.sound)

pub returns-then-same_kind-clause-kind : goal.returns-then-same_kind-clause-kind
returns-then-same_kind-clause-kind c = λ image listing is repeats.
    let ends = c.in_ok-ended.ensures.ended image listing is repeats in
    let kind : c.in_ok-ended.ended.kind ≡ c.args.kind = c.same_kind.ensures.same c.if-same_kind.true in
    cut_so listing image c.args.head c.deref.result.now c.in_ok-cut.field-0.items c.in_ok-ended.ended c.args.kind ends kind
    (c.in_ok-cut.ensures.value ∙ ap (cut c.in_ok-ended.ended.ticks) (same c))

pub returns-then-same_kind-clause-leaves : goal.returns-then-same_kind-clause-leaves
returns-then-same_kind-clause-leaves c =
    shorter_left c.in_ok-ended.ended.ticks c.args.kept c.args.size c.args.stretches.now c.deref-then-same_kind.result.now c.in_ok-cut.field-0.items
    (c.deref-then-same_kind.ensures.value ∙ c.in_ok-fewer.ensures.value) c.in_ok-cut.ensures.value

pub returns-then-same_kind-clause-sound : goal.returns-then-same_kind-clause-sound
returns-then-same_kind-clause-sound c =
    let most = most_irq c.args.head.format in
    All-same (IsStretch most) c.in_ok-cut.field-0.items (cut c.in_ok-ended.ended.ticks c.deref-then-same_kind.result.now) c.in_ok-cut.ensures.value
    (cut_sound most c.in_ok-ended.ended.ticks c.deref-then-same_kind.result.now (sound c))

pub returns-then-same_kind-clause-last : goal.returns-then-same_kind-clause-last
returns-then-same_kind-clause-last c = λ image listing is repeats.
    let ends = c.in_ok-ended.ensures.ended image listing is repeats in
    cut_last listing image c.args.head c.deref.result.now c.in_ok-cut.field-0.items c.in_ok-ended.ended ends
    (c.in_ok-cut.ensures.value ∙ ap (cut c.in_ok-ended.ended.ticks) (same c))

pub returns-then-same_kind-clause-less : goal.returns-then-same_kind-clause-less
returns-then-same_kind-clause-less c = λ below some.
    let is = ap interrupts_in c.in_ok-cut.ensures.value in
    let few = cut_count c.in_ok-ended.ended.ticks c.deref-then-same_kind.result.now in
    let whole = ap interrupts_in (c.deref-then-same_kind.ensures.value ∙ c.in_ok-fewer.ensures.value) in
    let less = without_less c.args.kept c.args.size c.args.stretches.now some below in
    omega arith

pub returns-clause-other : goal.returns-clause-other
returns-clause-other c = λ image listing is repeats none.
    let fewer = without c.args.kept c.args.size c.args.stretches.now in
    other_so listing image c.args.head fewer c.deref.result.now c.in_ok-ended.ended c.args.kind
    (c.in_ok-ended.ensures.ended image listing is repeats) (c.deref.ensures.value ∙ c.in_ok-fewer.ensures.value)
    (c.same_kind.ensures.other c.if-same_kind.false)
