use Rattle.std.proofs.Common.{◌∙◌, ap}
use Rattle.std.proofs.lemmas.List.Elements.{All-same}
use Rattle.hm_sched.specs.Schedule.{most_irq}
use Rattle.hm_shake_runs.specs.Shaken.{pairs, with_tail}
use Rattle.hm_shake_runs.specs.Stretches.{IsStretch}
use Rattle.hm_shake_runs.proofs.Room.{all_with_tail, behind_none, room_after, sound_shaken, ticks}
use Rattle.hm_shake_runs.proofs.making.shaken.Goals as goal

pub add_tail-requires : goal.add_tail-requires
add_tail-requires c =
    let parts = pairs c.many_pairs.result c.longest_gap-gap.result c.args.irqs.now c.first.result in
    let is = behind_none c.add_pairs.new.out.items c.new-out.result.items parts c.in_ok-add_pairs.ensures.added c.new-out.ensures.items in
    record {
      room = room_after c.add_pairs.new.out.items c.many_pairs.result c.longest_gap-gap.result c.args.irqs.now c.first.result is
          c.many_pairs.ensures.room;
    }

pub returns-clause-all_ticks : goal.returns-clause-all_ticks
returns-clause-all_ticks c =
    let parts = pairs c.many_pairs.result c.longest_gap-gap.result c.args.irqs.now c.first.result in
    let is = behind_none c.add_pairs.new.out.items c.new-out.result.items parts c.in_ok-add_pairs.ensures.added c.new-out.ensures.items in
    ap ticks c.in_ok-add_tail.ensures.added
    ∙ all_with_tail c.add_pairs.new.out.items
    (room_after c.add_pairs.new.out.items c.many_pairs.result c.longest_gap-gap.result c.args.irqs.now c.first.result is c.many_pairs.ensures.room)

pub returns-clause-sound : goal.returns-clause-sound
returns-clause-sound c = λ format each.
    let parts = pairs c.many_pairs.result c.longest_gap-gap.result c.args.irqs.now c.first.result in
    let is = behind_none c.add_pairs.new.out.items c.new-out.result.items parts c.in_ok-add_pairs.ensures.added c.new-out.ensures.items in
    All-same (IsStretch (most_irq format)) c.add_tail.new.out.items (with_tail parts) (c.in_ok-add_tail.ensures.added ∙ ap with_tail is)
    (sound_shaken (most_irq format) c.many_pairs.result c.longest_gap-gap.result c.args.irqs.now c.first.result c.longest_gap-gap.ensures.most c.requires.some
    each)
