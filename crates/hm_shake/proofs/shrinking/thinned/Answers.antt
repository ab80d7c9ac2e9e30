use Rattle.std.proofs.Common.{◌<◌, ◌-◌, ◌∙◌, ap, arith, refl, subst}
use Rattle.std.specs.List.{All}
use Rattle.hm_sched.specs.Schedule.{most_irq}
use Rattle.hm_shake.proofs.Leaving.{all_left, left_ticks, left_twice}
use Rattle.hm_shake.proofs.Ends.{some_at}
use Rattle.hm_shake.specs.Shorter.{LeavesOut}
use Rattle.hm_shake_runs.proofs.Room.{ticks}
use Rattle.hm_shake_runs.specs.Heads.{bare}
use Rattle.hm_shake.specs.Ends.{EndsAs, EndsInLast}
use Rattle.hm_shake_runs.specs.Stretches.{IsStretch, interrupts_in, with_stretches}
use Rattle.hm_shake.proofs.shrinking.thinned.Goals as goal

pub loop-kept-init : goal.loop-kept-init
loop-kept-init g c = record {
  again = λ image repeats. repeats;
  sound = c.requires.sound;
  leaves = all_left c.args.stretches.items;
  fewer = omega arith;
  kind = λ image listing is repeats ends. ends;
  last = λ image listing is repeats ends. ends;
  left = c.interrupts_in-left.ensures.value ∙ ap interrupts_in c.deref.ensures.value;
  fits = c.interrupts_in-left.type_inv;
}

pub loop-kept-preserved-in-Some : goal.loop-kept-preserved-in-Some
loop-kept-preserved-in-Some g c =
    let head = c.args.head in
    let before = c.loop-kept.invariant in
    let o = c.in_ok-fewer.field-0 in
    let best = c.in-Some.fewer in
    let xs = c.deref-in-loop-kept.result.now in
    let is = ap ticks c.deref-in-loop-kept.ensures.value in
    let left : LeavesOut best.items xs = some_at o best best (λ v. LeavesOut v.items xs) c.in-Some.is refl c.in_ok-fewer.ensures.leaves in
    let few = left_ticks best.items xs left in
    record {
      again = λ image repeats. c.shorter.ensures.again image (before.again image repeats);
      sound = some_at o best best (λ v. All (IsStretch (most_irq head.format)) v.items) c.in-Some.is refl c.in_ok-fewer.ensures.sound;
      fewer = omega arith;
      leaves =
          left_twice best.items c.loop-kept.best.items c.args.stretches.items
          (subst (λ ys. LeavesOut best.items ys) c.deref-in-loop-kept.ensures.value left) before.leaves;
      kind = λ image listing is repeats ends.
          some_at o best best (λ v. EndsAs listing image c.args.kind (with_stretches v.items (bare head))) c.in-Some.is refl
          (c.in_ok-fewer.ensures.kind image listing is (before.again image repeats));
      last = λ image listing is repeats ends.
          some_at o best best (λ v. EndsInLast listing image head v.items) c.in-Some.is refl
          (c.in_ok-fewer.ensures.last image listing is (before.again image repeats));
      left = c.interrupts_in-left-in-Some.ensures.value ∙ ap interrupts_in c.deref-in-Some.ensures.value;
      fits = c.interrupts_in-left-in-Some.type_inv;
    }

pub loop-kept-smaller : goal.loop-kept-smaller
loop-kept-smaller g c =
    let next = c.saturating_add-kept.ensures in
    let lt = c.loop-kept-test.true in
    let some = c.requires.some in
    let fits = c.loop-kept.invariant.fits in
    let less : c.loop-kept.left - c.saturating_add-kept.result < c.loop-kept.left - c.loop-kept.kept = omega arith in
    less
