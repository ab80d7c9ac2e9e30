use Rattle.std.proofs.Common.{ap, arith, refl, subst}
use Rattle.std.specs.List.{All}
use Rattle.hm_sched.specs.Schedule.{most_irq}
use Rattle.hm_shake.proofs.Ends.{some_at}
use Rattle.hm_shake.proofs.Leaving.{all_left, left_ticks, left_twice}
use Rattle.hm_shake.specs.Ends.{EndsAs, EndsInLast}
use Rattle.hm_shake.specs.Shorter.{LeavesOut}
use Rattle.hm_shake_runs.proofs.Room.{ticks}
use Rattle.hm_shake_runs.specs.Heads.{bare}
use Rattle.hm_shake_runs.specs.Stretches.{IsStretch, with_stretches}
use Rattle.hm_shake.proofs.shrinking.needed.Goals as goal

pub loop-best-init : goal.loop-best-init
loop-best-init g c = record {
  again = λ image repeats. repeats;
  sound = c.requires.sound;
  leaves = all_left c.args.stretches.items;
  fewer = omega arith;
  kind = λ image listing is repeats ends. ends;
  last = λ image listing is repeats ends. ends;
}

pub loop-best-preserved : goal.loop-best-preserved
loop-best-preserved g c =
    let head = c.args.head in
    let before = c.loop-best.invariant in
    let o = c.in_ok-fewer.field-0 in
    let best = c.in-Some.fewer in
    let xs = c.deref.result.now in
    let is = ap ticks c.deref.ensures.value in
    let left : LeavesOut best.items xs = some_at o best best (λ v. LeavesOut v.items xs) c.in-Some.is refl c.in_ok-fewer.ensures.leaves in
    let few = left_ticks best.items xs left in
    record {
      again = λ image repeats. c.without_one.ensures.again image (before.again image repeats);
      sound = some_at o best best (λ v. All (IsStretch (most_irq head.format)) v.items) c.in-Some.is refl c.in_ok-fewer.ensures.sound;
      leaves =
          left_twice best.items c.loop-best.best.items c.args.stretches.items
          (subst (λ ys. LeavesOut best.items ys) c.deref.ensures.value left) before.leaves;
      fewer = omega arith;
      kind = λ image listing is repeats ends.
          some_at o best best (λ v. EndsAs listing image c.args.kind (with_stretches v.items (bare head))) c.in-Some.is refl
          (c.in_ok-fewer.ensures.kind image listing is (before.again image repeats));
      last = λ image listing is repeats ends.
          some_at o best best (λ v. EndsInLast listing image head v.items) c.in-Some.is refl
          (c.in_ok-fewer.ensures.last image listing is (before.again image repeats));
    }
