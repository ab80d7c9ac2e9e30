use Rattle.std.proofs.Common.{List, ap, arith, refl, subst, sym}
use Rattle.std.proofs.lemmas.List.Elements.{All-same}
use Rattle.std.proofs.lemmas.Result.{IfOk-weaker}
use Rattle.hm_sched.specs.Schedule.{most_irq}
use Rattle.hm_shake.proofs.Ends.{cut_last, cut_so}
use Rattle.hm_shake.proofs.Fewer.{cut_sound, cut_ticks_few}
use Rattle.hm_shake.proofs.Leaving.{cut_left, left_ticks, left_twice}
use Rattle.hm_shake.specs.Shorter.{LeavesOut}
use Rattle.hm_shake_runs.proofs.Room.{ticks}
use Rattle.hm_shake_runs.specs.Stretches.{IsStretch, cut}
use Rattle.hm_shake_runs.specs.declared.stretches.Stretch.{Stretch}
use Rattle.hm_shake.proofs.shrinking.shrink.Goals as goal

pub loop-size-init : goal.loop-size-init
loop-size-init g c =
    let most = most_irq c.args.head.format in
    let xs = c.args.stretches.now in
    let n = c.args.ended.ticks in
    let is = ap ticks c.in_ok-best.ensures.value in
    let few = cut_ticks_few n xs in
    let leaves = subst (λ (ys : List Stretch). LeavesOut ys xs) (sym c.in_ok-best.ensures.value) (cut_left n xs) in
    record {
      again = λ image repeats. repeats;
      sound = All-same (IsStretch most) c.in_ok-best.best.items (cut n xs) c.in_ok-best.ensures.value (cut_sound most n xs c.requires.sound);
      few = omega arith;
      fewer = left_ticks c.in_ok-best.best.items xs leaves;
      leaves = leaves;
      kind = λ image listing is repeats ends.
          cut_so listing image c.args.head xs c.in_ok-best.best.items c.args.ended c.args.ended.kind ends refl c.in_ok-best.ensures.value;
      last = λ image listing is repeats ends.
          cut_last listing image c.args.head xs c.in_ok-best.best.items c.args.ended ends c.in_ok-best.ensures.value;
    }

pub loop-size-preserved : goal.loop-size-preserved
loop-size-preserved g c =
    let before = c.loop-size.invariant in
    let few = left_ticks c.in_ok-best-2.best.items c.loop-size.best.items c.in_ok-best-2.ensures.leaves in
    record {
      again = λ image repeats. c.thinned.ensures.again image (before.again image repeats);
      sound = c.in_ok-best-2.ensures.sound;
      few = omega arith;
      fewer = omega arith;
      leaves = left_twice c.in_ok-best-2.best.items c.loop-size.best.items c.args.stretches.now c.in_ok-best-2.ensures.leaves before.leaves;
      kind = λ image listing is repeats ends.
          c.in_ok-best-2.ensures.kind image listing is (before.again image repeats) (before.kind image listing is repeats ends);
      last = λ image listing is repeats ends.
          c.in_ok-best-2.ensures.last image listing is (before.again image repeats) (before.last image listing is repeats ends);
    }

pub thinned-requires-clause-repeats : goal.thinned-requires-clause-repeats
thinned-requires-clause-repeats g c = (c.requires.repeats.0, c.loop-size.invariant.again c.requires.repeats.0 c.requires.repeats.1)

pub returns-clause-last : goal.returns-clause-last
returns-clause-last g c = λ image listing is repeats ends.
    let before = c.loop-size.invariant in
    c.needed.ensures.last image listing is (before.again image repeats) (before.last image listing is repeats ends)

pub returns-clause-leaves : goal.returns-clause-leaves
returns-clause-leaves g c =
    let best = c.loop-size.best.items in
    let all = c.args.stretches.now in
    IfOk-weaker c.needed.result (λ xs. LeavesOut xs.items best) (λ xs. LeavesOut xs.items all)
    (λ xs left. left_twice xs.items best all left c.loop-size.invariant.leaves) c.needed.ensures.leaves
