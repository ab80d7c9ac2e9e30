use Rattle.std.proofs.Common.{◌∙◌, List, length, refl, subst, sym}
use Rattle.hm_base.specs.Image.{Segment}
use Rattle.hm_machine.specs.Shown.{Shows}
use Rattle.hm_machine.specs.Starts.{SameBounds}
use Rattle.hm_sched.specs.Schedule.{Sched, ticks_of}
use Rattle.hm_shake.proofs.Ends.{plain_so}
use Rattle.hm_shake.specs.Repeats.{Repeats}
use Rattle.hm_shake_runs.specs.Heads.{bare, whole_ticks}
use Rattle.hm_shake.proofs.repeats.Repeater.plain_of.Goals as goal

module _ (c : goal.After-end_of) where
  abbrev under : Sched
  under = whole_ticks c.args.head c.args.ticks

  -- it is back at the start, under the schedule of these whole instructions
  begins : (image : List Segment) → Repeats image c.args.head c.args.self.now → Shows image under 0 c.again.new.self
  begins image repeats =
      let is = c.in_ok-schedule.ensures.value in
      let same : SameBounds repeats.schedule c.in_ok-schedule.schedule = subst (λ (s : Sched). SameBounds repeats.schedule s) (sym is) repeats.same in
      subst (λ (s : Sched). Shows image s 0 c.again.new.self) is
      (c.again.ensures.shows image (bare c.args.head) repeats.schedule repeats.ticks repeats.start repeats.shows same)

pub returns-clause-ended : goal.returns-clause-ended
returns-clause-ended c = λ image listing is repeats.
    c.end_of.ensures.ended image (under c) listing (begins c image repeats) is ∙ plain_so listing image c.args.head c.args.ticks

pub returns-clause-again : goal.returns-clause-again
returns-clause-again c = λ image repeats. record {
  start = repeats.start;
  schedule = under c;
  ticks = length (ticks_of (under c).lines);
  same = refl;
  shows = c.end_of.ensures.shows image (under c) (begins c image repeats);
}
