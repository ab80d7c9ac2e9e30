use Rattle.std.proofs.Common.{refl, subst}
use Rattle.hm_machine.specs.Shown.{Shows}
use Rattle.hm_sched.specs.Schedule.{Sched}
use Rattle.hm_shake_runs.specs.Heads.{bare}
use Rattle.hm_shake.proofs.repeats.Repeater.of.Goals as goal

pub returns-clause-repeats : goal.returns-clause-repeats
returns-clause-repeats c =
    let shows : Shows c.args.image.now (bare c.args.head) 0 c.in_ok-machine.machine =
    subst (λ (s : Sched). Shows c.args.image.now s 0 c.in_ok-machine.machine) c.begin.ensures.made c.in_ok-machine.ensures.shows in
    record {
      start = c.in_ok-start.ensures.start c.args.image.now (bare c.args.head) shows;
      schedule = bare c.args.head;
      ticks = 0;
      same = refl;
      shows = shows;
    }
