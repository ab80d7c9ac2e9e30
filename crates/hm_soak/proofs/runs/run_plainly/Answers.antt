use Rattle.std.proofs.Common.{subst}
use Rattle.hm_machine.specs.Shown.{Shows}
use Rattle.hm_sched.specs.Schedule.{Sched}
use Rattle.hm_soak_laws.specs.Schedule.{in_order_schedule}
use Rattle.hm_soak.proofs.runs.run_plainly.Goals as goal

pub returns : goal.returns
returns c =
    let begins = subst (λ (s : Sched). Shows c.args.image.now s 0 c.in_ok-machine.machine) c.in_ok-schedule.ensures.value c.in_ok-machine.ensures.shows in
    record { over = record { shows = c.run-outcome.ensures.shows c.args.image.now in_order_schedule 0 begins } }
