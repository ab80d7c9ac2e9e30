use Rattle.std.proofs.Common.{subst}
use Rattle.hm_machine.specs.Shown.{Shows}
use Rattle.hm_sched.specs.Schedule.{Sched}
use Rattle.hm_soak_laws.specs.Schedule.{schedule}
use Rattle.hm_soak.proofs.Counted.{few_left, lines_there}
use Rattle.hm_soak.proofs.Overs.{equal_ok, line_ok, odd_reset}
use Rattle.hm_soak.proofs.shown.summary.Goals as goal

pub load-requires : goal.load-requires
load-requires c = record { odd = odd_reset c.args.number c.in_ok-image.image c.in_ok-image.ensures.image }

pub run_counting-entries-requires-clause-few : goal.run_counting-entries-requires-clause-few
run_counting-entries-requires-clause-few c =
    let begins = subst (λ (s : Sched). Shows c.in_ok-image.image s 0 c.in_ok-scheduled.scheduled) c.in_ok-image.ensures.schedule
    c.in_ok-scheduled.ensures.shows in
    few_left c.in_ok-image.image c.in_ok-scheduled.scheduled begins

pub run_counting-entries-requires-clause-lines : goal.run_counting-entries-requires-clause-lines
run_counting-entries-requires-clause-lines c =
    let begins = subst (λ (s : Sched). Shows c.in_ok-image.image s 0 c.in_ok-scheduled.scheduled) c.in_ok-image.ensures.schedule
    c.in_ok-scheduled.ensures.shows in
    lines_there c.in_ok-image.image c.in_ok-scheduled.scheduled begins

pub run_plainly-requires : goal.run_plainly-requires
run_plainly-requires c = record { odd = odd_reset c.args.number c.in_ok-image.image c.in_ok-image.ensures.image }

pub returns-clause-line : goal.returns-clause-line
returns-clause-line c =
    let begins = subst (λ (s : Sched). Shows c.in_ok-image.image s 0 c.in_ok-scheduled.scheduled) c.in_ok-image.ensures.schedule
    c.in_ok-scheduled.ensures.shows in
    line_ok c.args.number c.in_ok-image.image c.run_counting-entries.new.machine c.in_ok-plainly.plainly c.retired.result c.ticks.result
    c.run_counting-entries.result c.same_shown-same.result c.line.result
    c.in_ok-image.ensures.image (c.run_counting-entries.ensures.over c.in_ok-image.image schedule begins)
    (c.run_counting-entries.ensures.entered c.in_ok-image.image schedule begins) c.in_ok-plainly.ensures.over
    c.same_shown-same.ensures.same c.retired.ensures c.ticks.ensures.value c.line.ensures.value

pub returns-clause-equal : goal.returns-clause-equal
returns-clause-equal c = equal_ok c.args.number c.line.result (returns-clause-line c)
