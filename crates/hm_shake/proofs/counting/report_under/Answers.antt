use Rattle.hm_shake_runs.specs.Shaken.{shaken_schedule}
use Rattle.hm_shake.proofs.counting.report_under.Goals as goal

pub returns-clause-report : goal.returns-clause-report
returns-clause-report c = λ image listing is repeats.
    c.report.ensures.report image (shaken_schedule c.args.given.now.plan c.args.given.now.head c.args.given.now.irqs.items c.args.run) listing is
    (c.in_ok-do_run.ensures.over image repeats)
