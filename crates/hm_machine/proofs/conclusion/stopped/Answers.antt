use Rattle.hm_machine.proofs.Ends.{stops_so}
use Rattle.hm_machine.proofs.conclusion.stopped.Goals as goal

pub returns-clause-ended : goal.returns-clause-ended
returns-clause-ended c k es =
    stops_so c.args.x.now c.count_stop.new.x c.args.tick k c.args.younger c.args.cause c.outcome_of-outcome.result es c.outcome_of-outcome.ensures.value
    c.count_stop.ensures.config c.count_stop.ensures.kept.acts
