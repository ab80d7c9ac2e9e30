use Rattle.hm_shake.proofs.Ends.{ends_so}
use Rattle.hm_shake.proofs.ended.end_of.Goals as goal

pub returns-clause-ended : goal.returns-clause-ended
returns-clause-ended c = λ image s listing shows is.
    ends_so listing image s c.run-outcome.new.self (c.run-outcome.ensures.shows image s 0 shows) is c.run-outcome.result c.kind_of.result c.ticks.result
    c.run-outcome.ensures.outcome c.kind_of.ensures.value c.ticks.ensures.value

pub returns-clause-shows : goal.returns-clause-shows
returns-clause-shows c = λ image s shows. c.run-outcome.ensures.shows image s 0 shows
