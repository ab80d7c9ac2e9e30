use Rattle.hm_journal.proofs.Readings.{one_outcome, some_outcome}
use Rattle.hm_journal.proofs.laws.journal_law.Goals as goal

pub returns-clause-one : goal.returns-clause-one
returns-clause-one c = one_outcome

pub returns-clause-some : goal.returns-clause-some
returns-clause-some c = some_outcome
