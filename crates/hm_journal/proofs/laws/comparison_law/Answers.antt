use Rattle.hm_journal.proofs.Comparing.{one_comparison, some_comparison}
use Rattle.hm_journal.proofs.laws.comparison_law.Goals as goal

pub returns-clause-one : goal.returns-clause-one
returns-clause-one c = one_comparison

pub returns-clause-some : goal.returns-clause-some
returns-clause-some c = some_comparison
