use Rattle.hm_lane.proofs.Ends.{finish_others}
use Rattle.hm_lane.proofs.laws.finish_law.Goals as goal

pub returns-clause-others : goal.returns-clause-others
returns-clause-others c = finish_others
