use Rattle.hm_lane.proofs.LaneLists.{lanes-unlanes, unlanes-lanes}
use Rattle.hm_lane.proofs.laws.lanes_law.Goals as goal

pub returns-clause-there : goal.returns-clause-there
returns-clause-there c = lanes-unlanes

pub returns-clause-back : goal.returns-clause-back
returns-clause-back c = unlanes-lanes
