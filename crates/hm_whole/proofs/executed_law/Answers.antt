use Rattle.hm_whole.proofs.Executed.{executed_is, made_on_err}
use Rattle.hm_whole.proofs.executed_law.Goals as goal

pub returns : goal.returns
returns c = record { value = executed_is; stopped = made_on_err }
