use Rattle.hm_soak_laws.proofs.Ends.{halted_retired}
use Rattle.hm_soak_laws.proofs.halted_law.Goals as goal

pub returns : goal.returns
returns c = record { retired = halted_retired }
