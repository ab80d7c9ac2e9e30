use Rattle.hm_run_laws.proofs.Laws.{laws}
use Rattle.hm_run_laws.proofs.in_order.core_laws.Goals as goal

pub returns : goal.returns
returns c = record { kept = laws }
