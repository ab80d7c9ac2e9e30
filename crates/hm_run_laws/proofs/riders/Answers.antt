use Rattle.hm_run_laws.proofs.Lying.{taint_lies}
use Rattle.hm_run_laws.proofs.Headlines.{riders_every}
use Rattle.hm_run_laws.proofs.riders.Goals as goal

pub returns : goal.returns
returns c = record { every = riders_every; taint = taint_lies }
