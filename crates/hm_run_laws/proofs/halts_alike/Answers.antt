use Rattle.hm_run_laws.proofs.Alike.{alike_every}
use Rattle.hm_run_laws.proofs.halts_alike.Goals as goal

pub returns : goal.returns
returns c = record { every = alike_every }
