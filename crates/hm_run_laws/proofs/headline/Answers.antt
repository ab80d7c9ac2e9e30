use Rattle.hm_run_laws.proofs.Headlines.{headline_every}
use Rattle.hm_run_laws.proofs.headline.Goals as goal

pub returns : goal.returns
returns c = record { every = headline_every }
