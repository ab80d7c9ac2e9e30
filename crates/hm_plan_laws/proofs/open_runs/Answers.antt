use Rattle.hm_plan_laws.proofs.Open.{open_run, ready}
use Rattle.hm_plan_laws.proofs.open_runs.Goals as goal

pub returns : goal.returns
returns c = record { ready = ready; given = open_run }
