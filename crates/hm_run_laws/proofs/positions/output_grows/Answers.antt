use Rattle.hm_run_laws.proofs.Outputs.{output_grows}
use Rattle.hm_run_laws.proofs.positions.output_grows.Goals as goal

pub returns : goal.returns
returns c = record { every = output_grows }
