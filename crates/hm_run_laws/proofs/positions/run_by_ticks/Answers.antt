use Rattle.hm_run_laws.proofs.Prefixes.{run_alike, run_taken}
use Rattle.hm_run_laws.proofs.positions.run_by_ticks.Goals as goal

pub returns : goal.returns
returns c = record { taken = λ listing image s t. run_taken listing s image t; alike = run_alike }
