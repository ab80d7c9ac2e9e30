use Rattle.hm_work.proofs.HexRuns.{hex_runs_alike}
use Rattle.hm_commands.proofs.laws.hex_run_law.Goals as goal

pub returns : goal.returns
returns c = record { alike = hex_runs_alike }
