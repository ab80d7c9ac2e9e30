use Rattle.hm_run_laws.proofs.Quiet.{run_still}
use Rattle.hm_run_laws.proofs.without_entries.Goals as goal

pub returns : goal.returns
returns c = record { none = run_still }
