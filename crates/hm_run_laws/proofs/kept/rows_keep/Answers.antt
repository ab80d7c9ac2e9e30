use Rattle.hm_run_laws.proofs.Instructions.{rows-keep}
use Rattle.hm_run_laws.proofs.kept.rows_keep.Goals as goal

pub returns : goal.returns
returns c = record { ends = rows-keep }
