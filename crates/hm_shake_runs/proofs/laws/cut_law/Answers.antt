use Rattle.hm_shake_runs.proofs.Cutting.{cut_same, out_few}
use Rattle.hm_shake_runs.proofs.laws.cut_law.Goals as goal

pub returns : goal.returns
returns c = record { same = λ image listing h xs. cut_same listing image h xs; few = λ image listing h xs. out_few listing image h xs }
