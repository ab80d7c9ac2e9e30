use Rattle.hm_run_laws.proofs.Alike.{alike_every}
use Rattle.hm_shake_runs.proofs.laws.reports_law.Goals as goal

pub returns : goal.returns
returns c = record {
  report = λ image listing s t r q n m e f. (alike_every listing image s t r q n m e f).report;
  alike = λ image listing s t r q n m e f. let h = alike_every listing image s t r q n m e f in (h.reason, h.number);
}
