use Rattle.hm_run_laws.proofs.Ends.{all_ended, ended_stays, run_past}
use Rattle.hm_run_laws.proofs.runs_end.Goals as goal

pub returns : goal.returns
returns c = record {
  ends = λ listing image s. all_ended listing s image;
  stays = λ listing image s. ended_stays listing s image;
  past = λ listing image s. run_past listing s image;
}
