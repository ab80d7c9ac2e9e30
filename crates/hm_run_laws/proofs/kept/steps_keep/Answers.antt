use Rattle.hm_run_laws.proofs.KeptSteps.{step-main, step-number, step-sound}
use Rattle.hm_run_laws.proofs.kept.steps_keep.Goals as goal

pub returns : goal.returns
returns c = record {
  number = λ R. step-number R;
  block = λ R. step-sound R;
  main = λ R. step-main R;
  number_alone = λ R. step-number R;
  block_alone = λ R. step-sound R;
  main_alone = λ R. step-main R;
}
