use Rattle.hm_thumb.specs.Does.{in_machine}
use Rattle.hm_run_laws.proofs.Priorities.{start-levels, step-levels}
use Rattle.hm_run_laws.proofs.kept.priorities_keep.Goals as goal

pub returns : goal.returns
returns c = record { start = start-levels; kept = λ x. step-levels (in_machine x) }
