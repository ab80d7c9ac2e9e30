use Rattle.hm_order.proofs.Steps.{younger_agrees}
use Rattle.hm_order.proofs.younger_step.Goals as goal

pub returns : goal.returns
returns g c = record { agrees = younger_agrees }
