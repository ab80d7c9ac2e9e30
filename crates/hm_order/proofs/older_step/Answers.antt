use Rattle.hm_order.proofs.Steps.{older_agrees}
use Rattle.hm_order.proofs.older_step.Goals as goal

pub returns : goal.returns
returns g c = record { agrees = older_agrees }
