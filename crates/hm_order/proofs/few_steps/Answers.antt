use Rattle.hm_order.proofs.Headline.{few_steps}
use Rattle.hm_order.proofs.few_steps.Goals as goal

pub returns : goal.returns
returns g c = record { below = few_steps }
