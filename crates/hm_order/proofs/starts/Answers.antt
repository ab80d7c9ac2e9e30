use Rattle.hm_order.proofs.Steps.{starts}
use Rattle.hm_order.proofs.starts.Goals as goal

pub returns : goal.returns
returns g c = record { holds = starts }
