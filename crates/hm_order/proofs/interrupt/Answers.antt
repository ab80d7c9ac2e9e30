use Rattle.hm_order.proofs.Steps.{interrupt_holds}
use Rattle.hm_order.proofs.interrupt.Goals as goal

pub returns : goal.returns
returns g c = record { holds = interrupt_holds }
