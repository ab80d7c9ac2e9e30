use Rattle.hm_order.proofs.Swaps.{swapped}
use Rattle.hm_order.proofs.exchange.Goals as goal

pub returns : goal.returns
returns g c = record { same = swapped }
