use Rattle.hm_run_laws.proofs.Order.{keeps_order}
use Rattle.hm_run_laws.proofs.Headlines.{between_every}
use Rattle.hm_run_laws.proofs.thread_in_order.Goals as goal

pub returns : goal.returns
returns c = record { order = keeps_order; between = between_every }
