use Rattle.hm_run_laws.proofs.Stopped.{stays_stopped, stopped_later}
use Rattle.hm_run_laws.proofs.in_order.orders_end.Goals as goal

pub returns : goal.returns
returns c = record { stays = stays_stopped; later = stopped_later }
