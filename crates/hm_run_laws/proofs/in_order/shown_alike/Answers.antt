use Rattle.hm_run_laws.proofs.Readings.{shown_alike}
use Rattle.hm_run_laws.proofs.in_order.shown_alike.Goals as goal

pub returns : goal.returns
returns c = shown_alike
