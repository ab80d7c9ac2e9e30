use Rattle.hm_run_laws.proofs.FromAnywhere.{more_more, order_counted, order_more}
use Rattle.hm_run_laws.proofs.positions.order_from_anywhere.Goals as goal

pub returns : goal.returns
returns c = record { more = order_more; again = more_more; counted = order_counted }
