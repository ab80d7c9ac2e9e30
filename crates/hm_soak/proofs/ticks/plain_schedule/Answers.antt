use Rattle.hm_soak_laws.specs.Schedule.{in_order_schedule}
use Rattle.hm_soak.proofs.ticks.plain_schedule.Goals as goal

pub returns-in-Ok : goal.returns-in-Ok
unfolding in_order_schedule
returns-in-Ok c = record { value = c.in-Ok.ensures.ok }
