use Rattle.hm_run_laws.proofs.Standing.{stands_in_order}
use Rattle.hm_run_laws.proofs.positions.thread_position.Goals as goal

pub returns : goal.returns
returns c = record { every = stands_in_order }
