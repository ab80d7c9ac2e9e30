use Rattle.hm_state.specs.State.{state_of}
use Rattle.hm_machine.proofs.machine.Machine.tainted.Goals as goal

pub returns-clause-cell : goal.returns-clause-cell
unfolding state_of
returns-clause-cell c = rw (← c.self.view_is) c.tainted.ensures.value
