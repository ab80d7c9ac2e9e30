use Rattle.hm_state.specs.State.{state_of}
use Rattle.hm_machine.proofs.machine.Machine.output.Goals as goal

pub returns : goal.returns
unfolding state_of
returns c = rw (← c.self.view_is) c.deref.ensures.value
