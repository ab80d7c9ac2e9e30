use Rattle.hm_state.specs.State.{state_of}
use Rattle.hm_machine.proofs.machine.Machine.memory_file.Goals as goal

pub returns : goal.returns
unfolding state_of
returns c = rw (← c.self.view_is) c.memory_text.ensures
