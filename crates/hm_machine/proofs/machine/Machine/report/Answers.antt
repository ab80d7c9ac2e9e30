use Rattle.hm_state.specs.State.{state_of}
use Rattle.hm_machine.proofs.machine.Machine.report.Goals as goal

pub returns : goal.returns
unfolding state_of
returns c = rw (← c.self.view_is) (rw (c.depth.ensures.value, c.regs.ensures, c.deref.ensures.value, ← c.self.view_is) at c.report.ensures)
