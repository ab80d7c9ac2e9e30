use Rattle.std.proofs.Common.{sym, ◌∙◌}
use Rattle.hm_cpu.proofs.Nestings.{stacked_many}
use Rattle.hm_machine.proofs.machine.Machine.depth.Goals as goal

pub returns : goal.returns
returns c = record { value = rw (← c.self.view_is) (c.len.ensures.value ∙ sym (stacked_many c.self.inside.cpu)) }
