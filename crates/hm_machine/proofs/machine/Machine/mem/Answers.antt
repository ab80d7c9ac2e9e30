use Rattle.std.proofs.Common.{ap}
use Rattle.hm_machine.specs.Shown.{Shown}
use Rattle.hm_machine.proofs.machine.Machine.mem.Goals as goal

pub returns : goal.returns
returns c = record { value = ap (λ (v : Shown). v.memory) c.self.view_is }
