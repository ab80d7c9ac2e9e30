use Rattle.std.proofs.Common.{[], refl}
use Rattle.hm_cpu.proofs.Steps.{beat_still}
use Rattle.hm_cpu.proofs.cpu.beat.Goals as goal

pub returns-in-Err-clause-stopped : goal.returns-in-Err-clause-stopped
returns-in-Err-clause-stopped c = beat_still _ _ c.in-Err.stop _ _ _ _ [] refl (c.in-Err.ensures.done [])
