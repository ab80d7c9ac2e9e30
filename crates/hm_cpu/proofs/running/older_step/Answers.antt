use Rattle.hm_recent.proofs.Known.{kept_stands}
use Rattle.hm_mem.specs.Memory.{memory_of, flash_at}
use Rattle.hm_cpu.proofs.running.older_step.Goals as goal

pub step_of-requires-clause-stands : goal.step_of-requires-clause-stands
step_of-requires-clause-stands c =
    kept_stands c.keep.new.recent (flash_at (memory_of c.args.x.now.mem)) c.args.x.now.regs.pc c.kept.result.now c.in_default.ensures.kept c.kept.ensures.value
