use Rattle.hm_mem.specs.Memory.{memory_of}
use Rattle.hm_whole.proofs.Executed.{executed_is}
use Rattle.hm_cpu.proofs.cpu.execute.Goals as goal

pub returns-clause-value : goal.returns-clause-value
returns-clause-value c output =
    executed_is c.step.result c.args.i.now c.args.regs.now c.step.new.regs (memory_of c.args.mem.now) (memory_of c.step.new.mem) output
    c.in_range.ensures.counted c.in_range.ensures.range.fpscr_fits c.in_range.ensures.range.vpr_fits c.step.ensures.kept.around c.step.ensures.value
