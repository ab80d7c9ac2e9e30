use Rattle.std.proofs.Common.{sym}
use Rattle.hm_mem.specs.Memory.{memory_of}
use Rattle.hm_state.proofs.Registers.{registers_are}
use Rattle.hm_machine.proofs.machine.Machine.regs.Goals as goal

pub returns : goal.returns
returns c = rw (← c.self.view_is)
    (sym (registers_are c.self.inside.cpu.regs (memory_of c.self.inside.cpu.mem) c.self.inside.cpu.output.items c.in_range.ensures.counted
    c.in_range.ensures.range.fpscr_fits c.in_range.ensures.range.vpr_fits))
