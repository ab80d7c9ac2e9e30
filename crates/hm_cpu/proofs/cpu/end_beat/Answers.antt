use Rattle.std.proofs.Common.{◌≡◌, ◌+◌, arith}
use Rattle.hm_cpu.proofs.Steps.{settled}
use Rattle.hm_mem.specs.Memory.{memory_of}
use Rattle.hm_cpu.proofs.cpu.end_beat.Goals as goal

pub returns-else-x-lt3-clause-value : goal.returns-else-x-lt3-clause-value
returns-else-x-lt3-clause-value c listing around =
    let four : c.args.x.now.window.a + 1 ≡ 4 = omega (arith, c.if-x-lt3.false, c.requires.position.0) in
    settled listing around c.args.x.now.regs (memory_of c.args.x.now.mem) c.args.x.now.output.items _ _ _ _ four
