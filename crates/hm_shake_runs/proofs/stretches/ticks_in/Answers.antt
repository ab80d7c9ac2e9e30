use Rattle.std.proofs.Common.{arith}
use Rattle.hm_shake_runs.proofs.Turns.{taken_ticks}
use Rattle.hm_shake_runs.proofs.stretches.ticks_in.Goals as goal

pub overflow_add-ticks : goal.overflow_add-ticks
overflow_add-ticks c =
    let few = taken_ticks c.args.stretches.now c.loop-stretch.stretch-index c.loop-stretch-test.true in
    omega arith
