use Rattle.hm_shake_runs.proofs.Turns.{room_at}
use Rattle.hm_shake_runs.proofs.stretches.schedule_of.Goals as goal

pub add-requires-clause-room : goal.add-requires-clause-room
add-requires-clause-room c =
    room_at c.loop-stretch.s c.args.head.now c.args.stretches.now c.loop-stretch.stretch-index c.loop-stretch.invariant c.loop-stretch-test.true c.requires.room
