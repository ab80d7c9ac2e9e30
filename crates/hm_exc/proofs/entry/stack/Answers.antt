use Rattle.hm_exc.proofs.Writes.{entered_seen}
use Rattle.hm_mem.specs.Memory.{memory_of}
use Rattle.hm_exc.proofs.entry.stack.Goals as goal

pub returns-clause-seen : goal.returns-clause-seen
returns-clause-seen c =
    entered_seen c.args.x.now _ _ (memory_of c.args.m.now) (memory_of c.set_actor.new.self) (memory_of c.write_frame.new.m) (memory_of c.take.new.m)
    (memory_of c.set_actor-2.new.self)
    c.set_actor.ensures.memory c.write_frame.ensures.seen c.take.ensures.memory c.set_actor-2.ensures.memory
