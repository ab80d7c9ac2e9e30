use Rattle.hm_sched.proofs.Ticks.{length-ticks_of}
use Rattle.hm_sched.proofs.Schedule.ticks.Goals as goal

pub returns-clause-each_tick : goal.returns-clause-each_tick
returns-clause-each_tick c = rw (length-ticks_of c.args.self.now.lines, ← c.self.view_is) c.self.invariant.sum
