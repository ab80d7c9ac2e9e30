use Rattle.hm_sched.proofs.WordLaws.{low_named}
use Rattle.hm_soak.proofs.ticks.add.Goals as goal

pub add-requires-clause-named : goal.add-requires-clause-named
add-requires-clause-named c = low_named c.args.lines.now.format c.args.irq c.ranges.irq.fits
