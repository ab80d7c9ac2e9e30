use Rattle.hm_recent.proofs.Halves.{told_even, told_stand}
use Rattle.hm_mem.specs.Memory.{memory_of}
use Rattle.hm_recent.proofs.recent.halves_at.Goals as goal

pub returns-clause-even : goal.returns-clause-even
returns-clause-even c = told_even (memory_of c.args.m.now) c.args.addr c.halves.result c.halves.ensures.first

pub returns-clause-stand : goal.returns-clause-stand
returns-clause-stand c =
    told_stand (memory_of c.args.m.now) c.args.addr c.halves.result c.halves.ensures.first c.halves.ensures.second c.halves.ensures.flash
