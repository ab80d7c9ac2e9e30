use Rattle.hm_lane.proofs.Bits.{tail_at_most}
use Rattle.hm_lane.proofs.masks.tail.Goals as goal

pub returns-then-left-size-clause-at_most : goal.returns-then-left-size-clause-at_most
returns-then-left-size-clause-at_most c = tail_at_most c.get-left.result c.get-size.result c.if-size-lt4.true c.if-left-size.true
