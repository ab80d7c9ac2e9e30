use Rattle.std.proofs.Common.{arith}
use Rattle.hm_text_base.proofs.NumberSteps.{hex_more, more_below}
use Rattle.hm_text_base.proofs.numbers.read_hex8.Goals as goal

pub loop-c-preserved : goal.loop-c-preserved
loop-c-preserved c = (
  more_below 16 c.loop-c.n c.from.result c.loop-c.c-index c.loop-c.invariant.0 (omega (arith, c.in_ok-digit.ensures.below)),
  grind (arith, hex_more),
)
