use Rattle.std.proofs.Common.{arith}
use Rattle.hm_text_base.proofs.NumberSteps.{digits_more, more_below, below_limit}
use Rattle.hm_text_base.proofs.numbers.read_digits.Goals as goal

pub overflow_mul-n : goal.overflow_mul-n
overflow_mul-n c = omega (arith, below_limit 10 9 c.loop-c.c-index c.loop-c.n (omega arith) (omega arith) c.loop-c.invariant.0)

pub overflow_add-n : goal.overflow_add-n
overflow_add-n c = omega (arith, below_limit 10 9 c.loop-c.c-index c.loop-c.n (omega arith) (omega arith) c.loop-c.invariant.0)

pub loop-c-preserved : goal.loop-c-preserved
loop-c-preserved c =
    let h = c.if-not-is_ascii_digit.ensures in
    (more_below 10 c.loop-c.n c.from.result c.loop-c.c-index c.loop-c.invariant.0 (omega (arith, h.cases)), grind (arith, digits_more, h.value))

pub returns-clause-below : goal.returns-clause-below
returns-clause-below c = below_limit 10 c.args.most c.loop-c.c-index c.loop-c.n (omega arith) (omega arith) c.loop-c.invariant.0
