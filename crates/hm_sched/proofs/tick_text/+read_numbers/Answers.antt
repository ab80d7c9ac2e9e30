use Rattle.std.proofs.Common.{rules, arith}
use Rattle.hm_sched.specs.Words.{number_of}
use Rattle.hm_sched.proofs.TickSteps.{numbers_end, numbers_step, bits_under, bits_below}
use Rattle.hm_sched.proofs.tick_text.+read_numbers.Goals as goal

pub with_bit-bits-requires-clause-above : goal.with_bit-bits-requires-clause-above
with_bit-bits-requires-clause-above t c = bits_under c.args.least (number_of c.args.bits.now) c.in_ok-n.n c.requires.earlier c.if-n-least.false

pub read_numbers-requires : goal.read_numbers-requires
read_numbers-requires t c = (
  search rules,
  (
    c.requires.eight,
    (
      omega arith,
      rw c.with_bit-bits.ensures.value (bits_below c.args.least (number_of c.args.bits.now) c.in_ok-n.n c.requires.earlier c.if-n-least.false),
    ),
  ),
)

pub returns-in-empty : goal.returns-in-empty
returns-in-empty t c =
    rw c.with_bit-bits.ensures.value
    (numbers_end c.args.most c.args.least (number_of c.args.bits.now) c.in_ok-n.n c.args.words.now c.span.result.0.now c.span.result.1.now
    c.span.ensures.parts (search rules) c.if-n-least.false c.if-n-most.false c.in-empty.len_below)

pub returns-in-len1-up : goal.returns-in-len1-up
returns-in-len1-up t c =
    rw (
      numbers_step c.args.most c.args.least (number_of c.args.bits.now) c.in_ok-n.n c.args.words.now c.span.result.0.now c.span.result.1.now
          c.span.ensures.parts (search rules) c.if-n-least.false c.if-n-most.false c.in-len1-up.len_at_least,
      ← c.with_bit-bits.ensures.value,
    )
    c.read_numbers.ensures
