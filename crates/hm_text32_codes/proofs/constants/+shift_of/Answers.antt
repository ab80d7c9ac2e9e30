use Rattle.std.proofs.Common.{arith}
use Rattle.hm_text32_codes.proofs.Shifts.{is_byte, none_left, one_more}
use Rattle.hm_text32_codes.proofs.constants.+shift_of.Goals as goal

pub returns-then-n-eq0-clause-value : goal.returns-then-n-eq0-clause-value
returns-then-n-eq0-clause-value t c = none_left c.args.n c.args.c (omega (arith, c.if-n-eq0.true))

pub returns-then-c-lt256-clause-value : goal.returns-then-c-lt256-clause-value
returns-then-c-lt256-clause-value t c = is_byte c.args.n c.args.c (omega (arith, c.if-c-lt256.true))

pub returns-clause-value : goal.returns-clause-value
returns-clause-value t c = one_more c.args.n c.args.c c.shift_of.result (omega (arith, c.if-n-eq0.false)) (omega (arith, c.if-c-lt256.false))
    c.shift_of.ensures.value
