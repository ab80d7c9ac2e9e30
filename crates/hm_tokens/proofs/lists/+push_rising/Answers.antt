use Rattle.std.proofs.Common.{arith, map, length, ◌∙◌}
use Rattle.hm_tokens.specs.Tokens.{tok}
use Rattle.hm_tokens.proofs.Ranges.{rising_longer, rising_pushed}
use Rattle.hm_tokens.proofs.lists.+push_rising.Goals as goal

pub returns-clause-pushed : goal.returns-clause-pushed
returns-clause-pushed t c =
    rising_pushed c.push_rising.result (map tok c.args.out.now.items) (map tok c.push.new.out.items) (map tok c.push-2.new.out.items)
    (map tok c.push_rising.new.out.items)
    c.as_bytes.result.now c.args.k c.args.n (omega (arith, c.if-n-eq0.false)) (c.as_bytes.ensures.value ∙ c.register_name.ensures.text)
    c.in_ok-push.ensures.pushed c.in_ok-push-2.ensures.pushed
    c.push_rising.ensures.pushed

pub returns-clause-longer : goal.returns-clause-longer
returns-clause-longer t c =
    rising_longer c.push_rising.result (length c.args.out.now.items) (length c.push.new.out.items) (length c.push-2.new.out.items)
    (length c.push_rising.new.out.items)
    c.args.k c.args.n (omega (arith, c.if-n-eq0.false)) c.in_ok-push.ensures.longer c.in_ok-push-2.ensures.longer c.push_rising.ensures.longer
