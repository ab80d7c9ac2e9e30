use Rattle.std.proofs.Common.{arith, sym, ◌∙◌}
use Rattle.hm_enc32_memory.proofs.Refused.{refused_t13}
use Rattle.hm_enc32_memory.proofs.decode.decode_t13.Goals as goal

pub returns-then-not-may_be_pair-clause-none : goal.returns-then-not-may_be_pair-clause-none
returns-then-not-may_be_pair-clause-none c =
    refused_t13 c.args.w c.bits-before.result c.bits-add.result c.bits-back.result c.bits-n.result c.bits-t.result c.bits-u.result
    c.bits-i.result c.in_ok-name.name (cc) _ c.in_ok-name.ensures.found (omega arith) (sym c.may_be_pair.ensures ∙ c.if-not-may_be_pair.true)
