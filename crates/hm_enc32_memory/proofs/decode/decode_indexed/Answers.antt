use Rattle.std.proofs.Common.{arith, sym, ◌∙◌}
use Rattle.hm_enc32_memory.proofs.Refused.{refused_indexed}
use Rattle.hm_enc32_memory.proofs.decode.decode_indexed.Goals as goal

pub returns-then-not-may_be_indexed-clause-none : goal.returns-then-not-may_be_indexed-clause-none
returns-then-not-may_be_indexed-clause-none c =
    refused_indexed c.args.w c.bits-n.result c.bits-t.result c.bits-before.result c.bits-up.result c.bits-back.result c.bits-i.result
    c.in_ok-name.name (cc) _ c.in_ok-name.ensures.found (omega arith) (sym c.may_be_indexed.ensures ∙ c.if-not-may_be_indexed.true)
