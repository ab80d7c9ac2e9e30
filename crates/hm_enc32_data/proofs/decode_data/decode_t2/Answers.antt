use Rattle.std.proofs.Common.{arith, sym, ◌∙◌}
use Rattle.hm_enc32_data.proofs.Refused.{refused_t2}
use Rattle.hm_enc32_data.proofs.decode_data.decode_t2.Goals as goal

pub returns-then-not-may_be_t2-clause-none : goal.returns-then-not-may_be_t2-clause-none
returns-then-not-may_be_t2-clause-none c =
    refused_t2 c.args.w c.bits-s.result c.bits-n.result c.bits-d.result c.bits-i3.result c.bits-i2.result c.bits-ty.result c.bits-m.result
    c.in_ok-name.name (cc) _ c.in_ok-name.ensures.found (omega arith) (sym c.may_be_t2.ensures ∙ c.if-not-may_be_t2.true)
