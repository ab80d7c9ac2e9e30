use Rattle.std.proofs.Common.{sym, ◌∙◌}
use Rattle.hm_enc32_data.proofs.Refused.{refused_t3}
use Rattle.hm_enc32_data.proofs.decode_data.decode_t3.Goals as goal

pub returns-then-not-may_be_t3-clause-none : goal.returns-then-not-may_be_t3-clause-none
returns-then-not-may_be_t3-clause-none c =
    refused_t3 c.args.w c.bits-n.result c.bits-d.result c.bits-i.result c.bits-i3.result c.bits-byte.result (cc)
    (sym c.may_be_t3.ensures ∙ c.if-not-may_be_t3.true)
