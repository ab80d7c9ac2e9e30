use Rattle.std.proofs.Common.{sym, ◌∙◌}
use Rattle.hm_enc32_data.proofs.Refused.{refused_t6}
use Rattle.hm_enc32_data.proofs.decode_fields.decode_t6.Goals as goal

pub returns-then-not-may_be_t6-clause-none : goal.returns-then-not-may_be_t6-clause-none
returns-then-not-may_be_t6-clause-none c =
    refused_t6 c.args.w c.bits-n.result c.bits-d.result c.bits-i3.result c.bits-i2.result c.bits-width.result (cc)
    (sym c.may_be_t6.ensures ∙ c.if-not-may_be_t6.true)
