use Rattle.std.proofs.Common.{sym, ◌∙◌}
use Rattle.hm_enc32_data.proofs.Refused.{refused_t5}
use Rattle.hm_enc32_data.proofs.decode_fields.decode_t5.Goals as goal

pub returns-then-not-may_be_t5-clause-none : goal.returns-then-not-may_be_t5-clause-none
returns-then-not-may_be_t5-clause-none c =
    refused_t5 c.args.w c.bits-sh.result c.bits-n.result c.bits-d.result c.bits-i3.result c.bits-i2.result c.bits-s.result (cc)
    (sym c.may_be_t5.ensures ∙ c.if-not-may_be_t5.true)
