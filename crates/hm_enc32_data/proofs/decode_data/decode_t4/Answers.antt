use Rattle.std.proofs.Common.{sym, ◌∙◌}
use Rattle.hm_enc32_data.proofs.Refused.{refused_t4}
use Rattle.hm_enc32_data.proofs.decode_data.decode_t4.Goals as goal

pub returns-then-not-is_general-clause-none : goal.returns-then-not-is_general-clause-none
returns-then-not-is_general-clause-none c =
    refused_t4 c.args.w c.bits-d.result c.bits-i4.result c.bits-i.result c.bits-i3.result c.bits-byte.result (cc)
    (sym c.is_general.ensures.value ∙ c.if-not-is_general.true)
