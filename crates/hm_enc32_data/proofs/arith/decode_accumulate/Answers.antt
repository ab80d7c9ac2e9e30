use Rattle.std.proofs.Common.{sym, ◌∙◌}
use Rattle.hm_enc32_data.proofs.Refused.{refused_accumulate}
use Rattle.hm_enc32_data.proofs.arith.decode_accumulate.Goals as goal

pub returns-then-not-may_accumulate-clause-none : goal.returns-then-not-may_accumulate-clause-none
returns-then-not-may_accumulate-clause-none c =
    refused_accumulate c.args.w c.bits-n.result c.bits-a.result c.bits-d.result c.bits-m.result (cc)
    (sym c.may_accumulate.ensures ∙ c.if-not-may_accumulate.true)
