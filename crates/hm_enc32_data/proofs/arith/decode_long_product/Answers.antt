use Rattle.std.proofs.Common.{sym, ◌∙◌}
use Rattle.hm_enc32_data.proofs.Refused.{refused_long_product}
use Rattle.hm_enc32_data.proofs.arith.decode_long_product.Goals as goal

pub returns-then-not-may_be_long_product-clause-none : goal.returns-then-not-may_be_long_product-clause-none
returns-then-not-may_be_long_product-clause-none c =
    refused_long_product c.args.w c.bits-n.result c.bits-l.result c.bits-h.result c.bits-m.result (cc)
    (sym c.may_be_long_product.ensures ∙ c.if-not-may_be_long_product.true)
