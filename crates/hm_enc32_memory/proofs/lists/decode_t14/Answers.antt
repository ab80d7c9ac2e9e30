use Rattle.std.proofs.Common.{arith, sym, ◌∙◌}
use Rattle.hm_enc32_memory.proofs.Refused.{refused_t14}
use Rattle.hm_enc32_memory.proofs.lists.decode_t14.Goals as goal

pub returns-then-not-may_be_wide_list-clause-none : goal.returns-then-not-may_be_wide_list-clause-none
returns-then-not-may_be_wide_list-clause-none c =
    refused_t14 c.args.w c.bits-back.result c.bits-n.result c.bits-list.result c.in_ok-name.name (cc) _ c.in_ok-name.ensures.found (omega arith)
    (sym c.may_be_wide_list.ensures ∙ c.if-not-may_be_wide_list.true)
