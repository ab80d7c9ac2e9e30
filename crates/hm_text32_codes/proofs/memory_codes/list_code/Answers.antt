use Rattle.std.proofs.Common.{ap, ◌∙◌, sym}
use Rattle.hm_isa.specs.Code.{wide_list_base}
use Rattle.hm_tokens.specs.Tokens.{comma}
use Rattle.hm_text32_codes.proofs.Lists.{list_back, list_code}
use Rattle.hm_text32_codes.proofs.memory_codes.list_code.Goals as goal

pub returns : goal.returns
returns c i name asks =
    let base = c.from.ensures ∙ c.base_of_wide_list.ensures.value ∙ ap wide_list_base (sym name) in
    c.list_sum.ensures ∙ (λ k. list_code (base k) c.args.o.now) ∙ list_back i comma c.args.o.now asks
