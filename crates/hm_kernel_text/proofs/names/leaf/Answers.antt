use Rattle.std.proofs.Common.{ap, sym, ◌∙◌}
use Rattle.hm_kernel_text.specs.Trees.{word}
use Rattle.hm_kernel_text.proofs.NameSteps.{number_found}
use Rattle.hm_kernel_text.proofs.names.leaf.Goals as goal

pub returns-clause-expr : goal.returns-clause-expr
returns-clause-expr c =
    ap word (sym (number_found c.modulus.result c.args.text.now c.unwrap-2.result (sym c.number_below.ensures.value ∙ c.unwrap-2.ensures)).0)
