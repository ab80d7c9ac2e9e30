use Rattle.hm_source.proofs.Asks.{first_word, name_asked}
use Rattle.hm_source.proofs.Fronts.{if_none}
use Rattle.hm_source.proofs.directives.read_directive.Goals as goal

pub returns-in_err-name-clause-only : goal.returns-in_err-name-clause-only
returns-in_err-name-clause-only c asked d = let w = first_word c.args.text.now asked d in absurd (c.in_err-name.ensures.only (name_asked asked) w.0 w.1)

pub returns-in_err-name-clause-none : goal.returns-in_err-name-clause-none
returns-in_err-name-clause-none c =
    if_none c.from_residual.result _ (λ asked d. let w = first_word c.args.text.now asked d in c.in_err-name.ensures.only (name_asked asked) w.0 w.1)
