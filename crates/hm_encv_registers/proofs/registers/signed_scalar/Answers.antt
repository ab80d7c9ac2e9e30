use Rattle.hm_isa.specs.Code.{scalar_base}
use Rattle.hm_isa.specs.Rules.{has_sign}
use Rattle.hm_encv_registers.proofs.registers.signed_scalar.Goals as goal

pub returns-clause-found : goal.returns-clause-found
returns-clause-found c = c.name_and_sign.ensures.found scalar_base (λ w found low given. given)

pub returns-clause-signs : goal.returns-clause-signs
returns-clause-signs c = c.name_and_sign.ensures.signs has_sign (λ x says given. given)

pub returns-clause-none : goal.returns-clause-none
returns-clause-none c = c.name_and_sign.ensures.none scalar_base has_sign (λ w found low given. given) (λ x says given. given)
