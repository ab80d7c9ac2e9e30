use Rattle.hm_isa.specs.Code.{constant_shift_base}
use Rattle.hm_isa.specs.Rules.{shift_has_sign}
use Rattle.hm_encv_vectors.proofs.shifts.signed_shift.Goals as goal

pub returns-clause-found : goal.returns-clause-found
returns-clause-found c = c.name_and_sign.ensures.found constant_shift_base (λ w found low given. given)

pub returns-clause-signs : goal.returns-clause-signs
returns-clause-signs c = c.name_and_sign.ensures.signs shift_has_sign (λ x says given. given)

pub returns-clause-none : goal.returns-clause-none
returns-clause-none c = c.name_and_sign.ensures.none constant_shift_base shift_has_sign (λ w found low given. given) (λ x says given. given)
