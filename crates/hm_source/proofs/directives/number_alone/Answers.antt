use Rattle.std.proofs.Common.{refl}
use Rattle.hm_source.proofs.directives.number_alone.Goals as goal

pub returns-in_err-number-clause-only : goal.returns-in_err-number-clause-only
returns-in_err-number-clause-only c n a lt = absurd (c.in_err-number.ensures.only n a.0 (a.0, a.1, refl))
