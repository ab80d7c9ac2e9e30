use Rattle.std.proofs.Common.{◌<◌, ◌^◌, lit<}
use Rattle.hm_source.specs.declared.directives.Multiple.{Multiple}
use Rattle.hm_source.specs.declared.directives.Multiple.TheVariants.{Two}
use Rattle.hm_source.specs.Directives.{multiple_of}
use Rattle.hm_source.proofs.directives.multiple_alone.Goals as goal

small : (m : Multiple) → multiple_of m < 2 ^ 32
small Two = lit< tt
small m = lit< tt

pub returns-in_err-number_alone-clause-only : goal.returns-in_err-number_alone-clause-only
returns-in_err-number_alone-clause-only c m a = absurd (c.in_err-number_alone.ensures.only (multiple_of m) a (small m))
