use Rattle.std.proofs.Common.{refl}
use Rattle.hm_text.proofs.shape_of.Goals as goal

pub formed_shape-requires : goal.formed_shape-requires
formed_shape-requires c = record { form = c.in-Ok.ensures.fits.0 refl }

pub returns-in-Err-clause-told : goal.returns-in-Err-clause-told
returns-in-Err-clause-told c = (c.in-Err.ensures.refused c.in-Err.column).1 refl
