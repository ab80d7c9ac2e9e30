use Rattle.hm_shake.proofs.Telling.{names_apart}
use Rattle.hm_shake.proofs.naming.names_law.Goals as goal

pub returns : goal.returns
returns c = record { apart = names_apart c.args.a c.args.b c.kind_fits.ensures.fits c.kind_fits-2.ensures.fits }
