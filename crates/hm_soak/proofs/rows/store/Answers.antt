use Rattle.std.proofs.Common.{refl}
use Rattle.hm_soak.proofs.Made.{store_made}
use Rattle.hm_soak.proofs.rows.store.Goals as goal

pub returns : goal.returns
returns c = record { row = store_made _ c.args.t c.args.n refl c.new.ensures c.new-2.ensures c.new-3.ensures }
