use Rattle.std.proofs.Common.{refl}
use Rattle.hm_code_bytes.proofs.Made.{add_made}
use Rattle.hm_code_bytes.proofs.rows.add_row.Goals as goal

pub returns : goal.returns
returns c = record { row = add_made _ c.args.z c.args.name c.args.d c.args.n c.args.m c.new.ensures refl c.new-2.ensures c.new-3.ensures c.new-4.ensures }
