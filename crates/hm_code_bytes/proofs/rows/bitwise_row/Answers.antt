use Rattle.std.proofs.Common.{refl}
use Rattle.hm_code_bytes.proofs.Made.{bitwise_made}
use Rattle.hm_code_bytes.proofs.rows.bitwise_row.Goals as goal

pub returns : goal.returns
returns c = record { row = bitwise_made _ c.args.name c.args.d c.args.n c.args.m refl c.new.ensures c.new-2.ensures c.new-3.ensures }
