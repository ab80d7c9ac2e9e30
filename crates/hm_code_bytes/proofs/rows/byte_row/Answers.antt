use Rattle.std.proofs.Common.{refl}
use Rattle.hm_code_bytes.proofs.Made.{byte_made}
use Rattle.hm_code_bytes.proofs.rows.byte_row.Goals as goal

pub returns : goal.returns
returns c = record { row = byte_made _ c.args.name c.args.d c.args.x refl c.new.ensures c.new-2.ensures }
