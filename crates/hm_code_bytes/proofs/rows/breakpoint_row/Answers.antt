use Rattle.hm_code_bytes.proofs.Made.{breakpoint_made}
use Rattle.hm_code_bytes.proofs.rows.breakpoint_row.Goals as goal

pub returns : goal.returns
returns c = record { row = breakpoint_made _ c.args.x c.new.ensures }
