use Rattle.std.proofs.Common.{refl}
use Rattle.hm_soak.proofs.Made.{jump_made}
use Rattle.hm_soak.proofs.rows.branch_to_link.Goals as goal

pub returns : goal.returns
returns c = record { row = jump_made _ 14 refl c.new.ensures }
