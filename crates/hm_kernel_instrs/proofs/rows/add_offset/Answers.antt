use Rattle.hm_kernel_instrs.proofs.Made.{sum_made}
use Rattle.hm_kernel_instrs.proofs.rows.add_offset.Goals as goal

pub returns : goal.returns
returns c = record { row = sum_made _ 5 4 c.new.ensures c.new-2.ensures }
