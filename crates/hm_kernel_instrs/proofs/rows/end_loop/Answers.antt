use Rattle.std.proofs.Common.{refl}
use Rattle.hm_kernel_instrs.proofs.Made.{again_made}
use Rattle.hm_kernel_instrs.proofs.rows.end_loop.Goals as goal

pub returns : goal.returns
returns c = record { row = again_made _ c.args.halves refl c.new.ensures }
