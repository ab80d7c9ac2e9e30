use Rattle.std.proofs.Common.{◌∙◌}
use Rattle.hm_kernel_instrs.proofs.Made.{begin_made}
use Rattle.hm_kernel_instrs.proofs.rows.begin_loop.Goals as goal

pub returns : goal.returns
returns c = record { row = begin_made _ c.args.t c.args.halves (c.new.ensures ∙ c.size_of.ensures.value) c.new-2.ensures c.new-3.ensures }
