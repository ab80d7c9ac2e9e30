use Rattle.std.proofs.Common.{◌∙◌}
use Rattle.hm_kernel_instrs.proofs.Made.{move_made}
use Rattle.hm_kernel_instrs.proofs.rows.transfer.Goals as goal

pub returns : goal.returns
returns c = record {
  row = move_made _ c.args.t c.args.l c.args.d 5 c.new.ensures c.new-2.ensures c.new-3.ensures c.new-4.ensures c.new-5.ensures
      c.new-6.ensures (c.new-7.ensures ∙ c.size_of.ensures.value) c.new-8.ensures;
}
