use Rattle.std.proofs.Common.{arith, length-append}
use Rattle.hm_moves.proofs.Loops.{spans_more}
use Rattle.hm_moves.proofs.elements.spans.Goals as goal

pub loop-e-preserved : goal.loop-e-preserved
loop-e-preserved c = record {
  size = rw c.push.ensures.items (simp length-append (omega arith));
  value =
      spans_more c.args.z c.args.es.now c.loop-e.e-index c.loop-e.spans.items _ _ (omega arith) c.push.ensures.items c.byte_count.ensures.value
      c.loop-e.invariant.value;
}
