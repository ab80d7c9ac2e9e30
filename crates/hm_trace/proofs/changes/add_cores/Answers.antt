use Rattle.std.proofs.Common.{arith, slice_index}
use Rattle.hm_trace.specs.Changes.{word_change}
use Rattle.hm_trace.specs.declared.changes.Word.TheVariants.{Core}
use Rattle.hm_trace.proofs.Texts.{texts_done, texts_on}
use Rattle.hm_trace.proofs.changes.add_cores.Goals as goal

pub loop-k-preserved : goal.loop-k-preserved
loop-k-preserved c =
    texts_on (λ k. word_change (Core k) (slice_index c.args.before.now.r k) (slice_index c.args.after.now.r k)) 13 c.loop-k.k _ _ _ c.loop-k-test.true
    c.in_ok-add_word.ensures.added c.loop-k.invariant

pub returns : goal.returns
returns c = record {
  added = texts_done (λ k. word_change (Core k) (slice_index c.args.before.now.r k) (slice_index c.args.after.now.r k)) 13 c.loop-k.k _ _ (omega arith)
      c.loop-k.invariant;
}
