use Rattle.std.proofs.Common.{arith, slice_index}
use Rattle.hm_trace.specs.Changes.{word_change}
use Rattle.hm_trace.specs.declared.changes.Word.TheVariants.{Vector}
use Rattle.hm_trace.proofs.Texts.{texts_done, texts_on}
use Rattle.hm_trace.proofs.changes.add_vectors.Goals as goal

pub loop-k-preserved : goal.loop-k-preserved
loop-k-preserved c =
    texts_on (λ k. word_change (Vector k) (slice_index c.args.before.now.qw k) (slice_index c.args.after.now.qw k)) 32 c.loop-k.k _ _ _ c.loop-k-test.true
    c.in_ok-add_word.ensures.added c.loop-k.invariant

pub returns : goal.returns
returns c = record {
  added = texts_done (λ k. word_change (Vector k) (slice_index c.args.before.now.qw k) (slice_index c.args.after.now.qw k)) 32 c.loop-k.k _ _ (omega arith)
      c.loop-k.invariant;
}
