use Rattle.std.proofs.Common.{◌≡◌, ◌-◌, ◌++◌, slice_index}
use Rattle.hm_trace.specs.Changes.{vector_changes, texts_from, word_change}
use Rattle.hm_trace.specs.declared.changes.Word.TheVariants.{Vector}
use Rattle.hm_trace.proofs.changes.add_vectors.Given as goal

abbrev pub invariant-loop-k : goal.invariant-loop-k
invariant-loop-k l =
    l.out.items ++ texts_from (λ k. word_change (Vector k) (slice_index l.before.qw k) (slice_index l.after.qw k)) l.k (32 - l.k)
    ≡ l.initial.out.items ++ vector_changes l.before.qw l.after.qw
