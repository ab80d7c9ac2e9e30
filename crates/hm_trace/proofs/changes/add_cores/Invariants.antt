use Rattle.std.proofs.Common.{◌≡◌, ◌-◌, ◌++◌, slice_index}
use Rattle.hm_trace.specs.Changes.{core_changes, texts_from, word_change}
use Rattle.hm_trace.specs.declared.changes.Word.TheVariants.{Core}
use Rattle.hm_trace.proofs.changes.add_cores.Given as goal

abbrev pub invariant-loop-k : goal.invariant-loop-k
invariant-loop-k l =
    l.out.items ++ texts_from (λ k. word_change (Core k) (slice_index l.before.r k) (slice_index l.after.r k)) l.k (13 - l.k)
    ≡ l.initial.out.items ++ core_changes l.before.r l.after.r
