use Rattle.std.proofs.Common.{◌≡◌, ℕ, ◌*◌, ◌<◌, ◌≤◌, ◌^◌, map, slice_get, Some}
use Rattle.hm_journal.specs.Journals.{ReportAt}
use Rattle.hm_journal.specs.Views.{checkpoint_of}
use Rattle.hm_journal.proofs.reading.has_ticks.Given as goal

abbrev pub invariant-loop-x : goal.invariant-loop-x
invariant-loop-x l = record {
  tick : l.tick ≡ l.x-index * l.d.every;
  small : l.tick ≤ l.x-index * 2 ^ 32;
  each : (k : ℕ) (x : ReportAt) → k < l.x-index → slice_get (map checkpoint_of l.d.checkpoints.items) k ≡ Some x → x.tick ≡ k * l.d.every;
}
