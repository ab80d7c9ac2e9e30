use Rattle.std.proofs.Common.{◌≡◌, List, map, take}
use Rattle.serde_json.specs.View.{view}
use Rattle.hm_journal.specs.Journals.{AreSmall, ReportAt, checkpoint_data}
use Rattle.hm_journal.specs.Views.{checkpoint_of}
use Rattle.hm_journal.proofs.reading.checkpoints_in.Given as goal

abbrev pub invariant-loop-value : goal.invariant-loop-value
invariant-loop-value l = (xs : List ReportAt) → AreSmall xs → map view l.values ≡ map checkpoint_data xs
    → map checkpoint_of l.checkpoints.items ≡ take l.value-index xs
