use Rattle.std.proofs.Common.{◌≡◌, map, take}
use Rattle.serde_json.specs.View.{view}
use Rattle.hm_journal.specs.Journals.{checkpoint_data}
use Rattle.hm_journal.specs.Views.{checkpoint_of}
use Rattle.hm_journal.proofs.writing.checkpoint_values.Given as goal

abbrev pub invariant-loop-x : goal.invariant-loop-x
invariant-loop-x l = map view l.values.items ≡ map checkpoint_data (map checkpoint_of (take l.x-index l.checkpoints))
