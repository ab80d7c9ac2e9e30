use Rattle.std.proofs.Common.{◌≡◌, ℕ, ◌<◌, List, map, slice_get, Some}
use Rattle.hm_base.specs.Image.{Segment, flash_byte}
use Rattle.hm_codes.specs.Listing.{Listing, IsListing}
use Rattle.hm_machine.specs.Taped.{Tapes}
use Rattle.hm_sched.specs.Schedule.{Sched}
use Rattle.hm_journal.specs.Journals.{ReportAt}
use Rattle.hm_journal.specs.Runs.{IsOfRun}
use Rattle.hm_journal.specs.Views.{checkpoint_of}
use Rattle.hm_journal.proofs.running.compare_all.Given as goal

abbrev pub invariant-loop-x : goal.invariant-loop-x
invariant-loop-x l = record {
  stays : l.tape ≡ l.fn.tape;
  before : (image : List Segment) (s : Sched) (listing : Listing) → IsListing (flash_byte image) listing → Tapes image s l.fn.tape
      → (k : ℕ) (x : ReportAt) → k < l.x-index → slice_get (map checkpoint_of l.checkpoints) k ≡ Some x → IsOfRun listing image s l.format x;
}
