use Rattle.std.proofs.Common.{◌≡◌, List, map}
use Rattle.hm_base.specs.Image.{Segment, flash_byte}
use Rattle.hm_codes.specs.Listing.{Listing, IsListing}
use Rattle.hm_machine.specs.Taped.{Tapes}
use Rattle.hm_sched.specs.Schedule.{Sched}
use Rattle.hm_journal.specs.Runs.{first_checkpoints, report_at}
use Rattle.hm_journal.specs.Views.{checkpoint_of}
use Rattle.hm_journal.proofs.running.checkpoints.Given as goal

abbrev pub invariant-loop-k : goal.invariant-loop-k
invariant-loop-k l = record {
  stays : l.tape ≡ l.fn.tape;
  built : (image : List Segment) (s : Sched) (listing : Listing) → IsListing (flash_byte image) listing → Tapes image s l.fn.tape
      → map checkpoint_of l.checkpoints.items ≡ first_checkpoints (report_at listing image s) l.fn.every l.k;
}
