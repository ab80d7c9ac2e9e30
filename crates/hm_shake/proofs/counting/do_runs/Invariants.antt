use Rattle.std.proofs.Common.{◌<◌, ◌≤◌, List}
use Rattle.std.specs.List.{All}
use Rattle.hm_base.specs.Image.{Segment, flash_byte}
use Rattle.hm_codes.specs.Listing.{IsListing, Listing}
use Rattle.hm_shake.specs.Counts.{AreCounted}
use Rattle.hm_shake.specs.Ends.{ends_in}
use Rattle.hm_shake.specs.Repeats.{Repeats}
use Rattle.hm_shake.proofs.counting.do_runs.Given as goal

-- the kinds so far are those of the runs so far
abbrev pub invariant-loop-run : goal.invariant-loop-run
invariant-loop-run g l = record {
  again : (image : List Segment) → Repeats image l.given.head l.fn.repeater → Repeats image l.given.head l.repeater;
  before : All (λ x. x.count ≤ l.run) l.tally.kinds.items;
  runs : All (λ x. x.run < l.run) l.tally.kinds.items;
  counted : (image : List Segment) (listing : Listing) → IsListing (flash_byte image) listing → Repeats image l.given.head l.fn.repeater
      → AreCounted (ends_in listing image l.given.plan l.given.head l.given.irqs.items) l.run l.tally.kinds.items;
}
