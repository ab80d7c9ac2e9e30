use Rattle.std.proofs.Common.{◌≡◌, ◌≤◌, List}
use Rattle.std.specs.List.{All}
use Rattle.hm_base.specs.Image.{Segment, flash_byte}
use Rattle.hm_codes.specs.Listing.{IsListing, Listing}
use Rattle.hm_sched.specs.Schedule.{most_irq}
use Rattle.hm_shake.specs.Repeats.{Repeats}
use Rattle.hm_shake.specs.Shorter.{LeavesOut}
use Rattle.hm_shake_runs.proofs.Room.{ticks}
use Rattle.hm_shake_runs.specs.Heads.{bare}
use Rattle.hm_shake.specs.Ends.{EndsAs, EndsInLast, ended_under}
use Rattle.hm_shake_runs.specs.Stretches.{IsStretch, with_stretches}
use Rattle.hm_shake.proofs.shrinking.shrink.Given as goal

abbrev pub invariant-loop-size : goal.invariant-loop-size
invariant-loop-size g l = record {
  again : (image : List Segment) → Repeats image l.head l.fn.repeater → Repeats image l.head l.repeater;
  sound : All (IsStretch (most_irq l.head.format)) l.best.items;
  few : ticks l.best.items ≤ l.ended.ticks;
  leaves : LeavesOut l.best.items l.stretches;
  fewer : ticks l.best.items ≤ ticks l.stretches;
  kind : (image : List Segment) (listing : Listing) → IsListing (flash_byte image) listing → Repeats image l.head l.fn.repeater
      → l.ended ≡ ended_under listing image (with_stretches l.stretches (bare l.head))
      → EndsAs listing image l.ended.kind (with_stretches l.best.items (bare l.head));
  last : (image : List Segment) (listing : Listing) → IsListing (flash_byte image) listing → Repeats image l.head l.fn.repeater
      → l.ended ≡ ended_under listing image (with_stretches l.stretches (bare l.head)) → EndsInLast listing image l.head l.best.items;
}

abbrev pub decreases-loop-size : goal.decreases-loop-size
decreases-loop-size g l = l.size
