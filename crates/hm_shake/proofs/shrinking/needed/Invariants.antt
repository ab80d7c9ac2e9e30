use Rattle.std.proofs.Common.{◌≤◌, List}
use Rattle.std.specs.List.{All}
use Rattle.hm_base.specs.Image.{Segment, flash_byte}
use Rattle.hm_codes.specs.Listing.{IsListing, Listing}
use Rattle.hm_sched.specs.Schedule.{most_irq}
use Rattle.hm_shake.specs.Ends.{EndsAs, EndsInLast}
use Rattle.hm_shake.specs.Repeats.{Repeats}
use Rattle.hm_shake.specs.Shorter.{LeavesOut}
use Rattle.hm_shake_runs.proofs.Room.{ticks}
use Rattle.hm_shake_runs.specs.Heads.{bare}
use Rattle.hm_shake_runs.specs.Stretches.{IsStretch, interrupts_in, with_stretches}
use Rattle.hm_shake.proofs.shrinking.needed.Given as goal

abbrev pub invariant-loop-best : goal.invariant-loop-best
invariant-loop-best g l = record {
  again : (image : List Segment) → Repeats image l.head l.fn.repeater → Repeats image l.head l.repeater;
  sound : All (IsStretch (most_irq l.head.format)) l.best.items;
  leaves : LeavesOut l.best.items l.fn.stretches.items;
  fewer : ticks l.best.items ≤ ticks l.fn.stretches.items;
  kind : (image : List Segment) (listing : Listing) → IsListing (flash_byte image) listing → Repeats image l.head l.fn.repeater
      → EndsAs listing image l.kind (with_stretches l.fn.stretches.items (bare l.head))
      → EndsAs listing image l.kind (with_stretches l.best.items (bare l.head));
  last : (image : List Segment) (listing : Listing) → IsListing (flash_byte image) listing → Repeats image l.head l.fn.repeater
      → EndsInLast listing image l.head l.fn.stretches.items → EndsInLast listing image l.head l.best.items;
}

abbrev pub decreases-loop-best : goal.decreases-loop-best
decreases-loop-best g l = interrupts_in l.best.items
