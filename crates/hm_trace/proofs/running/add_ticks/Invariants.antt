use Rattle.std.proofs.Common.{◌≡◌, ℕ, ◌+◌, ◌-◌, ◌++◌, List}
use Rattle.hm_base.specs.Image.{Segment, flash_byte}
use Rattle.hm_codes.specs.Listing.{IsListing, Listing}
use Rattle.hm_machine.specs.Shown.{Shows}
use Rattle.hm_sched.specs.Schedule.{Sched}
use Rattle.hm_trace.specs.Traces.{ticks_from}
use Rattle.hm_trace.proofs.running.add_ticks.Given as goal

abbrev pub invariant-loop-k : goal.invariant-loop-k
invariant-loop-k l = record {
  shows : (image : List Segment) (s : Sched) (t : ℕ) → Shows image s t l.initial.machine → Shows image s (t + l._k) l.machine;
  left : (image : List Segment) (s : Sched) (t : ℕ) (listing : Listing) → IsListing (flash_byte image) listing → Shows image s t l.initial.machine
      → l.out.items ++ ticks_from l.form listing image s (t + l._k) (l.count - l._k) ≡ l.initial.out.items ++ ticks_from l.form listing image s t l.count;
}
