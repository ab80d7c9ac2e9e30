use Rattle.std.proofs.Common.{ℕ, ◌<◌, List}
use Rattle.hm_base.specs.Image.{Segment, flash_byte}
use Rattle.hm_codes.specs.Listing.{IsListing, Listing}
use Rattle.hm_shake.specs.Ends.{EndsOtherwise}
use Rattle.hm_shake.specs.Repeats.{Repeats}
use Rattle.hm_shake_runs.specs.Heads.{bare}
use Rattle.hm_shake_runs.specs.Stretches.{with_stretches, without}
use Rattle.hm_shake.proofs.shrinking.without_one.Given as goal

-- none of those that were tried can be left out
abbrev pub invariant-loop-kept : goal.invariant-loop-kept
invariant-loop-kept g l = record {
  again : (image : List Segment) → Repeats image l.head l.fn.repeater → Repeats image l.head l.repeater;
  needed : (image : List Segment) (listing : Listing) → IsListing (flash_byte image) listing → Repeats image l.head l.fn.repeater
      → (n : ℕ) → n < l.kept → EndsOtherwise listing image l.kind (with_stretches (without n 1 l.stretches) (bare l.head));
}
