use Rattle.std.proofs.Common.{◌≡◌, ◌++◌, take}
use Rattle.std.specs.List.{flat_map}
use Rattle.hm_codes.specs.Listing.{IsListing, Listing}
use Rattle.hm_mem.specs.Memory.{flash_at}
use Rattle.hm_trace.specs.Lines.{progress_part}
use Rattle.hm_trace.proofs.lines.add_progresses.Given as goal

abbrev pub invariant-loop-progress : goal.invariant-loop-progress
invariant-loop-progress l =
    (listing : Listing) → IsListing (flash_at l.machine.memory) listing
    → l.out.items ≡ l.initial.out.items ++ flat_map (progress_part listing) (take l.progress-index l.shown)
