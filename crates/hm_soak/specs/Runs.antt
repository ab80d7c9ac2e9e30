-- Runs that are over.
use Rattle.std.specs.Prelude.{◌≡◌, ℕ, List, length}
use Rattle.hm_base.specs.Image.{Segment, flash_byte}
use Rattle.hm_codes.specs.Listing.{IsListing, Listing}
use Rattle.hm_run_laws.specs.Runs.{run_out}
use Rattle.hm_machine.specs.Shown.{Shown, Shows}
use Rattle.hm_sched.specs.Schedule.{Sched, ticks_of}
use Rattle.hm_soak_laws.specs.Summary.{entered}

-- a machine shows the end of a run
pub record IsOver (image : List Segment) (s : Sched) (m : Shown) : Type 0 where
  pub shows : Shows image s (length (ticks_of s.lines)) m

-- so many ticks of a run begin in the thread and end in a handler
pub record CountsEntries (image : List Segment) (s : Sched) (e : ℕ) : Type 0 where
  pub counts : (listing : Listing) → IsListing (flash_byte image) listing → e ≡ entered listing image s (run_out listing image s).ticks
