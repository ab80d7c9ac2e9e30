-- Machines to which ticks are given one by one.
use Rattle.std.specs.Prelude.{◌≡◌, ◌&&◌, Bool, List, []}
use Rattle.std.specs.Option.{is_none}
use Rattle.hm_base.specs.Image.{Segment, flash_byte}
use Rattle.hm_codes.specs.Listing.{Listing, IsListing}
use Rattle.hm_run_laws.specs.Runs.{Run, begin}
use Rattle.hm_machine.specs.Shown.{Shown, run_of}
use Rattle.hm_mem.specs.Memory.{flash_at}
use Rattle.hm_run_laws.specs.Next.{after_ticks}
use Rattle.hm_run.specs.Bare.{bare}
use Rattle.hm_run.specs.Program.{Program}
use Rattle.hm_run.specs.Ready.{is_ready}
use Rattle.hm_sched.specs.Schedule.{TickLine}

-- A machine shows an image after the ticks that it was given.
pub record ShowsGiven (image : List Segment) (given : List TickLine) (m : Shown) : Type 0 where
  pub bytes : flash_at m.memory ≡ flash_byte image
  pub now : (listing : Listing) → IsListing (flash_byte image) listing → run_of m [] ≡ after_ticks listing (bare []) given (begin image (bare []))

-- Its schedule has no entries, an empty region, the lowest floor, and no lines; nothing is interrupted in it, and no exception entered; and it
-- shows an image after some given ticks.
pub record IsBare (m : Shown) : Type 0 where
  pub plan : m.schedule ≡ bare []
  pub acts : m.acts ≡ []
  pub none : m.entries ≡ 0
  pub made : (image : List Segment) × (given : List TickLine) × ShowsGiven image given m

-- whether a run that goes on stands where O and then Y go on too
abbrev pub may_pair : Program → Run → Bool
may_pair M x = is_none x.outcome && is_ready M x.machine.config
