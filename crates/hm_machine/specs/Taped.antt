-- What callers see of a tape: a machine at the start of its run, how many ticks the run begins, and where its checkpoints lie.
use Rattle.std.specs.Prelude.{◌≡◌, ℕ, List}
use Rattle.hm_base.specs.Image.{Segment, flash_byte}
use Rattle.hm_codes.specs.Listing.{Listing, IsListing}
use Rattle.hm_run_laws.specs.Runs.{run_out}
use Rattle.hm_machine.specs.Shown.{Shown, Shows}
use Rattle.hm_sched.specs.Schedule.{Sched}

-- what callers see of a tape
pub record Taped : Type 0 where
  pub start : Shown
  pub last : ℕ
  -- a machine at each checkpoint, and how many ticks these are from one another
  pub checkpoints : List Shown
  pub apart : ℕ

-- A TAPE HOLDS THE RUN of an image under a schedule.
pub record Tapes (image : List Segment) (s : Sched) (w : Taped) : Type 0 where
  pub start : Shows image s 0 w.start
  pub last : (listing : Listing) → IsListing (flash_byte image) listing → (run_out listing image s).ticks ≡ w.last
