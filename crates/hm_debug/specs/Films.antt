-- A RUN AS IT IS SHOWN, and the tape that holds it.
use Rattle.std.specs.Prelude.{◌≡◌, ℕ, List}
use Rattle.hm_base.specs.Image.{Segment, flash_byte}
use Rattle.hm_codes.specs.Listing.{Listing, IsListing}
use Rattle.hm_run_laws.specs.Runs.{run, run_out, shown}
use Rattle.hm_machine.specs.Shown.{Shown, Shows}
use Rattle.hm_machine.specs.Taped.{Taped, Tapes}
use Rattle.hm_run.specs.Timed.{Timed}
use Rattle.hm_sched.specs.Schedule.{Sched}

-- each of its ticks, the number of the ticks that it begins, the bytes of its flash, and what stands in it
pub record Film : Type 0 where
  pub at : ℕ → Timed
  pub last : ℕ
  pub flash : ℕ → ℕ
  pub listing : Listing

-- THE RUN of an image under a schedule, where this is the listing of its flash
abbrev pub film_of : Listing → List Segment → Sched → Film
film_of listing image s = record {
  at = λ t. shown (run listing image s t);
  last = (run_out listing image s).ticks;
  flash = flash_byte image;
  listing = listing;
}

-- a film shows the run that a tape holds
pub record IsFilm (f : Film) (w : Taped) : Type 0 where
  pub image : List Segment
  pub schedule : Sched
  pub listing : Listing
  pub listed : IsListing (flash_byte image) listing
  pub holds : Tapes image schedule w
  pub is : f ≡ film_of listing image schedule

-- a machine shows a tick of the run that a tape holds
abbrev pub ShowsTick : Taped → ℕ → Shown → Type 0
ShowsTick w t m = (image : List Segment) (s : Sched) → Tapes image s w → Shows image s t m
