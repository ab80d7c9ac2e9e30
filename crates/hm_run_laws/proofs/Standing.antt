-- What holds after each tick, all together.
use Rattle.std.proofs.Common.{ℕ, List}
use Rattle.hm_base.specs.Image.{Segment}
use Rattle.hm_codes.specs.Listing.{Listing}
use Rattle.hm_run_laws.specs.Runs.{run}
use Rattle.hm_sched.specs.Schedule.{Sched}
use Rattle.hm_run_laws.specs.Position.{StandsInOrder}
use Rattle.hm_run_laws.proofs.Oldest.{thread_every}
use Rattle.hm_run_laws.proofs.Position.{position_every}

pub stands_in_order : (listing : Listing) (image : List Segment) (s : Sched) (t : ℕ) → StandsInOrder listing image s (run listing image s t)
stands_in_order listing image s t = record { position = position_every listing image s t; thread = thread_every listing image s t }
