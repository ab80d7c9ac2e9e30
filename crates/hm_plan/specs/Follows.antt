-- THE LINES OF A PLAN behind the ticks that a machine did.
use Rattle.std.specs.Prelude.{◌≡◌, ℕ, ◌+◌, ◌*◌, ◌≤◌, List, []}
use Rattle.hm_base.specs.Image.{Segment, flash_byte}
use Rattle.hm_codes.specs.Listing.{Listing, IsListing}
use Rattle.hm_machine.specs.Bares.{IsBare}
use Rattle.hm_machine.specs.Shown.{Shown, run_of}
use Rattle.hm_mem.specs.Memory.{flash_at}
use Rattle.hm_plan.specs.declared.lines.Lines.{Lines}
use Rattle.hm_plan_laws.proofs.Loops.{Stands}
use Rattle.hm_run.specs.Bare.{bare}
use Rattle.hm_sched.specs.Schedule.{total}

-- lines follow a machine that does the plan of n instructions of an image
pub record Follow (image : List Segment) (n : ℕ) (lines : Lines) (m : Shown) : Type 0 where
  pub stands : (listing : Listing) → IsListing (flash_byte image) listing → Stands listing image n lines.schedule.lines lines.count lines.kind (run_of m [])
  pub flash : flash_at m.memory ≡ flash_byte image
  pub made : IsBare m
  pub head : lines.schedule ≡ bare lines.schedule.lines
  pub count : total lines.schedule.lines + lines.count ≡ (run_of m []).ticks
  pub most : (run_of m []).ticks ≤ 4 * n
  pub some : 1 ≤ lines.count
