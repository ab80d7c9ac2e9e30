-- What is shown of a soak.
use Rattle.std.specs.Prelude.{◌≡◌, ◌↔◌, ℕ, zero, suc, ◌+◌, Bool, true, not, ◌&&◌, cond, nat_eq, List, ◌++◌, codes, Some}
use Rattle.std.specs.Fmt.{decimal}
use Rattle.hm_base.specs.Image.{Segment, flash_byte}
use Rattle.hm_codes.specs.Listing.{IsListing, Listing}
use Rattle.hm_run_laws.specs.Runs.{Run, run, run_out}
use Rattle.hm_run.specs.declared.Outcome.TheVariants as outcome
use Rattle.hm_run.specs.declared.Reason.{Reason}
use Rattle.hm_run.specs.declared.Reason.TheVariants.{Break}
use Rattle.hm_run.specs.InOrder.{Halted, in_order}
use Rattle.hm_sched.specs.Schedule.{Sched, plain}
use Rattle.hm_state.specs.State.{State, regs_of}
use Rattle.hm_soak_laws.specs.Image.{IsSoak}
use Rattle.hm_soak_laws.specs.Schedule.{in_order_schedule, schedule}

-- the same registers, among them the flags, IT, FPSCR, VPR and the vector registers, and the same output
pub record SameShown (s t : State) : Type 0 where
  pub registers : regs_of s ≡ regs_of t
  pub output : s.rest.output ≡ t.rest.output

-- in thread mode the number of the exception that is handled is 0
abbrev pub in_thread : Run → Bool
in_thread x = nat_eq (regs_of x.machine.config.state).ipsr 0

-- of the first t ticks, how many begin in the thread and end in a handler
abbrev pub entered : Listing → List Segment → Sched → ℕ → ℕ
entered listing image s zero = 0
entered listing image s (suc t) = entered listing image s t + cond (in_thread (run listing image s t) && not (in_thread (run listing image s (suc t)))) 1 0

-- the last word of a summary: whether both runs show the same
abbrev pub verdict : Bool → List ℕ
verdict same = cond same (codes " equal") (codes " differ")

-- soak NUMBER instructions N ticks T entries E equal, or differ in place of equal
abbrev pub summary_text : ℕ → ℕ → ℕ → ℕ → Bool → List ℕ
summary_text number n t e same =
    codes "soak " ++ decimal number ++ codes " instructions " ++ decimal n ++ codes " ticks " ++ decimal t ++ codes " entries " ++ decimal e
    ++ verdict same ++ codes "\n"

-- the run of the image under the schedule of the soak
abbrev pub scheduled : Listing → List Segment → Run
scheduled listing image = run_out listing image schedule

-- the plain run of the image, all its instructions in order
abbrev pub plainly : Listing → List Segment → Run
plainly listing image = run_out listing image in_order_schedule

-- THE SUMMARY of a soak, by its two runs
pub record IsSummary (number : ℕ) (listing : Listing) (image : List Segment) (text : List ℕ) : Type 0 where
  pub same : Bool
  pub means : (same ≡ true) ↔ SameShown (scheduled listing image).machine.config.state (plainly listing image).machine.config.state
  pub is : text ≡ (let x = scheduled listing image in summary_text number x.machine.config.n x.ticks (entered listing image schedule x.ticks) same)

-- THE LINE of a soak: the summary of its image
pub record IsSoakLine (number : ℕ) (text : List ℕ) : Type 0 where
  pub image : List Segment
  pub listing : Listing
  pub soak : IsSoak number image
  pub lists : IsListing (flash_byte image) listing
  pub summary : IsSummary number listing image text

-- so many instructions in order halt by a breakpoint
pub record HaltsInOrder (listing : Listing) (image : List Segment) (n : ℕ) : Type 0 where
  pub state : State
  pub halts : in_order listing image n ≡ Halted (Break 0) n state

-- a run that halts does so by the breakpoint, after n instructions that it has retired, and shows what the plain run of n ticks does
pub record EndsAlike (listing : Listing) (image : List Segment) (n : ℕ) (s : Sched) (r : Reason) (k : ℕ) : Type 0 where
  pub reason : r ≡ Break 0
  pub number : k ≡ n
  pub retired : (run_out listing image s).machine.config.n ≡ n
  pub plain_halts : (run_out listing image (plain n)).outcome ≡ Some (outcome.Halted (Break 0) n)
  pub same : SameShown (run_out listing image s).machine.config.state (run_out listing image (plain n)).machine.config.state
