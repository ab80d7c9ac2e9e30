-- What a run of an image comes to.
use Rattle.std.specs.Prelude.{◌≡◌, ℕ, ◌%◌, Bool, true, false, List, Option, Some, None, nat_eq, if◌then◌else◌, Result, Ok, Err}
use Rattle.hm_base.specs.Image.{Segment, flash_byte}
use Rattle.hm_codes.specs.Listing.{Listing, IsListing}
use Rattle.hm_run_laws.specs.Runs.{shown_out}
use Rattle.hm_machine.specs.Shown.{Shown, timed_of}
use Rattle.hm_machine.specs.declared.load.LoadErr.{LoadErr}
use Rattle.hm_machine.specs.declared.load.LoadErr.TheVariants as load
use Rattle.hm_run.specs.InOrder.{InOrder, Running, Halted, Full, Faulted}
use Rattle.hm_run.specs.declared.Outcome.{Outcome}
use Rattle.hm_run.specs.declared.Outcome.TheVariants as outcome
use Rattle.hm_sched.specs.Schedule.{Sched, plain}
use Rattle.hm_sched.specs.ReadFile.{file_in}
use Rattle.hm_sched.specs.declared.errors.SchedErr.{SchedErr}
use Rattle.hm_sched.specs.declared.errors.SchedErr.TheVariants as sched
use Rattle.hm_state.specs.Start.{reset_pc}
use Rattle.hm_work.specs.declared.work.Refusal.{Refusal}
use Rattle.hm_work.specs.declared.work.Refusal.TheVariants.{Schedule, Reset}
use Rattle.hm_work.specs.declared.work.Stop.{Stop}
use Rattle.hm_work.specs.declared.work.Stop.TheVariants.{Refused, NoMemory}
use Rattle.hm_words.specs.Words.{Source, ticks, file}

-- whether a run halted
abbrev pub is_halted : Option Outcome → Bool
is_halted (Some (outcome.Halted reason n)) = true
is_halted o = false

-- whether instructions in order halted
abbrev pub has_halted : InOrder → Bool
has_halted (Running s) = false
has_halted (Halted reason k s) = true
has_halted (Full k s) = false
has_halted (Faulted kind pc addr k) = false

-- the word at 4 has to be odd
abbrev pub reset_refusal : List Segment → Option Refusal
reset_refusal image = if nat_eq (reset_pc image % 2) 0 then Some (Reset (reset_pc image)) else None

-- what is read of the source of a schedule: plain ticks, or what its file holds
abbrev pub schedule_in : Source → List ℕ → Result Sched SchedErr
schedule_in (ticks n) text = Ok (plain n)
schedule_in (file name) text = file_in text

-- a machine that shows a run to its end
pub record IsOver (image : List Segment) (s : Sched) (m : Shown) : Type 0 where
  pub shows : (listing : Listing) → IsListing (flash_byte image) listing → timed_of m ≡ shown_out listing image s

-- a run to its end, where the image is not refused by a reset
abbrev pub RunsToEnd : List Segment → Sched → Result Shown Stop → Type 0
RunsToEnd image s (Ok m) = IsOver image s m × (reset_refusal image ≡ None)
RunsToEnd image s (Err (Refused why)) = reset_refusal image ≡ Some why
RunsToEnd image s (Err NoMemory) = Unit {0}

-- what a machine refuses is refused, and want of memory is no refusal
abbrev pub load_stop : LoadErr → Stop
load_stop (load.Reset value) = Refused (Reset value)
load_stop load.OutOfMemory = NoMemory

-- what is bad in a schedule is refused, and want of memory is no refusal
abbrev pub schedule_stop : SchedErr → Stop
schedule_stop sched.OutOfMemory = NoMemory
schedule_stop e = Refused (Schedule e)
