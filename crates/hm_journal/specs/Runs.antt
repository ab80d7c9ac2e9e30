-- THE JOURNAL OF A RUN, and journals that are a run's.
use Rattle.std.specs.Prelude.{◌≡◌, ℕ, zero, suc, ◌+◌, ◌*◌, ◌/◌, ◌<◌, ◌≤◌, List, [], ◌∷◌, ◌++◌, length, slice_get, Result, Ok, Err, Some}
use Rattle.hm_base.specs.Image.{Segment}
use Rattle.hm_codes.specs.Listing.{Listing}
use Rattle.hm_run_laws.specs.Runs.{run, run_out, shown}
use Rattle.hm_run.specs.Report.{report_text, system_line}
use Rattle.hm_run.specs.Timed.{Timed}
use Rattle.hm_sched.specs.Schedule.{Sched, ticks_of}
use Rattle.hm_state.specs.State.{regs_of}
use Rattle.hm_journal.specs.Formats.{report_in, without_system}
use Rattle.hm_journal.specs.Journals.{Journaled, ReportAt, most_checkpoints}
use Rattle.hm_journal.specs.declared.journal.JournalErr.{JournalErr}
use Rattle.hm_journal.specs.declared.journal.JournalErr.TheVariants as err

-- the report of a run at a tick
abbrev pub report_at : Listing → List Segment → Sched → ℕ → List ℕ
report_at listing image s t = report_text (shown (run listing image s t))

-- the checkpoints at the ticks 0, every, 2 * every and so on, n of them
abbrev pub first_checkpoints : (ℕ → List ℕ) → ℕ → ℕ → List ReportAt
first_checkpoints report every zero = []
first_checkpoints report every (suc n) = first_checkpoints report every n ++ record { tick = n * every; report = report (n * every) } ∷ []

-- THE JOURNAL OF A RUN, of format 2, has those up to the last tick that the run begins
abbrev pub journal_of : Listing → List Segment → Sched → ℕ → Journaled
journal_of listing image s every = record {
  format = 2;
  every = every;
  checkpoints = first_checkpoints (report_at listing image s) every ((run_out listing image s).ticks / every + 1);
}

-- a run that began all the ticks of the schedule would have more than `most_checkpoints`
abbrev pub IsTooMany : Sched → ℕ → Type 0
IsTooMany s every = most_checkpoints < length (ticks_of s.lines) / every + 1

-- what an error of writing tells: want of memory tells nothing
abbrev pub IsWriteErr : Sched → ℕ → JournalErr → Type 0
IsWriteErr s every err.TooMany = IsTooMany s every
IsWriteErr s every err.OutOfMemory = Unit {0}
IsWriteErr s every e = ⊥

-- A CHECKPOINT IS A RUN'S: the run begins that tick, and has that report there, as the journal's format has reports
pub record IsOfRun (listing : Listing) (image : List Segment) (s : Sched) (format : ℕ) (x : ReportAt) : Type 0 where
  pub begun : x.tick ≤ (run_out listing image s).ticks
  pub report : x.report ≡ report_in format (report_at listing image s x.tick)

-- all of them are
abbrev pub AreOfRun : Listing → List Segment → Sched → ℕ → List ReportAt → Type 0
AreOfRun listing image s format xs = (k : ℕ) (x : ReportAt) → slice_get xs k ≡ Some x → IsOfRun listing image s format x

-- the first that is not lies at this tick
pub record IsFirstToDiffer (listing : Listing) (image : List Segment) (s : Sched) (format : ℕ) (xs : List ReportAt) (tick : ℕ) : Type 0 where
  pub place : ℕ
  pub checkpoint : ReportAt
  pub there : slice_get xs place ≡ Some checkpoint
  pub lies : checkpoint.tick ≡ tick
  pub differs : ¬ (IsOfRun listing image s format checkpoint)
  pub before : (k : ℕ) (x : ReportAt) → k < place → slice_get xs k ≡ Some x → IsOfRun listing image s format x

-- WHAT CHECKPOINTS of a journal of a format COME TO, compared with a run
abbrev pub IsComparison : Listing → List Segment → Sched → ℕ → List ReportAt → Result Unit JournalErr → Type 0
IsComparison listing image s format xs (Ok u) = AreOfRun listing image s format xs
IsComparison listing image s format xs (Err (err.Differs tick)) = IsFirstToDiffer listing image s format xs tick
IsComparison listing image s format xs (Err e) = ⊥

-- what an error of comparing tells: want of memory tells nothing
abbrev pub IsCompareErr : Listing → List Segment → Sched → ℕ → List ReportAt → JournalErr → Type 0
IsCompareErr listing image s format xs err.OutOfMemory = Unit {0}
IsCompareErr listing image s format xs e = IsComparison listing image s format xs (Err e)

-- without the system's line a report is what stands before it, and what stands behind it
pub record IsWithoutLine (x : Timed) : Type 0 where
  pub before : List ℕ
  pub behind : List ℕ
  pub whole : report_text x ≡ before ++ system_line (regs_of x.config.state) [] ++ behind
  pub rest : without_system (report_text x) ≡ before ++ behind
