-- What each command comes to, from the bytes of the files that it reads.
use Rattle.std.specs.Prelude.{◌≡◌, ℕ, ◌+◌, ◌/◌, true, List, [], Option, Some, None, Result, Ok, Err, get_or, length, nat_le, nat_lt, if◌then◌else◌}
use Rattle.hm_asm.specs.Sources.{IsOutcome}
use Rattle.hm_asm.specs.declared.errors.AsmErr.{AsmErr}
use Rattle.hm_base.specs.Image.{Segment, flash_byte}
use Rattle.hm_base.specs.declared.errors.ImageErr.{ImageErr}
use Rattle.hm_codes.specs.Listing.{Listing, IsListing}
use Rattle.hm_base.specs.declared.errors.ImageErr.TheVariants.{TooMany}
use Rattle.hm_debug.specs.Answers.{answers}
use Rattle.hm_debug.specs.Films.{film_of}
use Rattle.hm_debug.specs.Scripts.{IsScript, ScriptRefuses}
use Rattle.hm_debug.specs.declared.command.Command.{Command}
use Rattle.hm_debug.specs.declared.errors.ScriptErr.{ScriptErr}
use Rattle.hm_elf.specs.Elf.{most_headers}
use Rattle.hm_work.specs.Images.{image_of}
use Rattle.hm_elf.specs.WriteImage.{elf_file}
use Rattle.hm_run_laws.specs.Runs.{run_out, shown_out}
use Rattle.hm_ihex.specs.Written.{hex_file}
use Rattle.hm_journal.specs.Journals.{Journaled, journal_text, most_checkpoints}
use Rattle.hm_journal.specs.Outcomes.{IsReading as IsJournalRead}
use Rattle.hm_journal.specs.Runs.{IsComparison, journal_of, report_at}
use Rattle.hm_journal.specs.declared.journal.JournalErr.{JournalErr}
use Rattle.hm_journal.specs.declared.journal.JournalErr.TheVariants as journal_err
use Rattle.hm_kernel.specs.Compiled.{Compiles}
use Rattle.hm_kernel_text.specs.ReadFile.{kernel_in}
use Rattle.hm_kernel_text.specs.Written.{Written}
use Rattle.hm_kernel_text.specs.declared.errors.KernelErr.{KernelErr}
use Rattle.hm_listing.specs.Listings.{IsListed}
use Rattle.hm_machine.specs.ShortReport.{short_report}
use Rattle.hm_plan_laws.specs.Planned.{planned}
use Rattle.hm_run.specs.Report.{report_text, memory_text}
use Rattle.hm_run.specs.Timed.{Timed}
use Rattle.hm_sched.specs.Printed.{file_text}
use Rattle.hm_sched.specs.Schedule.{Sched, plain, ticks_of}
use Rattle.hm_sched.specs.declared.errors.SchedErr.{SchedErr}
use Rattle.hm_soak_laws.specs.Summary.{IsSoakLine}
use Rattle.hm_words.specs.Words.{Form, Source as Held, ticks, file, run, seq, dis, asm, soak, debug, journal, replay, migrate, plan, hex, kernel}
use Rattle.hm_work.specs.declared.work.Refusal.{Refusal}
use Rattle.hm_work.specs.declared.work.Refusal.TheVariants.{Image, Schedule, Source, Script, Journal, Kernel, Past}
use Rattle.hm_work.specs.Run.{is_halted, reset_refusal, schedule_in}
use Rattle.hm_work.specs.Work.{Outcome, finishes, refuses}

-- a listing of the flash of each image
pub record AreListings (listings : List Segment → Listing) : Type 0 where
  pub at : (image : List Segment) → IsListing (flash_byte image) (listings image)

-- what is left to do where a run to the value x is reported: to write its memory to a file, and to print its report
abbrev pub reported : Timed → List ℕ → Outcome
reported x memory = finishes (is_halted x.outcome) (Some (memory, memory_text x)) (Some (report_text x))

-- the outcome, where nothing is refused
abbrev pub unless_refused : Option Refusal → Outcome → Outcome
unless_refused (Some why) outcome = refuses why
unless_refused None outcome = outcome

-- a run of an image under a schedule, as both were read, with a file for its memory
abbrev pub run_outcome : (List Segment → Listing) → Result (List Segment) ImageErr → Result Sched SchedErr → List ℕ → Outcome
run_outcome listings (Err e) schedule memory = refuses (Image e)
run_outcome listings (Ok image) (Err e) memory = refuses (Schedule e)
run_outcome listings (Ok image) (Ok s) memory = unless_refused (reset_refusal image) (reported (shown_out (listings image) image s) memory)

-- what is left to do where a run came to the value x: to print its report, of a fault the first line alone
abbrev pub told : Timed → Outcome
told x = finishes (is_halted x.outcome) None (Some (short_report x))

-- a run of n instructions of an image in order, as the image was read
abbrev pub seq_outcome : (List Segment → Listing) → Result (List Segment) ImageErr → ℕ → Outcome
seq_outcome listings (Err e) n = refuses (Image e)
seq_outcome listings (Ok image) n = unless_refused (reset_refusal image) (told (shown_out (listings image) image (plain n)))

-- a listing of a range of an image's flash, which is printed
abbrev pub IsDisOutcome : Result (List Segment) ImageErr → ℕ → ℕ → Outcome → Type 0
IsDisOutcome (Err e) lo hi = λ o. o ≡ refuses (Image e)
IsDisOutcome (Ok image) lo hi = λ o. (text : List ℕ) × IsListed (flash_byte image) lo hi text × (o ≡ finishes true None (Some text))

-- an image that was assembled, as the file that is written of at most as many segments as a file has headers; or the refusal of its source
abbrev pub asm_outcome : Result (List Segment) AsmErr → List ℕ → Outcome
asm_outcome (Err e) out = refuses (Source e)
asm_outcome (Ok image) out = if nat_lt most_headers (length image) then refuses (Image TooMany) else finishes true (Some (out, elf_file image)) None

-- what a source comes to, by one of the outcomes that it has
abbrev pub IsAsmOutcome : List ℕ → List ℕ → Outcome → Type 0
IsAsmOutcome source out = λ o. (assembled : Result (List Segment) AsmErr) × IsOutcome source assembled × (o ≡ asm_outcome assembled out)

-- one of these, where nothing is refused, else what the refusal stands for
abbrev pub UnlessRefusedBy : {T : Type 0} → (Refusal → T) → Option Refusal → (T → Type 0) → T → Type 0
UnlessRefusedBy refused (Some why) Is = λ x. x ≡ refused why
UnlessRefusedBy refused None Is = Is

-- one of these outcomes, where nothing is refused
abbrev pub UnlessRefused : Option Refusal → (Outcome → Type 0) → Outcome → Type 0
UnlessRefused why Is = UnlessRefusedBy refuses why Is

-- why a run is refused, of an image and a schedule as they were read
abbrev pub run_refusal : Result (List Segment) ImageErr → Result Sched SchedErr → Option Refusal
run_refusal (Err e) schedule = Some (Image e)
run_refusal (Ok image) (Err e) = Some (Schedule e)
run_refusal (Ok image) (Ok s) = None

-- one of these of an image and a schedule, where both were read, else what the refusal stands for: that of the image, then that of the schedule
abbrev pub OfRunBy : {T : Type 0} → (Refusal → T) → Result (List Segment) ImageErr → Result Sched SchedErr → (List Segment → Sched → T → Type 0) → T → Type 0
OfRunBy refused (Err e) schedule Is = λ x. x ≡ refused (Image e)
OfRunBy refused (Ok image) (Err e) Is = λ x. x ≡ refused (Schedule e)
OfRunBy refused (Ok image) (Ok s) Is = Is image s

-- what comes of an image and a schedule, where both were read
abbrev pub OfRun : Result (List Segment) ImageErr → Result Sched SchedErr → (List Segment → Sched → Outcome → Type 0) → Outcome → Type 0
OfRun image schedule Is = OfRunBy refuses image schedule Is

-- what a text is read as: the commands of a script, or its refusal
abbrev pub IsScriptRead : List ℕ → Result (List Command) ScriptErr → Type 0
IsScriptRead text (Ok commands) = IsScript text commands
IsScriptRead text (Err e) = ScriptRefuses text e

-- the answers of a script that was read, which are printed
abbrev pub IsAnswers : (List Segment → Listing) → List Segment → Sched → Result (List Command) ScriptErr → Outcome → Type 0
IsAnswers listings image s (Err e) = λ o. o ≡ refuses (Script e)
IsAnswers listings image s (Ok commands) =
    UnlessRefused (reset_refusal image) (λ o. o ≡ finishes true None (Some (answers (film_of (listings image) image s) commands 0)))

-- a script over a run
abbrev pub IsDebugOutcome : (List Segment → Listing) → List ℕ → List Segment → Sched → Outcome → Type 0
IsDebugOutcome listings text image s = λ o. (read : Result (List Command) ScriptErr) × IsScriptRead text read × IsAnswers listings image s read o

-- the journal of a run is written, unless it would have too many checkpoints
abbrev pub journal_written : (List Segment → Listing) → ℕ → List ℕ → List Segment → Sched → Outcome
journal_written listings every out image s =
    if nat_lt most_checkpoints (length (ticks_of s.lines) / every + 1) then refuses (Journal journal_err.TooMany)
    else finishes true (Some (out, journal_text (journal_of (listings image) image s every))) None

-- the journal of a run of an image, unless it is refused by its reset address, and nothing else
abbrev pub IsJournalOutcome : (List Segment → Listing) → ℕ → List ℕ → List Segment → Sched → Outcome → Type 0
IsJournalOutcome listings every out image s = UnlessRefused (reset_refusal image) (λ o. o ≡ journal_written listings every out image s)

-- the report at a tick, which is printed, where the run begins that tick
abbrev pub tick_outcome : (List Segment → Listing) → List Segment → Sched → ℕ → Outcome
tick_outcome listings image s tick =
    if nat_le tick (run_out (listings image) image s).ticks then finishes true None (Some (report_at (listings image) image s tick))
    else refuses (Past (run_out (listings image) image s).ticks)

-- what comes of a comparison of a journal with a run: this, where the journal is the run's
abbrev pub compared : Outcome → Result Unit JournalErr → Outcome
compared next (Ok same) = next
compared next (Err e) = refuses (Journal e)

-- a journal that was read is compared with a run, and this comes next where it is the run's
abbrev pub IsCompared : (List Segment → Listing) → List Segment → Sched → Outcome → Journaled → Outcome → Type 0
IsCompared listings image s next j = λ o. (r : Result Unit JournalErr) × IsComparison (listings image) image s j.format j.checkpoints r × (o ≡ compared next r)

-- a journal, as it was read, is checked against a run of an image whose reset address is odd
abbrev pub IsChecked : (List Segment → Listing) → List Segment → Sched → (Journaled → Outcome) → Result Journaled JournalErr → Outcome → Type 0
IsChecked listings image s next (Err e) = λ o. o ≡ refuses (Journal e)
IsChecked listings image s next (Ok j) = UnlessRefused (reset_refusal image) (IsCompared listings image s (next j) j)

-- the journal that a text says is checked against a run, and what comes next goes by that journal
abbrev pub IsCheckedText : (List Segment → Listing) → List ℕ → List Segment → Sched → (Journaled → Outcome) → Outcome → Type 0
IsCheckedText listings text image s next = λ o. (read : Result Journaled JournalErr) × IsJournalRead text read × IsChecked listings image s next read o

-- a journal is checked against a run, and the report at a tick is printed
abbrev pub IsReplayOutcome : (List Segment → Listing) → List ℕ → ℕ → List Segment → Sched → Outcome → Type 0
IsReplayOutcome listings text tick image s = IsCheckedText listings text image s (λ j. tick_outcome listings image s tick)

-- a journal is checked against a run, and the run's journal with the same distance of checkpoints is written, in the format of today
abbrev pub IsMigrateOutcome : (List Segment → Listing) → List ℕ → List ℕ → List Segment → Sched → Outcome → Type 0
IsMigrateOutcome listings text out image s = IsCheckedText listings text image s (λ j. journal_written listings j.every out image s)

-- the dense schedule of n instructions of an image, which is written
abbrev pub plan_outcome : (List Segment → Listing) → Result (List Segment) ImageErr → ℕ → List ℕ → Outcome
plan_outcome listings (Err e) n out = refuses (Image e)
plan_outcome listings (Ok image) n out = unless_refused (reset_refusal image) (finishes true (Some (out, file_text (planned (listings image) image n))) None)

-- an image of any form, which is written as Intel HEX
abbrev pub hex_outcome : Result (List Segment) ImageErr → List ℕ → Outcome
hex_outcome (Err e) out = refuses (Image e)
hex_outcome (Ok image) out = finishes true (Some (out, hex_file image)) None

-- the file of an image that a text of the array language is compiled to, whichever of these images it is; or the refusal of the text
abbrev pub IsCompiledFile : List ℕ → Result Written KernelErr → List ℕ → Outcome → Type 0
IsCompiledFile source (Err e) out = λ o. o ≡ refuses (Kernel e)
IsCompiledFile source (Ok w) out = λ o. (image : List Segment) × Compiles source image × (o ≡ finishes true (Some (out, elf_file image)) None)

-- what a text of the array language comes to
abbrev pub IsKernelOutcome : List ℕ → List ℕ → Outcome → Type 0
IsKernelOutcome source out = IsCompiledFile source (kernel_in source) out

-- the summary of the generated work of a number, which is printed
abbrev pub IsSoakOutcome : ℕ → Outcome → Type 0
IsSoakOutcome number = λ o. (text : List ℕ) × IsSoakLine number text × (o ≡ finishes true None (Some text))

-- the last file that is read behind an image and a schedule
abbrev pub last_read : Held → List (List ℕ) → List ℕ
last_read (ticks n) contents = get_or contents 1 []
last_read (file name) contents = get_or contents 2 []

-- what a form comes to, by the contents of the files that are read, in order
abbrev pub ComesTo : (List Segment → Listing) → Form → List (List ℕ) → Outcome → Type 0
ComesTo listings (run image schedule memory) contents =
    λ o. o ≡ run_outcome listings (image_of (get_or contents 0 [])) (schedule_in schedule (get_or contents 1 [])) memory
ComesTo listings (seq image n) contents = λ o. o ≡ seq_outcome listings (image_of (get_or contents 0 [])) n
ComesTo listings (dis image lo hi) contents = IsDisOutcome (image_of (get_or contents 0 [])) lo hi
ComesTo listings (asm source out) contents = IsAsmOutcome (get_or contents 0 []) out
ComesTo listings (debug image schedule script) contents =
    OfRun (image_of (get_or contents 0 [])) (schedule_in schedule (get_or contents 1 [])) (IsDebugOutcome listings (last_read schedule contents))
ComesTo listings (journal image schedule every out) contents =
    OfRun (image_of (get_or contents 0 [])) (schedule_in schedule (get_or contents 1 [])) (IsJournalOutcome listings every out)
ComesTo listings (replay image schedule text tick) contents =
    OfRun (image_of (get_or contents 0 [])) (schedule_in schedule (get_or contents 1 [])) (IsReplayOutcome listings (last_read schedule contents) tick)
ComesTo listings (migrate image schedule text out) contents =
    OfRun (image_of (get_or contents 0 [])) (schedule_in schedule (get_or contents 1 [])) (IsMigrateOutcome listings (last_read schedule contents) out)
ComesTo listings (plan image n out) contents = λ o. o ≡ plan_outcome listings (image_of (get_or contents 0 [])) n out
ComesTo listings (kernel source out) contents = IsKernelOutcome (get_or contents 0 []) out
ComesTo listings (hex image out) contents = λ o. o ≡ hex_outcome (image_of (get_or contents 0 [])) out
ComesTo listings (soak number) contents = IsSoakOutcome number
