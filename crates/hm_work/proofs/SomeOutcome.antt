-- A form comes to an outcome.
use Rattle.std.proofs.Common.{◌≡◌, ◌≤◌, ℕ, true, List, [], length, Option, Some, None, Result, Ok, Err, refl, inl, inr, arith}
use Rattle.std.specs.Prelude.{get_or}
use Rattle.hm_base.specs.Image.{Segment, flash_byte}
use Rattle.hm_base.specs.declared.errors.ImageErr.{ImageErr}
use Rattle.hm_codes.specs.Listing.{Listing}
use Rattle.hm_debug.proofs.ScriptLaws.{read_or_refused}
use Rattle.hm_debug.specs.Answers.{answers}
use Rattle.hm_debug.specs.Films.{film_of}
use Rattle.hm_debug.specs.declared.command.Command.{Command}
use Rattle.hm_debug.specs.declared.errors.ScriptErr.{ScriptErr}
use Rattle.hm_work.specs.Images.{image_of}
use Rattle.hm_host.specs.Host.{longest}
use Rattle.hm_journal.proofs.Comparing.{some_comparison}
use Rattle.hm_journal.proofs.Readings.{some_outcome as some_journal}
use Rattle.hm_journal.specs.Journals.{Journaled}
use Rattle.hm_journal.specs.declared.journal.JournalErr.{JournalErr}
use Rattle.hm_elf.specs.WriteImage.{elf_file}
use Rattle.hm_kernel.proofs.Joined.{some_compiled}
use Rattle.hm_kernel_text.proofs.FoundFile.{kernel_found}
use Rattle.hm_kernel_text.specs.ReadFile.{kernel_in}
use Rattle.hm_kernel_text.specs.Written.{Written}
use Rattle.hm_kernel_text.specs.declared.errors.KernelErr.{KernelErr}
use Rattle.hm_listing.proofs.Exists.{some_listing}
use Rattle.hm_sched.specs.Schedule.{Sched}
use Rattle.hm_sched.specs.declared.errors.SchedErr.{SchedErr}
use Rattle.hm_soak_laws.proofs.Line.{some_line}
use Rattle.hm_asm.proofs.Exists.{some_outcome as some_assembled}
use Rattle.hm_work.specs.declared.work.Refusal.TheVariants.{Image, Schedule, Script, Journal, Kernel}
use Rattle.hm_work.specs.declared.work.Refusal.{Refusal}
use Rattle.hm_work.specs.Commands.{ComesTo, IsAnswers, IsAsmOutcome, IsChecked, IsCheckedText, IsCompared, IsCompiledFile, IsDebugOutcome, IsDisOutcome}
use Rattle.hm_work.specs.Commands.{IsJournalOutcome, IsKernelOutcome, IsMigrateOutcome, IsReplayOutcome, IsScriptRead, IsSoakOutcome, OfRun, UnlessRefused}
use Rattle.hm_work.specs.Commands.{asm_outcome, compared, hex_outcome, journal_written, last_read, plan_outcome, run_outcome, seq_outcome}
use Rattle.hm_work.specs.Commands.{tick_outcome}
use Rattle.hm_work.specs.Run.{reset_refusal, schedule_in}
use Rattle.hm_work.specs.Work.{Outcome, finishes, refuses}
use Rattle.hm_words.specs.Words.{Form, run, seq, dis, asm, soak, debug, journal, replay, migrate, plan, hex, kernel, IsRange}

some_dis : (image : Result (List Segment) ImageErr) (lo hi : ℕ) → IsRange lo hi → (o : Outcome) × IsDisOutcome image lo hi o
some_dis (Err e) lo hi r = (refuses (Image e), refl)
some_dis (Ok image) lo hi r =
    let x = some_listing (flash_byte image) lo hi r.even.0 r.even.1 r.order in
    (finishes true None (Some x.0), (x.0, x.1, refl))

some_asm : (source out : List ℕ) → (o : Outcome) × IsAsmOutcome source out o
some_asm source out =
    let x = some_assembled source in
    (asm_outcome x.0 out, (x.0, x.1, refl))

some_soak : (number : ℕ) → (o : Outcome) × IsSoakOutcome number o
some_soak number =
    let x = some_line number in
    (finishes true None (Some x.0), (x.0, x.1, refl))

some_file : (source : List ℕ) (read : Result Written KernelErr) (out : List ℕ) → length source ≤ longest → kernel_in source ≡ read
    → (o : Outcome) × IsCompiledFile source read out o
some_file source (Err e) out fits is = (refuses (Kernel e), refl)
some_file source (Ok w) out fits is =
    let image = some_compiled source w (omega arith) (kernel_found source w is) in
    (finishes true (Some (out, elf_file image.0)) None, (image.0, image.1, refl))

some_kernel : (source out : List ℕ) → length source ≤ longest → (o : Outcome) × IsKernelOutcome source out o
some_kernel source out fits = some_file source (kernel_in source) out fits refl

-- ---- runs

some_unless : (why : Option Refusal) (Is : Outcome → Type 0) → ((o : Outcome) × Is o) → (o : Outcome) × UnlessRefused why Is o
some_unless (Some why) Is x = (refuses why, refl)
some_unless None Is x = x

some_of_run : (image : Result (List Segment) ImageErr) (schedule : Result Sched SchedErr) (Is : List Segment → Sched → Outcome → Type 0)
    → ((i : List Segment) (s : Sched) → (o : Outcome) × Is i s o) → (o : Outcome) × OfRun image schedule Is o
some_of_run (Err e) schedule Is some = (refuses (Image e), refl)
some_of_run (Ok image) (Err e) Is some = (refuses (Schedule e), refl)
some_of_run (Ok image) (Ok s) Is some = some image s

some_read : (text : List ℕ) → (read : Result (List Command) ScriptErr) × IsScriptRead text read
some_read text = elim (read_or_refused text) [ inl script ↦ (Ok script.0, script.1) | inr refused ↦ (Err refused.0, refused.1) ]

some_answers : (listings : List Segment → Listing) (image : List Segment) (s : Sched) (read : Result (List Command) ScriptErr)
    → (o : Outcome) × IsAnswers listings image s read o
some_answers listings image s (Err e) = (refuses (Script e), refl)
some_answers listings image s (Ok cs) =
    some_unless (reset_refusal image) (λ o. o ≡ finishes true None (Some (answers (film_of (listings image) image s) cs 0)))
    (finishes true None (Some (answers (film_of (listings image) image s) cs 0)), refl)

some_debug : (listings : List Segment → Listing) (text : List ℕ) (image : List Segment) (s : Sched) → (o : Outcome) × IsDebugOutcome listings text image s o
some_debug listings text image s =
    let read = some_read text in
    let x = some_answers listings image s read.0 in
    (x.0, (read.0, read.1, x.1))

some_compared : (listings : List Segment → Listing) (image : List Segment) (s : Sched) (next : Outcome) (j : Journaled)
    → (o : Outcome) × IsCompared listings image s next j o
some_compared listings image s next j =
    let x = some_comparison (listings image) image s j.format j.checkpoints in
    (compared next x.0, (x.0, x.1, refl))

some_checked : (listings : List Segment → Listing) (image : List Segment) (s : Sched) (next : Journaled → Outcome) (read : Result Journaled JournalErr)
    → (o : Outcome) × IsChecked listings image s next read o
some_checked listings image s next (Err e) = (refuses (Journal e), refl)
some_checked listings image s next (Ok j) =
    some_unless (reset_refusal image) (IsCompared listings image s (next j) j) (some_compared listings image s (next j) j)

some_text : (listings : List Segment → Listing) (text : List ℕ) (image : List Segment) (s : Sched) (next : Journaled → Outcome)
    → (o : Outcome) × IsCheckedText listings text image s next o
some_text listings text image s next =
    let read = some_journal text in
    let x = some_checked listings image s next read.0 in
    (x.0, (read.0, read.1, x.1))

-- the form is no listing but of a range
abbrev pub HasRange : Form → Type 0
HasRange form = (image : List ℕ) (lo hi : ℕ) → form ≡ dis image lo hi → IsRange lo hi

pub some_comes : (listings : List Segment → Listing) (form : Form) (contents : List (List ℕ)) → HasRange form → length (get_or contents 0 []) ≤ longest
    → (o : Outcome) × ComesTo listings form contents o
some_comes listings (run image schedule memory) contents r fits =
    (run_outcome listings (image_of (get_or contents 0 [])) (schedule_in schedule (get_or contents 1 [])) memory, refl)
some_comes listings (seq image n) contents r fits = (seq_outcome listings (image_of (get_or contents 0 [])) n, refl)
some_comes listings (dis image lo hi) contents r fits = some_dis (image_of (get_or contents 0 [])) lo hi (r image lo hi refl)
some_comes listings (asm source out) contents r fits = some_asm (get_or contents 0 []) out
some_comes listings (soak number) contents r fits = some_soak number
some_comes listings (debug image schedule script) contents r fits =
    some_of_run (image_of (get_or contents 0 [])) (schedule_in schedule (get_or contents 1 [])) (IsDebugOutcome listings (last_read schedule contents))
    (some_debug listings (last_read schedule contents))
some_comes listings (journal image schedule every out) contents r fits =
    some_of_run (image_of (get_or contents 0 [])) (schedule_in schedule (get_or contents 1 [])) (IsJournalOutcome listings every out)
    (λ i s. some_unless (reset_refusal i) (λ o. o ≡ journal_written listings every out i s) (journal_written listings every out i s, refl))
some_comes listings (replay image schedule text tick) contents r fits =
    some_of_run (image_of (get_or contents 0 [])) (schedule_in schedule (get_or contents 1 [])) (IsReplayOutcome listings (last_read schedule contents) tick)
    (λ i s. some_text listings (last_read schedule contents) i s (λ j. tick_outcome listings i s tick))
some_comes listings (migrate image schedule text out) contents r fits =
    some_of_run (image_of (get_or contents 0 [])) (schedule_in schedule (get_or contents 1 [])) (IsMigrateOutcome listings (last_read schedule contents) out)
    (λ i s. some_text listings (last_read schedule contents) i s (λ j. journal_written listings j.every out i s))
some_comes listings (hex image out) contents r fits = (hex_outcome (image_of (get_or contents 0 [])) out, refl)
some_comes listings (kernel source out) contents r fits = some_kernel (get_or contents 0 []) out fits
some_comes listings (plan image n out) contents r fits = (plan_outcome listings (image_of (get_or contents 0 [])) n out, refl)
