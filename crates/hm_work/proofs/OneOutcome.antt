-- A form comes to one outcome, but for the image that a text of the array language is compiled to.
use Rattle.std.proofs.Common.{◌≡◌, ◌≢◌, ◌⊎◌, ℕ, true, List, Option, Some, None, Result, Ok, Err, refl, sym, ap, subst, ◌∙◌, inl, inr}
use Rattle.hm_asm.specs.declared.errors.AsmErr.{AsmErr}
use Rattle.hm_base.specs.Image.{Segment, flash_byte}
use Rattle.hm_base.specs.declared.errors.ImageErr.{ImageErr}
use Rattle.hm_codes.specs.Listing.{Listing}
use Rattle.hm_debug.proofs.ScriptLaws.{not_both, one_refusal, one_script}
use Rattle.hm_debug.specs.Answers.{answers}
use Rattle.hm_debug.specs.Films.{film_of}
use Rattle.hm_debug.specs.declared.command.Command.{Command}
use Rattle.hm_debug.specs.declared.errors.ScriptErr.{ScriptErr}
use Rattle.hm_work.specs.Images.{image_of}
use Rattle.hm_journal.proofs.Comparing.{one_comparison}
use Rattle.hm_journal.proofs.Readings.{one_outcome as one_journal}
use Rattle.hm_journal.specs.Journals.{Journaled}
use Rattle.hm_journal.specs.declared.journal.JournalErr.{JournalErr}
use Rattle.hm_listing.proofs.OneListing.{one_listing}
use Rattle.hm_sched.specs.Schedule.{Sched}
use Rattle.hm_sched.specs.declared.errors.SchedErr.{SchedErr}
use Rattle.hm_soak_laws.proofs.Line.{one_line}
use Rattle.std.specs.Prelude.{[], get_or}
use Rattle.hm_asm.proofs.Outcomes.{one_outcome as one_assembled}
use Rattle.hm_work.specs.Commands.{ComesTo, IsAnswers, IsAsmOutcome, IsChecked, IsCheckedText, IsCompared, IsDebugOutcome, IsDisOutcome}
use Rattle.hm_work.specs.Commands.{IsJournalOutcome, IsMigrateOutcome, IsReplayOutcome, IsScriptRead, IsSoakOutcome, OfRun, UnlessRefused, asm_outcome}
use Rattle.hm_work.specs.Commands.{compared, journal_written, last_read, tick_outcome}
use Rattle.hm_work.specs.Run.{reset_refusal, schedule_in}
use Rattle.hm_work.specs.Work.{Outcome, finishes}
use Rattle.hm_work.specs.declared.work.Refusal.{Refusal}
use Rattle.hm_words.specs.Words.{Form, run, seq, dis, asm, soak, debug, journal, replay, migrate, plan, hex, kernel}

one_dis : (image : Result (List Segment) ImageErr) (lo hi : ℕ) (o p : Outcome) → IsDisOutcome image lo hi o → IsDisOutcome image lo hi p → o ≡ p
one_dis (Err e) lo hi o p x y = x ∙ sym y
one_dis (Ok image) lo hi o p x y = x.2 ∙ ap (λ (text : List ℕ). finishes true None (Some text)) (one_listing (flash_byte image) lo hi x.0 y.0 x.1 y.1) ∙ sym y.2

one_asm : (source out : List ℕ) (o p : Outcome) → IsAsmOutcome source out o → IsAsmOutcome source out p → o ≡ p
one_asm source out o p x y = x.2 ∙ ap (λ (r : Result (List Segment) AsmErr). asm_outcome r out) (one_assembled source x.0 y.0 x.1 y.1) ∙ sym y.2

one_soak : (number : ℕ) (o p : Outcome) → IsSoakOutcome number o → IsSoakOutcome number p → o ≡ p
one_soak number o p x y = x.2 ∙ ap (λ (text : List ℕ). finishes true None (Some text)) (one_line number x.0 y.0 x.1 y.1) ∙ sym y.2

-- ---- runs

one_unless : (why : Option Refusal) (Is : Outcome → Type 0) (o p : Outcome) → (Is o → Is p → o ≡ p) → UnlessRefused why Is o → UnlessRefused why Is p → o ≡ p
one_unless (Some why) Is o p one x y = x ∙ sym y
one_unless None Is o p one x y = one x y

one_of_run : (image : Result (List Segment) ImageErr) (schedule : Result Sched SchedErr) (Is : List Segment → Sched → Outcome → Type 0) (o p : Outcome)
    → ((i : List Segment) (s : Sched) → Is i s o → Is i s p → o ≡ p)
    → OfRun image schedule Is o → OfRun image schedule Is p → o ≡ p
one_of_run (Err e) schedule Is o p one x y = x ∙ sym y
one_of_run (Ok image) (Err e) Is o p one x y = x ∙ sym y
one_of_run (Ok image) (Ok s) Is o p one x y = one image s x y

-- a text is read in one way
one_read : (text : List ℕ) (q r : Result (List Command) ScriptErr) → IsScriptRead text q → IsScriptRead text r → q ≡ r
one_read text (Ok cs) (Ok ds) x y = ap (λ (c : List Command). Ok c) (one_script text cs ds x y)
one_read text (Err d) (Err e) x y = ap (λ (k : ScriptErr). Err k) (one_refusal text d e x y)
one_read text (Ok cs) (Err e) x y = absurd (not_both text cs e x y)
one_read text (Err e) (Ok cs) x y = absurd (not_both text cs e y x)

one_answers : (listings : List Segment → Listing) (image : List Segment) (s : Sched) (read : Result (List Command) ScriptErr) (o p : Outcome)
    → IsAnswers listings image s read o → IsAnswers listings image s read p → o ≡ p
one_answers listings image s (Err e) o p x y = x ∙ sym y
one_answers listings image s (Ok cs) o p x y =
    one_unless (reset_refusal image) (λ o. o ≡ finishes true None (Some (answers (film_of (listings image) image s) cs 0))) o p (λ u v. u ∙ sym v) x y

one_debug : (listings : List Segment → Listing) (text : List ℕ) (image : List Segment) (s : Sched) (o p : Outcome) → IsDebugOutcome listings text image s o
    → IsDebugOutcome listings text image s p → o ≡ p
one_debug listings text image s o p x y =
    one_answers listings image s y.0 o p (subst (λ (r : Result (List Command) ScriptErr). IsAnswers listings image s r o) (one_read text x.0 y.0 x.1 y.1) x.2)
    y.2

one_compared : (listings : List Segment → Listing) (image : List Segment) (s : Sched) (next : Outcome) (j : Journaled) (o p : Outcome)
    → IsCompared listings image s next j o → IsCompared listings image s next j p → o ≡ p
one_compared listings image s next j o p x y = x.2 ∙ ap (compared next) (one_comparison (listings image) image s j.format j.checkpoints x.0 y.0 x.1 y.1)
    ∙ sym y.2

one_checked : (listings : List Segment → Listing) (image : List Segment) (s : Sched) (next : Journaled → Outcome) (read : Result Journaled JournalErr)
    (o p : Outcome) → IsChecked listings image s next read o → IsChecked listings image s next read p → o ≡ p
one_checked listings image s next (Err e) o p x y = x ∙ sym y
one_checked listings image s next (Ok j) o p x y =
    one_unless (reset_refusal image) (IsCompared listings image s (next j) j) o p (one_compared listings image s (next j) j o p) x y

one_text : (listings : List Segment → Listing) (text : List ℕ) (image : List Segment) (s : Sched) (next : Journaled → Outcome) (o p : Outcome)
    → IsCheckedText listings text image s next o → IsCheckedText listings text image s next p → o ≡ p
one_text listings text image s next o p x y =
    one_checked listings image s next y.0 o p
    (subst (λ (r : Result Journaled JournalErr). IsChecked listings image s next r o) (one_journal text x.0 y.0 x.1 y.1) x.2) y.2

-- the form is of no text of the array language
abbrev pub IsNoKernel : Form → Type 0
IsNoKernel form = (source out : List ℕ) → form ≢ kernel source out

pub one_outcome : (listings : List Segment → Listing) (form : Form) (contents : List (List ℕ)) (o p : Outcome) → IsNoKernel form
    → ComesTo listings form contents o → ComesTo listings form contents p → o ≡ p
one_outcome listings (run image schedule memory) contents o p apart x y = x ∙ sym y
one_outcome listings (seq image n) contents o p apart x y = x ∙ sym y
one_outcome listings (dis image lo hi) contents o p apart x y = one_dis (image_of (get_or contents 0 [])) lo hi o p x y
one_outcome listings (asm source out) contents o p apart x y = one_asm (get_or contents 0 []) out o p x y
one_outcome listings (soak number) contents o p apart x y = one_soak number o p x y
one_outcome listings (debug image schedule script) contents o p apart x y =
    one_of_run (image_of (get_or contents 0 [])) (schedule_in schedule (get_or contents 1 [])) (IsDebugOutcome listings (last_read schedule contents)) o p
    (λ i s u v. one_debug listings (last_read schedule contents) i s o p u v) x y
one_outcome listings (journal image schedule every out) contents o p apart x y =
    one_of_run (image_of (get_or contents 0 [])) (schedule_in schedule (get_or contents 1 [])) (IsJournalOutcome listings every out) o p
    (λ i s u v. one_unless (reset_refusal i) (λ q. q ≡ journal_written listings every out i s) o p (λ a b. a ∙ sym b) u v) x y
one_outcome listings (replay image schedule text tick) contents o p apart x y =
    one_of_run (image_of (get_or contents 0 [])) (schedule_in schedule (get_or contents 1 [])) (IsReplayOutcome listings (last_read schedule contents) tick) o p
    (λ i s u v. one_text listings (last_read schedule contents) i s (λ j. tick_outcome listings i s tick) o p u v) x y
one_outcome listings (migrate image schedule text out) contents o p apart x y =
    one_of_run (image_of (get_or contents 0 [])) (schedule_in schedule (get_or contents 1 [])) (IsMigrateOutcome listings (last_read schedule contents) out) o p
    (λ i s u v. one_text listings (last_read schedule contents) i s (λ j. journal_written listings j.every out i s) o p u v) x y
one_outcome listings (plan image n out) contents o p apart x y = x ∙ sym y
one_outcome listings (hex image out) contents o p apart x y = x ∙ sym y
one_outcome listings (kernel source out) contents o p apart x y = absurd (apart source out refl)

pub kernel_or_not : (form : Form) → ((source : List ℕ) × (out : List ℕ) × (form ≡ kernel source out)) ⊎ IsNoKernel form
kernel_or_not (run image schedule memory) = inr (λ source out is. absurd cc)
kernel_or_not (seq image n) = inr (λ source out is. absurd cc)
kernel_or_not (dis image lo hi) = inr (λ source out is. absurd cc)
kernel_or_not (asm source out) = inr (λ source out is. absurd cc)
kernel_or_not (soak number) = inr (λ source out is. absurd cc)
kernel_or_not (debug image schedule script) = inr (λ source out is. absurd cc)
kernel_or_not (journal image schedule every out) = inr (λ source out is. absurd cc)
kernel_or_not (replay image schedule text tick) = inr (λ source out is. absurd cc)
kernel_or_not (migrate image schedule text out) = inr (λ source out is. absurd cc)
kernel_or_not (plan image n out) = inr (λ source out is. absurd cc)
kernel_or_not (hex image out) = inr (λ source out is. absurd cc)
kernel_or_not (kernel source out) = inl (source, out, refl)
