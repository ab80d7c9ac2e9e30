-- What comes of a script, and of a journal, over the tape of a run.
use Rattle.std.proofs.Common.{◌≡◌, ◌≤◌, ◌<◌, ◌%◌, ℕ, ◌+◌, ◌/◌, Bool, true, false, List, length, nat_lt, Option, Some, None, Ok, Err, nat_le, refl, sym}
use Rattle.std.proofs.Common.{ap, subst, ◌∙◌, arith}
use Rattle.std.specs.Prelude.{if◌then◌else◌}
use Rattle.std.proofs.lemmas.Bool.{le-leb, lt-leb}
use Rattle.std.proofs.lemmas.Bool.Decides.{nat_tests}
use Rattle.hm_base.specs.Image.{Segment}
use Rattle.hm_codes.specs.Listing.{Listing}
use Rattle.hm_debug.proofs.ScriptLaws.{not_both}
use Rattle.hm_debug.specs.Answers.{IsAnswered, answers}
use Rattle.hm_debug.specs.Films.{film_of}
use Rattle.hm_debug.specs.Scripts.{IsScript, ScriptRefuses, ScriptStops}
use Rattle.hm_debug.specs.declared.command.Command.{Command}
use Rattle.hm_debug.specs.declared.errors.ScriptErr.{ScriptErr}
use Rattle.hm_debug.specs.declared.errors.ScriptErr.TheVariants as script
use Rattle.hm_journal.specs.Journals.{Journaled, journal_text, most_checkpoints}
use Rattle.hm_journal.specs.Outcomes.{IsReadErr}
use Rattle.hm_journal.specs.Runs.{AreOfRun, IsCompareErr, IsWriteErr, journal_of, report_at}
use Rattle.hm_journal.specs.declared.journal.JournalErr.{JournalErr}
use Rattle.hm_journal.specs.declared.journal.JournalErr.TheVariants as journal
use Rattle.hm_run_laws.specs.Runs.{run_out}
use Rattle.hm_machine.specs.Calls.{LoadRefuses}
use Rattle.hm_machine.specs.declared.load.LoadErr.{LoadErr}
use Rattle.hm_sched.specs.Schedule.{Sched, ticks_of}
use Rattle.hm_state.specs.Start.{reset_pc}
use Rattle.hm_work.specs.Commands.{IsCheckedText, IsCompared, IsDebugOutcome, IsJournalOutcome, UnlessRefused, journal_written}
use Rattle.hm_work.specs.Commands.{tick_outcome}
use Rattle.hm_work.specs.Run.{load_stop, reset_refusal}
use Rattle.hm_work.specs.Work.{Outcome, GivesOne, finish_of, finishes, journal_stop, refuses, script_stop}
use Rattle.hm_work.specs.declared.work.Refusal.{Refusal}
use Rattle.hm_work.specs.declared.work.Refusal.TheVariants.{Journal, Past}
use Rattle.hm_work.specs.declared.work.Stop.{Stop}
use Rattle.hm_work.specs.declared.work.Stop.TheVariants.{Refused, NoMemory}
use Rattle.hm_work.proofs.RunInputs.{load_goes_on, load_stops}
use Rattle.hm_work.proofs.Runs.{reset_refusal-odd}

unless_odd : (image : List Segment) (Is : Outcome → Type 0) (o : Outcome) → reset_pc image % 2 ≡ 1 → Is o → UnlessRefused (reset_refusal image) Is o
unless_odd image Is o odd h = subst (λ (why : Option Refusal). UnlessRefused why Is o) (sym (reset_refusal-odd image odd)) h

-- ---- scripts

script_by_error : (listings : List Segment → Listing) (text : List ℕ) (image : List Segment) (s : Sched) (e : ScriptErr) → ScriptRefuses text e
    → GivesOne (IsDebugOutcome listings text image s) (Err (script_stop e))
script_by_error listings text image s script.OutOfMemory h = tt
script_by_error listings text image s e h = (Err e, h, refl)

pub script_refused : (listings : List Segment → Listing) (text : List ℕ) (image : List Segment) (s : Sched) (e : ScriptErr) (stop : Stop) → ScriptRefuses text e
    → stop ≡ script_stop e → GivesOne (IsDebugOutcome listings text image s) (Err stop)
script_refused listings text image s e stop h is =
    subst (λ (x : Stop). GivesOne (IsDebugOutcome listings text image s) (Err x)) (sym is) (script_by_error listings text image s e h)

-- a script that was read, where it is not done for the reset address
read_stops : (listings : List Segment → Listing) (text : List ℕ) (image : List Segment) (s : Sched) (cs : List Command) (stop : Stop) → IsScript text cs
    → GivesOne (UnlessRefused (reset_refusal image) (λ o. o ≡ finishes true None (Some (answers (film_of (listings image) image s) cs 0)))) (Err stop)
    → GivesOne (IsDebugOutcome listings text image s) (Err stop)
read_stops listings text image s cs (Refused why) is h = (Ok cs, is, h)
read_stops listings text image s cs NoMemory is h = tt

pub script_not_loaded : (listings : List Segment → Listing) (text : List ℕ) (image : List Segment) (s : Sched) (cs : List Command) (e : LoadErr) (stop : Stop)
    → IsScript text cs → LoadRefuses image e → stop ≡ load_stop e
    → GivesOne (IsDebugOutcome listings text image s) (Err stop)
script_not_loaded listings text image s cs e stop is h at =
    read_stops listings text image s cs stop is
    (load_stops finish_of refuses image (λ o. o ≡ finishes true None (Some (answers (film_of (listings image) image s) cs 0))) e stop h at)

-- of a text that is a script memory alone may be wanted
lost_by_error : (listings : List Segment → Listing) (text : List ℕ) (image : List Segment) (s : Sched) (cs : List Command) (e : ScriptErr) → IsScript text cs
    → ScriptStops text e → GivesOne (IsDebugOutcome listings text image s) (Err (script_stop e))
lost_by_error listings text image s cs script.TooManyLines is h = absurd (not_both text cs script.TooManyLines is h)
lost_by_error listings text image s cs (script.Line line) is h = absurd (not_both text cs (script.Line line) is h)
lost_by_error listings text image s cs script.OutOfMemory is h = tt

pub script_lost : (listings : List Segment → Listing) (text : List ℕ) (image : List Segment) (s : Sched) (cs : List Command) (e : ScriptErr) (stop : Stop)
    → IsScript text cs → ScriptStops text e → stop ≡ script_stop e → GivesOne (IsDebugOutcome listings text image s) (Err stop)
script_lost listings text image s cs e stop is h at =
    subst (λ (x : Stop). GivesOne (IsDebugOutcome listings text image s) (Err x)) (sym at) (lost_by_error listings text image s cs e is h)

pub script_answered : (listings : List Segment → Listing) (text : List ℕ) (image : List Segment) (s : Sched) (out : List ℕ) → reset_pc image % 2 ≡ 1
    → IsAnswered (film_of (listings image) image s) text out
    → IsDebugOutcome listings text image s (finishes true None (Some out))
script_answered listings text image s out odd h = (
  Ok h.commands,
  h.script,
  unless_odd image (λ o. o ≡ finishes true None (Some (answers (film_of (listings image) image s) h.commands 0))) (finishes true None (Some out)) odd
      (ap (λ (t : List ℕ). finishes true None (Some t)) h.is),
)

-- ---- journals

-- the outcome of a journal, by whether it would have too many checkpoints
abbrev journal_at : (List Segment → Listing) → ℕ → List ℕ → List Segment → Sched → Bool → Outcome
journal_at listings every out image s many = if many then refuses (Journal journal.TooMany)
    else finishes true (Some (out, journal_text (journal_of (listings image) image s every))) None

too_many_test : (n : ℕ) → most_checkpoints < n → nat_lt most_checkpoints n ≡ true
too_many_test n h = grind (arith, nat_tests)

few_test : (n : ℕ) → n ≤ most_checkpoints → nat_lt most_checkpoints n ≡ false
few_test n h = grind (arith, nat_tests)

many_refused : (listings : List Segment → Listing) (every : ℕ) (out : List ℕ) (image : List Segment) (s : Sched)
    → most_checkpoints < length (ticks_of s.lines) / every + 1 → refuses (Journal journal.TooMany) ≡ journal_written listings every out image s
many_refused listings every out image s many =
    sym (ap (journal_at listings every out image s) (too_many_test (length (ticks_of s.lines) / every + 1) many))

few_written : (listings : List Segment → Listing) (every : ℕ) (out : List ℕ) (image : List Segment) (s : Sched) (bytes : List ℕ)
    → length (ticks_of s.lines) / every + 1 ≤ most_checkpoints → bytes ≡ journal_text (journal_of (listings image) image s every)
    → finishes true (Some (out, bytes)) None ≡ journal_written listings every out image s
few_written listings every out image s bytes few is =
    ap (λ (b : List ℕ). finishes true (Some (out, b)) None) is
    ∙ sym (ap (journal_at listings every out image s) (few_test (length (ticks_of s.lines) / every + 1) few))

journal_by_error : (listings : List Segment → Listing) (every : ℕ) (out : List ℕ) (image : List Segment) (s : Sched) (e : JournalErr) → reset_pc image % 2 ≡ 1
    → IsWriteErr s every e → GivesOne (IsJournalOutcome listings every out image s) (Err (journal_stop e))
journal_by_error listings every out image s journal.TooMany odd h =
    unless_odd image (λ o. o ≡ journal_written listings every out image s) (refuses (Journal journal.TooMany)) odd
    (many_refused listings every out image s h)
journal_by_error listings every out image s journal.OutOfMemory odd h = tt
journal_by_error listings every out image s e odd h = absurd h

pub journal_refused : (listings : List Segment → Listing) (every : ℕ) (out : List ℕ) (image : List Segment) (s : Sched) (e : JournalErr) (stop : Stop)
    → reset_pc image % 2 ≡ 1 → IsWriteErr s every e → stop ≡ journal_stop e
    → GivesOne (IsJournalOutcome listings every out image s) (Err stop)
journal_refused listings every out image s e stop odd h is =
    subst (λ (x : Stop). GivesOne (IsJournalOutcome listings every out image s) (Err x)) (sym is) (journal_by_error listings every out image s e odd h)

pub journal_comes : (listings : List Segment → Listing) (every : ℕ) (out : List ℕ) (image : List Segment) (s : Sched) (bytes : List ℕ) → reset_pc image % 2 ≡ 1
    → length (ticks_of s.lines) / every + 1 ≤ most_checkpoints → bytes ≡ journal_text (journal_of (listings image) image s every)
    → IsJournalOutcome listings every out image s (finishes true (Some (out, bytes)) None)
journal_comes listings every out image s bytes odd few is =
    unless_odd image (λ o. o ≡ journal_written listings every out image s) (finishes true (Some (out, bytes)) None) odd
    (few_written listings every out image s bytes few is)

-- ---- journals that are checked

text_by_error : (listings : List Segment → Listing) (text : List ℕ) (image : List Segment) (s : Sched) (next : Journaled → Outcome) (e : JournalErr)
    → IsReadErr text e → GivesOne (IsCheckedText listings text image s next) (Err (journal_stop e))
text_by_error listings text image s next journal.OutOfMemory h = tt
text_by_error listings text image s next e h = (Err e, h, refl)

pub journal_not_read : (listings : List Segment → Listing) (text : List ℕ) (image : List Segment) (s : Sched) (next : Journaled → Outcome) (e : JournalErr)
    (stop : Stop) → IsReadErr text e → stop ≡ journal_stop e
    → GivesOne (IsCheckedText listings text image s next) (Err stop)
journal_not_read listings text image s next e stop h is =
    subst (λ (x : Stop). GivesOne (IsCheckedText listings text image s next) (Err x)) (sym is) (text_by_error listings text image s next e h)

compared_by_error : (listings : List Segment → Listing) (image : List Segment) (s : Sched) (next : Outcome) (j : Journaled) (e : JournalErr)
    → IsCompareErr (listings image) image s j.format j.checkpoints e
    → GivesOne (IsCompared listings image s next j) (Err (journal_stop e))
compared_by_error listings image s next j journal.OutOfMemory h = tt
compared_by_error listings image s next j e h = (Err e, h, refl)

pub journal_differs : (listings : List Segment → Listing) (image : List Segment) (s : Sched) (next : Outcome) (j : Journaled) (e : JournalErr) (stop : Stop)
    → reset_pc image % 2 ≡ 1
    → IsCompareErr (listings image) image s j.format j.checkpoints e → stop ≡ journal_stop e
    → GivesOne (UnlessRefused (reset_refusal image) (IsCompared listings image s next j)) (Err stop)
journal_differs listings image s next j e stop odd h is =
    load_goes_on finish_of refuses image (IsCompared listings image s next j) (Err stop) odd
    (subst (λ (x : Stop). GivesOne (IsCompared listings image s next j) (Err x)) (sym is) (compared_by_error listings image s next j e h))

-- what comes next of a journal that is the run's
next_comes : (listings : List Segment → Listing) (image : List Segment) (s : Sched) (next : Outcome) (j : Journaled) (o : Outcome) → reset_pc image % 2 ≡ 1
    → AreOfRun (listings image) image s j.format j.checkpoints → o ≡ next
    → UnlessRefused (reset_refusal image) (IsCompared listings image s next j) o
next_comes listings image s next j o odd same is = unless_odd image (IsCompared listings image s next j) o odd (Ok tt, same, is)

-- the outcome at a tick, by whether the run begins it
abbrev at_tick : (List Segment → Listing) → List Segment → Sched → ℕ → Bool → Outcome
at_tick listings image s tick begun = if begun then finishes true None (Some (report_at (listings image) image s tick))
    else refuses (Past (run_out (listings image) image s).ticks)

pub tick_past : (listings : List Segment → Listing) (image : List Segment) (s : Sched) (tick last : ℕ) (j : Journaled) → reset_pc image % 2 ≡ 1
    → AreOfRun (listings image) image s j.format j.checkpoints
    → (run_out (listings image) image s).ticks ≡ last → last < tick
    → UnlessRefused (reset_refusal image) (IsCompared listings image s (tick_outcome listings image s tick) j) (refuses (Past last))
tick_past listings image s tick last j odd same is past =
    let test : nat_le tick (run_out (listings image) image s).ticks ≡ false = ap (nat_le tick) is ∙ lt-leb tick last past in
    next_comes listings image s (tick_outcome listings image s tick) j (refuses (Past last)) odd same
    (ap (λ (k : ℕ). refuses (Past k)) (sym is) ∙ sym (ap (at_tick listings image s tick) test))

pub tick_shown : (listings : List Segment → Listing) (image : List Segment) (s : Sched) (tick last : ℕ) (j : Journaled) (text : List ℕ) → reset_pc image % 2 ≡ 1
    → AreOfRun (listings image) image s j.format j.checkpoints
    → (run_out (listings image) image s).ticks ≡ last → tick ≤ last → text ≡ report_at (listings image) image s tick
    → UnlessRefused (reset_refusal image) (IsCompared listings image s (tick_outcome listings image s tick) j) (finishes true None (Some text))
tick_shown listings image s tick last j text odd same is begun report =
    let test : nat_le tick (run_out (listings image) image s).ticks ≡ true = ap (nat_le tick) is ∙ le-leb tick last begun in
    next_comes listings image s (tick_outcome listings image s tick) j (finishes true None (Some text)) odd same
    (ap (λ (t : List ℕ). finishes true None (Some t)) report ∙ sym (ap (at_tick listings image s tick) test))

-- ---- journals that are written again

again_by_error : (listings : List Segment → Listing) (image : List Segment) (s : Sched) (every : ℕ) (out : List ℕ) (j : Journaled) (e : JournalErr)
    → AreOfRun (listings image) image s j.format j.checkpoints → IsWriteErr s every e
    → GivesOne (IsCompared listings image s (journal_written listings every out image s) j) (Err (journal_stop e))
again_by_error listings image s every out j journal.TooMany same h =
    (Ok tt, same, many_refused listings every out image s h)
again_by_error listings image s every out j journal.OutOfMemory same h = tt
again_by_error listings image s every out j e same h = absurd h

pub again_refused : (listings : List Segment → Listing) (image : List Segment) (s : Sched) (every : ℕ) (out : List ℕ) (j : Journaled) (e : JournalErr)
    (stop : Stop) → reset_pc image % 2 ≡ 1
    → AreOfRun (listings image) image s j.format j.checkpoints → IsWriteErr s every e → stop ≡ journal_stop e
    → GivesOne (UnlessRefused (reset_refusal image) (IsCompared listings image s (journal_written listings every out image s) j)) (Err stop)
again_refused listings image s every out j e stop odd same h is =
    let Is = IsCompared listings image s (journal_written listings every out image s) j in
    load_goes_on finish_of refuses image Is (Err stop) odd
    (subst (λ (x : Stop). GivesOne Is (Err x)) (sym is) (again_by_error listings image s every out j e same h))

pub again_written : (listings : List Segment → Listing) (image : List Segment) (s : Sched) (every : ℕ) (out : List ℕ) (j : Journaled) (bytes : List ℕ)
    → reset_pc image % 2 ≡ 1 → AreOfRun (listings image) image s j.format j.checkpoints
    → length (ticks_of s.lines) / every + 1 ≤ most_checkpoints → bytes ≡ journal_text (journal_of (listings image) image s every)
    → UnlessRefused (reset_refusal image) (IsCompared listings image s (journal_written listings every out image s) j) (finishes true (Some (out, bytes)) None)
again_written listings image s every out j bytes odd same few is =
    next_comes listings image s (journal_written listings every out image s) j (finishes true (Some (out, bytes)) None) odd same
    (few_written listings every out image s bytes few is)
