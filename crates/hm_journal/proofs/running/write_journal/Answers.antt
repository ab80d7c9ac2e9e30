use Rattle.std.proofs.Common.{◌≡◌, ◌≤◌, ℕ, ◌+◌, ◌/◌, ap, subst, ◌∙◌, length, map, string_bytes}
use Rattle.std.proofs.lemmas.Str.{IsUtf8-string_bytes}
use Rattle.hm_sched.specs.Schedule.{Sched, ticks_of}
use Rattle.hm_journal.proofs.Checkpoints.{sound}
use Rattle.hm_journal.proofs.Found.{file_of}
use Rattle.hm_journal.specs.Journals.{most_checkpoints}
use Rattle.hm_journal.specs.Runs.{journal_of}
use Rattle.hm_journal.specs.Views.{checkpoint_of, journal_with}
use Rattle.hm_journal.proofs.running.write_journal.Goals as goal

pub returns-clause-reads_back : goal.returns-clause-reads_back
returns-clause-reads_back c = λ image s listing is tapes most.
    let every = c.args.every in
    let list = ap (map checkpoint_of) c.deref.ensures.value ∙ c.in_ok-checkpoints.ensures.checkpoints image s listing is tapes in
    let whole : journal_with 2 every c.deref.result.now ≡ journal_of listing image s every =
    (λ i. record { format = 2; every = every; checkpoints = list i }) in
    let ticks : c.scheduled.result ≡ length (ticks_of s.lines) = c.scheduled.ensures.value ∙ ap (λ (x : Sched). length (ticks_of x.lines)) tapes.start.plan in
    let few = subst (λ (n : ℕ). n / every + 1 ≤ most_checkpoints) ticks c.if-scheduled-every-gt-MOST_CHECKPOINTS.false in
    file_of c.into_bytes.result.items (string_bytes c.in_ok-text.text) (journal_with 2 every c.deref.result.now) (journal_of listing image s every)
    (ap (λ v. v.items) c.into_bytes.ensures.value) (IsUtf8-string_bytes c.in_ok-text.text) c.in_ok-text.ensures.reads_back whole
    (sound listing image s every c.requires.some most few)
