use Rattle.std.proofs.Common.{◌≤◌, ◌/◌, ◌+◌, ℕ, length, ap, sym, subst, ◌∙◌}
use Rattle.std.proofs.lemmas.Result.{err_from_is_err_and}
use Rattle.hm_journal.specs.Runs.{IsWriteErr, journal_of}
use Rattle.hm_journal.specs.Journals.{journal_text, most_checkpoints}
use Rattle.hm_machine.specs.Taped.{Tapes}
use Rattle.hm_sched.specs.Schedule.{ticks_of}
use Rattle.hm_work.specs.Commands.{journal_written}
use Rattle.hm_work.proofs.Taping.{again_refused, again_written, journal_differs}
use Rattle.hm_work.proofs.tapes.rewrite.Goals as goal

pub returns-in_err-compare : goal.returns-in_err-compare
returns-in_err-compare c =
    let image = c.args.input.image in
    let s = c.args.input.schedule in
    let j = c.args.given.now in
    let tape = c.in_ok-tape.ensures in
    let p = err_from_is_err_and c.from_residual-in_err-compare.result c.from_residual-in_err-compare.ensures.1 in
    let e = c.in_err-compare.field-0.0 in
    record {
      outcome = λ listings are.
          rw p.1 (journal_differs listings image s (journal_written listings j.every c.args.out.now image s) j e p.0 tape.odd
          (c.in_err-compare.ensures.refused image s (listings image) (are.at image) tape.tapes) p.2);
    }

pub returns-in_err-bytes : goal.returns-in_err-bytes
returns-in_err-bytes c =
    let image = c.args.input.image in
    let s = c.args.input.schedule in
    let j = c.args.given.now in
    let tape = c.in_ok-tape.ensures in
    let tapes = subst (Tapes image s) (sym c.in_ok-compare.ensures.stays) tape.tapes in
    let p = err_from_is_err_and c.from_residual-in_err-bytes.result c.from_residual-in_err-bytes.ensures.1 in
    let e = c.in_err-bytes.field-0.0 in
    let why = subst (λ (n : ℕ). IsWriteErr s n e) c.every.ensures.value (c.in_err-bytes.ensures.refused image s tapes) in
    record {
      outcome = λ listings are. rw p.1
          (again_refused listings image s j.every c.args.out.now j e p.0 tape.odd
          (c.in_ok-compare.ensures.same image s (listings image) (are.at image) tape.tapes) why p.2);
    }

pub returns : goal.returns
returns c =
    let image = c.args.input.image in
    let s = c.args.input.schedule in
    let j = c.args.given.now in
    let tape = c.in_ok-tape.ensures in
    let tapes = subst (Tapes image s) (sym c.in_ok-compare.ensures.stays) tape.tapes in
    let every = c.every.ensures.value in
    let few = subst (λ (n : ℕ). length (ticks_of s.lines) / n + 1 ≤ most_checkpoints) every (c.in_ok-bytes.ensures.few image s tapes) in
    record {
      outcome = λ listings are.
          rw c.written.ensures.value (again_written listings image s j.every c.args.out.now j c.in_ok-bytes.bytes.items tape.odd
          (c.in_ok-compare.ensures.same image s (listings image) (are.at image) tape.tapes) few
          (c.in_ok-bytes.ensures.text image s (listings image) (are.at image) tapes
          ∙ ap (λ (n : ℕ). journal_text (journal_of (listings image) image s n)) every));
    }
