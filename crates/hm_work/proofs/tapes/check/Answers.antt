use Rattle.std.proofs.Common.{◌≡◌, Err, ap, sym, subst, ◌∙◌}
use Rattle.std.proofs.lemmas.Result.{err_from_is_err_and}
use Rattle.hm_machine.specs.Taped.{Taped, Tapes}
use Rattle.hm_run_laws.specs.Runs.{shown}
use Rattle.hm_run.specs.Report.{report_text}
use Rattle.hm_work.specs.Commands.{IsCompared, UnlessRefused, tick_outcome}
use Rattle.hm_work.specs.Run.{reset_refusal}
use Rattle.hm_work.specs.Work.{GivesOne}
use Rattle.hm_work.specs.declared.work.Stop.{Stop}
use Rattle.hm_work.proofs.Taping.{journal_differs, tick_past, tick_shown}
use Rattle.hm_work.proofs.tapes.check.Goals as goal

pub returns-in_err-compare : goal.returns-in_err-compare
returns-in_err-compare c =
    let image = c.args.input.image in
    let s = c.args.input.schedule in
    let tape = c.in_ok-tape.ensures in
    let p = err_from_is_err_and c.from_residual-in_err-compare.result c.from_residual-in_err-compare.ensures.1 in
    let e = c.in_err-compare.field-0.0 in
    record {
      outcome = λ listings are.
          rw p.1 (journal_differs listings image s (tick_outcome listings image s c.args.tick.count) c.args.journal.now e p.0 tape.odd
          (c.in_err-compare.ensures.refused image s (listings image) (are.at image) tape.tapes) p.2);
    }

pub returns-in_err-machine : goal.returns-in_err-machine
returns-in_err-machine c =
    let image = c.args.input.image in
    let s = c.args.input.schedule in
    let tape = c.in_ok-tape.ensures in
    let p = err_from_is_err_and c.from_residual-in_err-machine.result c.from_residual-in_err-machine.ensures.1 in
    let e = c.in_err-machine.field-0.0 in
    let past = c.in_err-machine.ensures.past in
    let same : c.compare.new.tape.last ≡ c.in_ok-tape.tape.last = ap (λ (w : Taped). w.last) c.in_ok-compare.ensures.stays in
    record {
      outcome = λ listings are.
          let last = tape.tapes.last (listings image) (are.at image) ∙ sym same ∙ sym past.0 in
          rw p.1 (subst (λ (x : Stop). GivesOne
          (UnlessRefused (reset_refusal image) (IsCompared listings image s (tick_outcome listings image s c.args.tick.count) c.args.journal.now)) (Err x))
          (sym p.2)
          (tick_past listings image s c.args.tick.count e.last c.args.journal.now tape.odd
          (c.in_ok-compare.ensures.same image s (listings image) (are.at image) tape.tapes) last (rw past.0 past.1)));
    }

pub returns : goal.returns
returns c =
    let image = c.args.input.image in
    let s = c.args.input.schedule in
    let tape = c.in_ok-tape.ensures in
    let stays = c.in_ok-compare.ensures.stays in
    let tapes = subst (Tapes image s) (sym stays) tape.tapes in
    let same : c.compare.new.tape.last ≡ c.in_ok-tape.tape.last = ap (λ (w : Taped). w.last) stays in
    record {
      outcome = λ listings are.
          let last = tape.tapes.last (listings image) (are.at image) ∙ sym same in
          let shows = c.in_ok-machine.ensures.shows image s tapes in
          rw c.printed.ensures.value (tick_shown listings image s c.args.tick.count c.compare.new.tape.last c.args.journal.now c.in_ok-report.report.items
          tape.odd
          (c.in_ok-compare.ensures.same image s (listings image) (are.at image) tape.tapes) last c.in_ok-machine.ensures.begun
          (c.in_ok-report.ensures ∙ ap report_text (ap shown (shows.now (listings image) (are.at image)))));
    }
