use Rattle.std.proofs.Common.{ℕ, [], List, Vec, Global, Err, get_or, map, subst}
use Rattle.std.proofs.lemmas.Result.{err_from_is_err_and}
use Rattle.hm_journal.specs.Outcomes.{IsReadErr}
use Rattle.hm_words.specs.Words.{source_meant}
use Rattle.hm_work.specs.Commands.{IsReplayOutcome, last_read, tick_outcome}
use Rattle.hm_work.specs.Images.{image_of}
use Rattle.hm_work.specs.Run.{schedule_in}
use Rattle.hm_work.specs.Work.{finish_of, refuses}
use Rattle.hm_work.proofs.RunInputs.{run_goes_on}
use Rattle.hm_work.proofs.Taping.{journal_not_read}
use Rattle.hm_work.proofs.tapes.replay.Goals as goal

pub returns-in_err-journal : goal.returns-in_err-journal
returns-in_err-journal c =
    let all = map (λ (v : Vec ℕ Global). v.items) c.args.contents.now in
    let source = source_meant c.args.schedule.now in
    let text = last_read source all in
    let input = c.in_ok-input.input in
    let read = c.in_ok-input.ensures.input in
    let p = err_from_is_err_and c.from_residual-in_err-journal.result c.from_residual-in_err-journal.ensures.1 in
    let e = c.in_err-journal.field-0.0 in
    let fails = subst (λ (bytes : List ℕ). IsReadErr bytes e) c.last_of.ensures.value c.in_err-journal.ensures.refused in
    record {
      outcome = λ listings are.
          rw p.1 (run_goes_on finish_of refuses (image_of (get_or all 0 [])) (schedule_in source (get_or all 1 [])) input.image input.schedule
          (IsReplayOutcome listings text c.args.tick.count) (Err p.0) read.0 read.1
          (journal_not_read listings text input.image input.schedule (λ j. tick_outcome listings input.image input.schedule c.args.tick.count) e p.0 fails
          p.2));
    }
