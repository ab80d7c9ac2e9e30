use Rattle.std.proofs.lemmas.Result.{err_from_is_err_and}
use Rattle.hm_work.proofs.Taping.{script_answered, script_lost, script_not_loaded, script_refused}
use Rattle.hm_work.proofs.tapes.answers.Goals as goal

pub returns-in_err-check_script : goal.returns-in_err-check_script
returns-in_err-check_script c =
    let p = err_from_is_err_and c.from_residual.result c.from_residual.ensures.1 in
    let e = c.in_err-check_script.field-0.0 in
    record {
      outcome = λ listings are. rw p.1
          (script_refused listings c.args.text.now c.args.input.image c.args.input.schedule e p.0 c.in_err-check_script.ensures.refused p.2);
    }

pub returns-in_err-tape : goal.returns-in_err-tape
returns-in_err-tape c =
    let p = err_from_is_err_and c.from_residual-in_err-tape.result c.from_residual-in_err-tape.ensures.1 in
    let script = c.in_ok-check_script.ensures.fine in
    let e = c.in_err-tape.field-0.0 in
    record {
      outcome = λ listings are. rw p.1
          (script_not_loaded listings c.args.text.now c.args.input.image c.args.input.schedule script.0 e p.0 script.1 c.in_err-tape.ensures.refused p.2);
    }

pub returns-in_err-answers : goal.returns-in_err-answers
returns-in_err-answers c =
    let p = err_from_is_err_and c.from_residual-in_err-answers.result c.from_residual-in_err-answers.ensures.1 in
    let script = c.in_ok-check_script.ensures.fine in
    let e = c.in_err-answers.field-0.0 in
    record {
      outcome = λ listings are. rw p.1
          (script_lost listings c.args.text.now c.args.input.image c.args.input.schedule script.0 e p.0 script.1 c.in_err-answers.ensures.refused p.2);
    }

pub returns : goal.returns
returns c =
    let image = c.args.input.image in
    let s = c.args.input.schedule in
    let tape = c.in_ok-tape.ensures in
    record {
      outcome = λ listings are.
          rw c.printed.ensures.value (script_answered listings c.args.text.now image s c.in_ok-answers.answers.items tape.odd
          (c.in_ok-answers.ensures.answers image s (listings image) (are.at image) tape.tapes));
    }
