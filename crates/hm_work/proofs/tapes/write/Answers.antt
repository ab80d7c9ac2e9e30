use Rattle.std.proofs.lemmas.Result.{err_from_is_err_and}
use Rattle.hm_work.proofs.Taping.{journal_refused, journal_comes}
use Rattle.hm_work.proofs.tapes.write.Goals as goal

pub returns-in_err-bytes : goal.returns-in_err-bytes
returns-in_err-bytes c =
    let image = c.args.input.image in
    let s = c.args.input.schedule in
    let tape = c.in_ok-tape.ensures in
    let p = err_from_is_err_and c.from_residual-in_err-bytes.result c.from_residual-in_err-bytes.ensures.1 in
    let e = c.in_err-bytes.field-0.0 in
    record {
      outcome = λ listings are. rw p.1
          (journal_refused listings c.args.every.ticks c.args.out.now image s e p.0 tape.odd (c.in_err-bytes.ensures.refused image s tape.tapes) p.2);
    }

pub returns : goal.returns
returns c =
    let image = c.args.input.image in
    let s = c.args.input.schedule in
    let tape = c.in_ok-tape.ensures in
    let journal = c.in_ok-bytes.ensures in
    record {
      outcome = λ listings are.
          rw c.written.ensures.value (journal_comes listings c.args.every.ticks c.args.out.now image s c.in_ok-bytes.bytes.items tape.odd
          (journal.few image s tape.tapes) (journal.text image s (listings image) (are.at image) tape.tapes));
    }
