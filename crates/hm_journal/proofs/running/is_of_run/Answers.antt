use Rattle.std.proofs.Common.{arith, ◌∙◌}
use Rattle.hm_journal.proofs.Reports.{of_run, reported}
use Rattle.hm_journal.proofs.running.is_of_run.Goals as goal

pub returns-clause-told : goal.returns-clause-told
returns-clause-told c = λ image s listing is tapes.
    let bytes = c.deref.result.now in
    let last = tapes.last listing is in
    let begun = c.in-Ok.ensures.begun in
    of_run listing image s c.args.format c.args.x.now bytes c.as_bytes.result.now c.is_report.result (omega (arith, last, begun))
    (reported listing image s c.args.x.now.tick c.in-Ok.machine.now bytes is (c.in-Ok.ensures.shows image s tapes)
    (c.deref.ensures.value ∙ c.in_ok-report.ensures))
    c.as_bytes.ensures.value c.is_report.ensures.value
