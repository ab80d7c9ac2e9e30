use Rattle.std.proofs.Common.{◌∙◌, sym}
use Rattle.hm_shake.proofs.Finding.{report_so}
use Rattle.hm_shake.proofs.counting.report_of.Goals as goal

pub report_under-requires-clause-repeats : goal.report_under-requires-clause-repeats
report_under-requires-clause-repeats c = (c.requires.repeats.0, c.loop-found.invariant.again c.requires.repeats.0 c.requires.repeats.1)

pub returns-then-is_halted-clause-report : goal.returns-then-is_halted-clause-report
returns-then-is_halted-clause-report c = λ image listing is repeats all.
    report_so listing image c.args.given.now.plan c.args.given.now.head c.args.given.now.irqs.items _ c.in_ok-report.report.items
    (sym c.is_halted.ensures.value ∙ c.if-is_halted.true)
    (all c.loop-found.found-index _ c.loop-found-test.true) (c.in_ok-report.ensures.report image listing is (c.loop-found.invariant.again image repeats))
