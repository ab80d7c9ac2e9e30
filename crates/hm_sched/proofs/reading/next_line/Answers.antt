use Rattle.std.proofs.Common.{Err, ap, rules, sym, ◌∙◌}
use Rattle.hm_sched.proofs.LineSteps.{next_none, next_unended, next_some}
use Rattle.hm_sched.proofs.reading.next_line.Goals as goal

pub returns-then-is_empty-clause-line : goal.returns-then-is_empty-clause-line
returns-then-is_empty-clause-line c = next_none c.args.bytes.now c.args.line c.args.kind (search rules) ∙ ap Err (sym c.refused.ensures)

pub returns-then-is_empty-2-clause-line : goal.returns-then-is_empty-2-clause-line
returns-then-is_empty-2-clause-line c =
    next_unended c.args.bytes.now c.span.result.0.now c.span.result.1.now c.args.line c.args.kind c.span.ensures.parts (search rules) (search rules)
    ∙ ap Err (sym c.refused-then-is_empty-2.ensures)

pub returns-clause-line : goal.returns-clause-line
returns-clause-line c = next_some c.args.bytes.now c.span.result.0.now c.span.result.1.now c.args.line c.args.kind c.span.ensures.parts (search rules)
