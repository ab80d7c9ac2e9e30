use Rattle.std.proofs.Common.{rules}
use Rattle.hm_debug.proofs.Lines.{line_ended, line_unended}
use Rattle.hm_debug.proofs.checking.next_line.Goals as goal

pub returns-then-is_empty-clause-unended : goal.returns-then-is_empty-clause-unended
returns-then-is_empty-clause-unended c = line_unended c.args.text.now c.span.result.0.now c.span.result.1.now c.span.ensures.parts (search rules)

pub returns-clause-ended : goal.returns-clause-ended
returns-clause-ended c = line_ended c.args.text.now c.span.result.0.now c.span.result.1.now c.span.ensures.parts (search rules)
