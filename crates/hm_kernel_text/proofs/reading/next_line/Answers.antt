use Rattle.std.proofs.Common.{rules}
use Rattle.hm_kernel_text.proofs.FileSteps.{next_some}
use Rattle.hm_kernel_text.proofs.reading.next_line.Goals as goal

pub returns-clause-line : goal.returns-clause-line
returns-clause-line c = next_some c.args.text.now c.span.result.0.now c.span.result.1.now c.args.line c.span.ensures.parts (search rules)
