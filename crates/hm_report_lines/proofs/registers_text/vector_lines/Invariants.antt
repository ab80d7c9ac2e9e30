use Rattle.std.proofs.Common.{◌≡◌}
use Rattle.hm_run.specs.Report.{vector_lines}
use Rattle.hm_report_lines.proofs.registers_text.vector_lines.Given as goal

abbrev pub invariant-loop-k : goal.invariant-loop-k
invariant-loop-k l = l.out.items ≡ vector_lines l.k l.words l.initial.out.items
