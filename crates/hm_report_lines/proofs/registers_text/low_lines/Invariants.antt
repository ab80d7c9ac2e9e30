use Rattle.std.proofs.Common.{◌≡◌}
use Rattle.hm_run.specs.Report.{low_lines}
use Rattle.hm_report_lines.proofs.registers_text.low_lines.Given as goal

abbrev pub invariant-loop-k : goal.invariant-loop-k
invariant-loop-k l = l.out.items ≡ low_lines l.k l.r l.initial.out.items
