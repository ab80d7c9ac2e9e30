use Rattle.std.proofs.Common.{refl}
use Rattle.hm_run.specs.Report.{report_of}
use Rattle.hm_report.proofs.report.Goals as goal

pub returns : goal.returns
unfolding report_of
returns c = rw (c.in_ok-output_lines.ensures, c.in_ok-register_lines.ensures, c.in_ok-mode_line.ensures, c.in_ok-out.ensures) refl
