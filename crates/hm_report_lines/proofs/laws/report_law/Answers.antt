use Rattle.hm_report_lines.proofs.Ascii.{report_text_is}
use Rattle.hm_report_lines.proofs.laws.report_law.Goals as goal

pub returns : goal.returns
returns c = record { ascii = report_text_is }
