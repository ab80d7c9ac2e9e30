use Rattle.std.proofs.Common.{refl}
use Rattle.hm_report_lines.proofs.outcome_text.tainted_text.Goals as goal

pub returns : goal.returns
returns c = rw (c.in_ok-address_text.ensures, c.in_ok-number_text.ensures) refl
