use Rattle.hm_journal.proofs.Lines.{without_line}
use Rattle.hm_journal.proofs.laws.first_format_law.Goals as goal

pub returns : goal.returns
returns c = record { line = without_line }
