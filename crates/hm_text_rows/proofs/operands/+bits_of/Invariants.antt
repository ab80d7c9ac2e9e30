use Rattle.std.proofs.Common.{length}
use Rattle.hm_text_rows.proofs.operands.+bits_of.Given as goal

abbrev pub decreases-bits_of : goal.decreases-bits_of
decreases-bits_of l = length l.tokens.now
