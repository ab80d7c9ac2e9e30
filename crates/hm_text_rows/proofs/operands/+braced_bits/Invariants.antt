use Rattle.std.proofs.Common.{length}
use Rattle.hm_text_rows.proofs.operands.+braced_bits.Given as goal

abbrev pub decreases-braced_bits : goal.decreases-braced_bits
decreases-braced_bits l = length l.tokens.now
