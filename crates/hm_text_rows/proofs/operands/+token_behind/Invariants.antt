use Rattle.std.proofs.Common.{length}
use Rattle.hm_text_rows.proofs.operands.+token_behind.Given as goal

abbrev pub decreases-token_behind : goal.decreases-token_behind
decreases-token_behind l = length l.tokens.now
