use Rattle.std.proofs.Common.{length}
use Rattle.hm_text_rows.proofs.operands.+operand.Given as goal

abbrev pub decreases-operand : goal.decreases-operand
decreases-operand l = length l.tokens.now
