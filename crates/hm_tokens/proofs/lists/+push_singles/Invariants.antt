use Rattle.std.proofs.Common.{length}
use Rattle.hm_tokens.proofs.lists.+push_singles.Given as goal

abbrev pub decreases-push_singles : goal.decreases-push_singles
decreases-push_singles l = length l.tokens.now
