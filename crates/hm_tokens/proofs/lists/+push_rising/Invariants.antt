use Rattle.hm_tokens.proofs.lists.+push_rising.Given as goal

abbrev pub decreases-push_rising : goal.decreases-push_rising
decreases-push_rising l = l.n
