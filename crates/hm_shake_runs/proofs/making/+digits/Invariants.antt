use Rattle.hm_shake_runs.proofs.making.+digits.Given as goal

abbrev pub decreases-digits : goal.decreases-digits
decreases-digits l = l.most
