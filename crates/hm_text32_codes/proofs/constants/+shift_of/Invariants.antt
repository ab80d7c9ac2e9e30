use Rattle.hm_text32_codes.proofs.constants.+shift_of.Given as goal

abbrev pub decreases-shift_of : goal.decreases-shift_of
decreases-shift_of l = l.n
