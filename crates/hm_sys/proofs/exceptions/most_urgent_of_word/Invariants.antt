use Rattle.hm_sys.specs.Best.{IsBest}
use Rattle.hm_sys.proofs.exceptions.most_urgent_of_word.Given as goal

abbrev pub invariant-loop-e : goal.invariant-loop-e
invariant-loop-e l = IsBest l.d l.current l.e l.best
