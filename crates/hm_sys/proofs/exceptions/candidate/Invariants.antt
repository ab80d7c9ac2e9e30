use Rattle.hm_sys.specs.Best.{IsBest, end_of}
use Rattle.hm_sys.proofs.exceptions.candidate.Given as goal

abbrev pub invariant-loop-k : goal.invariant-loop-k
invariant-loop-k l = IsBest l.d l.current (end_of l.k) l.best
