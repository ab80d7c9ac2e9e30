use Rattle.std.proofs.Common.{arith, ◌≡◌, ◌≤◌, ℕ, subst}
use Rattle.std.specs.Prelude.{Option}
use Rattle.hm_mem.specs.declared.Dev.{Dev}
use Rattle.hm_sys.proofs.Picked.{best-one, best_below, picked-found, picked-some}
use Rattle.hm_sys.specs.Best.{IsBest, end_of}
use Rattle.hm_sys.specs.Exceptions.{end_number, picked_below}
use Rattle.hm_sys.proofs.exceptions.candidate.Goals as goal

-- the best of the numbers before the end
best : (d : Dev) (current k : ℕ) (r : Option ℕ) → 8 ≤ k → k ≤ 8 → IsBest d current (end_of k) r → IsBest d current end_number r
best d current k r from to h = let end : k ≡ 8 = omega arith in subst (λ (j : ℕ). IsBest d current (end_of j) r) end h

pub returns-clause-found : goal.returns-clause-found
returns-clause-found c = picked-found c.args.d.now c.args.current c.loop-k.best
    (best c.args.d.now c.args.current c.loop-k.k c.loop-k.best (omega arith) (omega arith) c.loop-k.invariant)

pub returns-clause-unique : goal.returns-clause-unique
returns-clause-unique c e p = picked-some c.args.d.now c.args.current e c.loop-k.best
    (best c.args.d.now c.args.current c.loop-k.k c.loop-k.best (omega arith) (omega arith) c.loop-k.invariant) p

pub returns-clause-value : goal.returns-clause-value
returns-clause-value c =
    best-one c.args.d.now c.args.current c.loop-k.best (picked_below c.args.d.now c.args.current end_number)
    (best c.args.d.now c.args.current c.loop-k.k c.loop-k.best (omega arith) (omega arith) c.loop-k.invariant)
    (best_below c.args.d.now c.args.current end_number)
