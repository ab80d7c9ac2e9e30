-- Going to the next tick at which a test holds.
use Rattle.std.proofs.Common.{◌≡◌, ℕ, suc, ◌+◌, ◌-◌, ◌<◌, ◌≤◌, ap, arith, ◌∙◌, Bool, true, false, cond, Some, None}
use Rattle.hm_debug.specs.Answers.{next_at}

next_more : (p : ℕ → Bool) (last t : ℕ) → t < last → next_at p t (last - t) ≡ cond (p (t + 1)) (Some (t + 1)) (next_at p (t + 1) (last - (t + 1)))
next_more p last t below = more (last - t) (last - (t + 1)) (omega arith)
  where
    more : (n j : ℕ) → n ≡ suc j → next_at p t n ≡ cond (p (t + 1)) (Some (t + 1)) (next_at p (t + 1) j)
    more n j e = ap (next_at p t) e

pub next_on : (p : ℕ → Bool) (last t : ℕ) → t < last → p (t + 1) ≡ false → next_at p t (last - t) ≡ next_at p (t + 1) (last - (t + 1))
next_on p last t below none = next_more p last t below ∙ ap (λ (b : Bool). cond b (Some (t + 1)) (next_at p (t + 1) (last - (t + 1)))) none

pub next_found : (p : ℕ → Bool) (last t : ℕ) → t < last → p (t + 1) ≡ true → next_at p t (last - t) ≡ Some (t + 1)
next_found p last t below here = next_more p last t below ∙ ap (λ (b : Bool). cond b (Some (t + 1)) (next_at p (t + 1) (last - (t + 1)))) here

pub next_none : (p : ℕ → Bool) (last t : ℕ) → last ≤ t → next_at p t (last - t) ≡ None
next_none p last t past = ap (next_at p t) (let n : last - t ≡ 0 = omega arith in n)
