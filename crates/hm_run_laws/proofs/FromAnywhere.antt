-- Instructions in order from anywhere.
use Rattle.std.proofs.Common.{◌≡◌, ℕ, zero, suc, ◌+◌, ap, refl, sym, ◌∙◌, arith, List, Result, Ok, Err, add-zero, add-suc}
use Rattle.hm_base.specs.Image.{Segment}
use Rattle.hm_codes.specs.Listing.{Listing}
use Rattle.hm_run.specs.InOrder.{InOrder, Running, Halted, Full, after, in_order, one_more}
use Rattle.hm_run.specs.Program.{alone}
use Rattle.hm_run.specs.Stops as why
use Rattle.hm_run.specs.Stops.{WholeStop}
use Rattle.hm_state.specs.State.{State}
use Rattle.hm_run_laws.specs.Next.{counted_from, more}

pub order_more : (listing : Listing) (image : List Segment) (n k : ℕ) → in_order listing image (n + k) ≡ more listing n k (in_order listing image n)
order_more listing image n zero = ap (in_order listing image) (add-zero n)
order_more listing image n (suc k) = ap (in_order listing image) (add-suc n k) ∙ ap (one_more listing (n + k)) (order_more listing image n k)

pub more_more : (listing : Listing) (n j k : ℕ) (y : InOrder) → more listing n (j + k) y ≡ more listing (n + j) k (more listing n j y)
more_more listing n j zero y = ap (λ (m : ℕ). more listing n m y) (add-zero j)
more_more listing n j (suc k) y =
    let sum : n + (j + k) ≡ (n + j) + k = omega arith in
    ap (λ (m : ℕ). more listing n m y) (add-suc j k)
    ∙ ap (λ (m : ℕ). one_more listing m (more listing n (j + k) y)) sum
    ∙ ap (one_more listing ((n + j) + k)) (more_more listing n j k y)

counted_after : (n k : ℕ) (s : State) (r : Result State WholeStop) → after (n + k) s r ≡ counted_from n (after k s r)
counted_after n k s (Ok t) = refl
counted_after n k s (Err (why.Halt reason)) = let sum : (n + k) + 1 ≡ n + (k + 1) = omega arith in ap (λ (m : ℕ). Halted reason m s) sum
counted_after n k s (Err why.Full) = let sum : (n + k) + 1 ≡ n + (k + 1) = omega arith in ap (λ (m : ℕ). Full m s) sum
counted_after n k s (Err (why.Faults f)) = refl

counted_one : (listing : Listing) (n k : ℕ) (y : InOrder) → one_more listing (n + k) (counted_from n y) ≡ counted_from n (one_more listing k y)
counted_one listing n k (Running s) = counted_after n k s (alone listing s)
counted_one listing n k y = refl

-- k instructions from a state are the same whatever was done before, but for their numbers
pub order_counted : (listing : Listing) (n k : ℕ) (s : State) → more listing n k (Running s) ≡ counted_from n (more listing 0 k (Running s))
order_counted listing n zero s = refl
order_counted listing n (suc k) s =
    let from : 0 + k ≡ k = omega arith in
    ap (one_more listing (n + k)) (order_counted listing n k s)
    ∙ counted_one listing n k (more listing 0 k (Running s))
    ∙ ap (λ (m : ℕ). counted_from n (one_more listing m (more listing 0 k (Running s)))) (sym from)
