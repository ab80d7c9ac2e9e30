-- A run that is counted: at its kind, or behind all others.
use Rattle.std.proofs.Common.{◌≡◌, ◌≢◌, ℕ, zero, suc, ◌<◌, List, [], ◌∷◌, ◌++◌, length, get_or, set, arith, refl, inl, inr}
use Rattle.std.specs.List.{All}
use Rattle.std.proofs.lemmas.List.Elements.{All-head, All-tail}
use Rattle.hm_shake_runs.specs.Found.{IsNoted, counted, first_found}
use Rattle.hm_shake_runs.specs.declared.found.Found.{Found}
use Rattle.hm_shake_runs.specs.declared.kinds.Ended.{Ended}

pub noted_last : (e : Ended) (run : ℕ) (xs : List Found) → All (λ (x : Found). x.kind ≢ e.kind) xs → IsNoted e run xs (xs ++ first_found e run ∷ [])
noted_last e run [] all = refl
noted_last e run (x ∷ xs) all =
    inr (All-head (λ (x : Found). x.kind ≢ e.kind) x xs all, refl, noted_last e run xs (All-tail (λ (x : Found). x.kind ≢ e.kind) x xs all))

pub noted_at : (e : Ended) (run : ℕ) (xs : List Found) (k : ℕ) (d : Found) → k < length xs → (get_or xs k d).kind ≡ e.kind
    → ((j : ℕ) → j < k → (get_or xs j d).kind ≢ e.kind) → IsNoted e run xs (set xs k (counted (get_or xs k d) e run))
noted_at e run [] k d h there first = absurd (omega arith)
noted_at e run (x ∷ xs) zero d h there first = inl (there, refl, refl)
noted_at e run (x ∷ xs) (suc k) d h there first =
    inr (first zero (omega arith), refl, noted_at e run xs k d (omega arith) there (λ j lt. first (suc j) (omega arith)))
