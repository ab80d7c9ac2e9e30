-- HOW OFTEN each kind of outcome came, and in which run of the fewest ticks.
use Rattle.std.specs.Prelude.{◌≡◌, ◌≢◌, ◌⊎◌, ℕ, ◌+◌, List, [], ◌∷◌, nat_lt, if◌then◌else◌}
use Rattle.hm_shake_runs.specs.declared.found.Found.{Found}
use Rattle.hm_shake_runs.specs.declared.kinds.Ended.{Ended}

-- the first run in which a kind came
abbrev pub first_found : Ended → ℕ → Found
first_found e run = record { kind = e.kind; count = 1; run = run; ticks = e.ticks }

-- one run more, which is kept where it has fewer ticks than all before it
abbrev pub counted : Found → Ended → ℕ → Found
counted x e run = if nat_lt e.ticks x.ticks then record x { count = x.count + 1; run = run; ticks = e.ticks } else record x { count = x.count + 1 }

-- a run is counted at its kind, or behind all others where it is the first of it
abbrev pub IsNoted : Ended → ℕ → List Found → List Found → Type 0
IsNoted e run [] ys = ys ≡ first_found e run ∷ []
IsNoted e run (x ∷ xs) [] = ⊥
IsNoted e run (x ∷ xs) (y ∷ ys) = ((x.kind ≡ e.kind) × (y ≡ counted x e run) × (ys ≡ xs)) ⊎ ((x.kind ≢ e.kind) × (y ≡ x) × IsNoted e run xs ys)
