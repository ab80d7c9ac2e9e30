-- Where tainted bytes lie.
use Rattle.std.specs.Prelude.{◌≡◌, ◌⊎◌, ℕ, ◌<◌, ◌≤◌, true, List, [], ◌∷◌}
use Rattle.hm_sched.specs.Schedule.{Sched}
use Rattle.hm_state.specs.State.{State, Byte}
use Rattle.hm_run_laws.specs.Runs.{Pointers}

-- below the main stack pointer at one of these entries
abbrev pub BelowMain : ℕ → List Pointers → Type 0
BelowMain a [] = ⊥
BelowMain a (p ∷ ps) = (a < p.main) ⊎ BelowMain a ps

-- below the process stack pointer at one of these entries that came from that stack
abbrev pub BelowProcess : ℕ → List Pointers → Type 0
BelowProcess a [] = ⊥
BelowProcess a (p ∷ ps) = ((p.from_process ≡ true) × (a < p.process)) ⊎ BelowProcess a ps

-- a byte of the region, or one from the floor up and below the main stack pointer at an entry, or one from the process floor up and below
-- the process stack pointer at an entry from that stack
abbrev pub MayBeTainted : Sched → List Pointers → ℕ → Type 0
MayBeTainted s ps a = ((s.lo ≤ a) × (a < s.hi)) ⊎ (((s.floor ≤ a) × BelowMain a ps) ⊎ ((s.process ≤ a) × BelowProcess a ps))

-- each byte that is tainted is such a one
abbrev pub TaintLies : Sched → List Pointers → State → Type 0
TaintLies s ps t = (a : ℕ) → (t.cell (Byte a)).taint ≡ true → MayBeTainted s ps a
