-- SCHEDULES THAT COME OF OTHERS by cutting off and leaving interrupts out.
use Rattle.std.specs.Prelude.{◌≡◌, ◌⊎◌, ◌≤◌, ℕ, List, [], ◌∷◌, Option, None}
use Rattle.hm_shake_runs.specs.declared.stretches.Stretch.{Stretch}

-- an interrupt stays, or it is left out
abbrev pub StaysOrNone : Option ℕ → Option ℕ → Type 0
StaysOrNone new old = (new ≡ old) ⊎ (new ≡ None)

-- THE FIRST STRETCHES COME OF THE SECOND: they are these, up to some tick, with interrupts left out; so each has the letters and the ticks of the one at its
-- place, but that the last may have fewer ticks, and the interrupt of that one or none
abbrev pub LeavesOut : List Stretch → List Stretch → Type 0
LeavesOut [] ys = Unit {0}
LeavesOut (x ∷ xs) [] = ⊥
LeavesOut (x ∷ xs) (y ∷ ys) =
    (x.letters ≡ y.letters) × StaysOrNone x.irq y.irq × (((x.count ≡ y.count) × LeavesOut xs ys) ⊎ ((x.count ≤ y.count) × (xs ≡ [])))
