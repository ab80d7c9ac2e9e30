-- Whether a run goes on or has ended, by its outcome.
use Rattle.std.specs.Prelude.{◌≡◌, ◌⊎◌, Option, Some, None}
use Rattle.hm_run.specs.declared.Outcome.{Outcome}
use Rattle.hm_run.specs.declared.Outcome.TheVariants as outcome

-- there is no outcome, but that the ticks may be out
abbrev pub GoesOn : Option Outcome → Type 0
GoesOn x = (x ≡ None) ⊎ (x ≡ Some outcome.OutOfTicks)

-- there is an outcome
abbrev pub HasEnded : Option Outcome → Type 0
HasEnded x = (o : Outcome) × (x ≡ Some o)
