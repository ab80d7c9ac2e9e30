-- NUMBERS OF KINDS, which fit their types.
use Rattle.std.specs.Prelude.{◌<◌, ◌^◌}
use Rattle.hm_base.specs.declared.Place.{Place}
use Rattle.hm_base.specs.declared.Place.TheVariants as place
use Rattle.hm_run.specs.declared.Reason.{Reason}
use Rattle.hm_run.specs.declared.Reason.TheVariants as reason
use Rattle.hm_exc.specs.declared.types.Slot.{Slot}
use Rattle.hm_exc.specs.declared.types.Slot.TheVariants as slot
use Rattle.hm_shake_runs.specs.declared.kinds.Kind.{Kind}
use Rattle.hm_shake_runs.specs.declared.kinds.Kind.TheVariants as kind

-- the number of a reason to halt fits its type
abbrev pub ReasonFits : Reason → Type 0
ReasonFits (reason.Break k) = k < 2 ^ 8
ReasonFits (reason.Exit r) = r < 2 ^ 32

-- the number of a place fits its type
abbrev pub PlaceFits : Place → Type 0
PlaceFits (place.R n) = n < 2 ^ 8
PlaceFits (place.QWord k) = k < 2 ^ 8
PlaceFits (place.P0 b) = b < 2 ^ 8
PlaceFits p = Unit {0}

-- the number of what a handler has to leave as it was fits its type
abbrev pub SlotFits : Slot → Type 0
SlotFits (slot.Reg p) = PlaceFits p
SlotFits s = Unit {0}

-- the numbers of a kind fit their types
abbrev pub HasNumbers : Kind → Type 0
HasNumbers (kind.Halted reason n) = ReasonFits reason × (n < 2 ^ 64)
HasNumbers (kind.Register name) = SlotFits name
HasNumbers k = Unit {0}
