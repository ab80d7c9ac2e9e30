use Rattle.std.proofs.Common.{◌≡◌, ◌+◌, ◌≤◌, ◌∷◌, List, length}
use Rattle.hm_source.specs.Directives.{Datum}
use Rattle.hm_source.specs.Shown.{AreListed}
use Rattle.hm_source.proofs.values.count_values.Given as goal

-- a list that is left is the end of a list, which has so many values more; and where the text is a list, so is what is left
abbrev pub invariant-loop-item : goal.invariant-loop-item
invariant-loop-item l = record {
  whole : (d : Datum) (ds : List Datum) → AreListed l.size l.rest d ds
      → (e : Datum) × (es : List Datum) × AreListed l.size l.text e es × (length (e ∷ es) ≡ l.count + length (d ∷ ds));
  left : (e : Datum) (es : List Datum) → AreListed l.size l.text e es
      → (d : Datum) × (ds : List Datum) × AreListed l.size l.rest d ds × (length (e ∷ es) ≡ l.count + length (d ∷ ds));
  counted : l.count + length l.rest ≤ length l.text;
}

abbrev pub decreases-loop-item : goal.decreases-loop-item
decreases-loop-item l = length l.rest
