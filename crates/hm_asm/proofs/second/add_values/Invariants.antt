use Rattle.std.proofs.Common.{◌∷◌, List, length}
use Rattle.std.specs.FinMap.{get}
use Rattle.hm_source.specs.Directives.{Datum, values}
use Rattle.hm_source.specs.Shown.{ShowsValues}
use Rattle.hm_asm.proofs.Lists.{Left}
use Rattle.hm_asm.proofs.second.add_values.Given as goal

abbrev pub invariant-loop-item : goal.invariant-loop-item
invariant-loop-item l = record {
  left : (d : Datum) (ds : List Datum) → ShowsValues l.line.parts.instruction.now l.values (values l.values.size d ds)
      → Left l.line.parts.instruction.now (get l.labels) l.values.size l.rest l.initial.out l.out (d ∷ ds);
}

abbrev pub decreases-loop-item : goal.decreases-loop-item
decreases-loop-item l = length l.rest
