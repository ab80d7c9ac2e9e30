use Rattle.std.proofs.Common.{◌≡◌, ◌++◌, drop, length}
use Rattle.hm_beat.specs.Touches.{spanned}
use Rattle.hm_moves.specs.Moves.{bytes_of_elements}
use Rattle.hm_moves.proofs.elements.spans.Given as goal

abbrev pub invariant-loop-e : goal.invariant-loop-e
invariant-loop-e l = record {
  size : length l.spans.items ≡ l.e-index;
  value : spanned l.spans.items ++ bytes_of_elements l.z (drop l.e-index l.es) ≡ bytes_of_elements l.z l.es;
}
