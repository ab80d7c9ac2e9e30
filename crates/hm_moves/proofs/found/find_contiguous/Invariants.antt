use Rattle.std.proofs.Common.{◌≡◌, ℕ, ◌≤◌, ◌-◌, ◌++◌, [], ◌∷◌, length}
use Rattle.hm_moves.specs.Coded.{Fit}
use Rattle.hm_moves.specs.Moves.{active_ones}
use Rattle.hm_lane.specs.Lanes.{per_word}
use Rattle.hm_moves.specs.declared.ways.Way.TheVariants as way
use Rattle.hm_moves.specs.Ways.{each_from, way_element, way_of}
use Rattle.hm_moves.proofs.found.find_contiguous.Given as goal

abbrev pub invariant-loop-j : goal.invariant-loop-j
invariant-loop-j l = record {
  value : (n : ℕ) → let f = way_element l.y l.z (way_of (way.Contiguous l.w)) l.b (l.base ∷ n ∷ []) in
      l.es.items ++ active_ones l.active (each_from f l.j (per_word l.z - l.j)) ≡ active_ones l.active (each_from f 0 (per_word l.z));
  few : length l.es.items ≤ l.j;
  fit : Fit l.z l.es.items;
}
