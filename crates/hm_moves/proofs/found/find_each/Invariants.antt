use Rattle.std.proofs.Common.{◌≡◌, ◌≤◌, ◌-◌, ◌++◌, [], ◌∷◌, length}
use Rattle.hm_moves.specs.Coded.{Fit}
use Rattle.hm_moves.specs.Moves.{active_ones}
use Rattle.hm_lane.specs.Lanes.{per_word}
use Rattle.hm_moves.specs.Ways.{each_from, way_element, way_of}
use Rattle.hm_moves.proofs.found.find_each.Given as goal

abbrev pub invariant-loop-j : goal.invariant-loop-j
invariant-loop-j l =
    let f = way_element l.row.memory l.row.register (way_of l.row.way) l.b (l.first ∷ l.second ∷ []) in
    record {
      value : l.es.items ++ active_ones l.active (each_from f l.j (per_word l.row.register - l.j))
          ≡ active_ones l.active (each_from f 0 (per_word l.row.register));
      few : length l.es.items ≤ l.j;
      fit : Fit l.row.register l.es.items;
    }
