use Rattle.std.proofs.Common.{◌∷◌, [], ◌∙◌}
use Rattle.hm_state.specs.State.{state_of}
use Rattle.hm_moves.specs.Moves.{active_ones, sources_at}
use Rattle.hm_lane.specs.Lanes.{per_word}
use Rattle.hm_moves.specs.Ways.{moves_of, way_element, way_of}
use Rattle.hm_moves.proofs.Widths.{by_sources, each_same}
use Rattle.hm_moves.proofs.found.find_elements.Goals as goal

pub returns-clause-value : goal.returns-clause-value
returns-clause-value c = λ m output.
    let row = c.args.row.now in
    let s = state_of c.args.r.now m output in
    let ns = sources_at (moves_of row) c.args.b s in
    c.find_active.ensures.value
    ∙ (λ t. active_ones (c.active_bytes.ensures m output t)
    (each_same (way_element row.memory row.register (way_of row.way) c.args.b (c.first_source-first.result ∷ c.second_source-second.result ∷ []))
    (way_element row.memory row.register (way_of row.way) c.args.b ns) 0 (per_word row.register)
    (λ j. by_sources row.memory row.register (way_of row.way) c.args.b _ _ ns j (c.first_source-first.ensures m output)
    (c.second_source-second.ensures m output)) t))
