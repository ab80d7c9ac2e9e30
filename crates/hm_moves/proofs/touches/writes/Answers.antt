use Rattle.std.proofs.Common.{sym, ap, ◌∙◌, not, cond, []}
use Rattle.hm_base.specs.Place.{noted_all}
use Rattle.hm_lane.specs.Predicate.{advance_places}
use Rattle.hm_regs.specs.Writes.{places_of}
use Rattle.hm_state.specs.State.{state_of}
use Rattle.hm_moves.specs.Moves.{sources_at}
use Rattle.hm_moves.specs.Ways.{moves_of, way_back, way_of, way_words}
use Rattle.hm_moves.proofs.Touched.{writes_are}
use Rattle.hm_moves.proofs.touches.writes.Goals as goal

pub returns : goal.returns
returns c = λ m output.
    let row = c.args.row.now in
    let b = c.args.b in
    c.note_words.ensures.value
    ∙ ap (noted_all (cond (not row.store) (way_words row.register (way_of row.way) b) []))
    (c.note_back.ensures.value m output
    ∙ ap (noted_all (places_of (way_back (way_of row.way) b (sources_at (moves_of row) b (state_of c.args.r.now m output)))))
    (c.note_advance.ensures.value ∙ ap (noted_all (advance_places b c.args.r.now)) c.new-places.ensures))
    ∙ sym (writes_are (moves_of row) b c.args.r.now m output c.requires)
