use Rattle.std.proofs.Common.{sym, ap, ◌∙◌, cond, []}
use Rattle.hm_base.specs.Place.{noted_all}
use Rattle.hm_moves.specs.Coded.{begun_in}
use Rattle.hm_moves.specs.Ways.{moves_of, way_of, way_sources, way_words}
use Rattle.hm_moves.proofs.Touched.{reads_are}
use Rattle.hm_moves.proofs.touches.reads.Goals as goal

pub returns : goal.returns
returns c = λ m output.
    let row = c.args.row.now in
    let b = c.args.b in
    c.note_begun.ensures.value
    ∙ (λ t. noted_all (begun_in (c.is_predicated.ensures t) b c.args.r.now) ((c.note_sources.ensures.value
    ∙ ap (noted_all (way_sources (way_of row.way) b))
    (c.note_words.ensures.value ∙ (λ u. noted_all (cond (c.reads_words.ensures u) (way_words row.register (way_of row.way) b) [])
    (c.new-places.ensures u)))) t))
    ∙ sym (reads_are (moves_of row) b c.args.r.now m output)
