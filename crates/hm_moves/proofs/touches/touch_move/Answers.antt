use Rattle.std.proofs.Common.{sym, ◌∙◌}
use Rattle.hm_moves.specs.Ways.{moves_of}
use Rattle.hm_moves.proofs.Touched.{loads_are, stores_are}
use Rattle.hm_moves.proofs.touches.touch_move.Goals as goal

pub returns-clause-loads : goal.returns-clause-loads
returns-clause-loads c = λ m output. c.moved_spans.ensures m output ∙ sym (loads_are (moves_of c.args.row.now) c.args.b c.args.r.now m output)

pub returns-clause-stores : goal.returns-clause-stores
returns-clause-stores c = λ m output. c.moved_spans-2.ensures m output ∙ sym (stores_are (moves_of c.args.row.now) c.args.b c.args.r.now m output c.requires)
