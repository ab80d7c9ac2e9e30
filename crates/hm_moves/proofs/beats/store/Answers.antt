use Rattle.std.proofs.Common.{ap, map, subst, sym, ◌∙◌}
use Rattle.std.specs.Prelude.{All}
use Rattle.hm_base.specs.Place.{IsPlace}
use Rattle.hm_mem.specs.Memory.{memory_of}
use Rattle.hm_mem.specs.Seen.{marks}
use Rattle.hm_regs.specs.Place.{value_at}
use Rattle.hm_state.specs.State.{cells, state_of}
use Rattle.hm_state.specs.Store.{put_all}
use Rattle.hm_moves.specs.Coded.{IsSingle}
use Rattle.hm_moves.specs.Moves.{all_bytes_from}
use Rattle.hm_moves.specs.Ways.{way_of}
use Rattle.hm_moves.proofs.beats.store.Goals as goal

pub returns-in-Some-clause-state : goal.returns-in-Some-clause-state
returns-in-Some-clause-state c = λ output.
    let m = memory_of c.args.m.now in
    let r = c.args.r.now in
    c.store_word.ensures.state output
    ∙ ap (λ ps. put_all cells (all_bytes_from (marks m.around.actor) c.args.row.now.memory c.args.es.now (map (λ p. value_at p r) ps)) (state_of r m output))
    (sym ((subst (IsSingle (way_of c.args.row.now.way)) c.in-Some.is c.requires.register).2 c.args.row.now.register c.args.b))

pub returns-in-Some-clause-placed : goal.returns-in-Some-clause-placed
returns-in-Some-clause-placed c =
    subst (All IsPlace)
    (sym ((subst (IsSingle (way_of c.args.row.now.way)) c.in-Some.is c.requires.register).2 c.args.row.now.register c.args.b))
    c.store_word.ensures.placed
