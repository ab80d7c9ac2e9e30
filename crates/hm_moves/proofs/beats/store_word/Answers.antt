use Rattle.std.proofs.Common.{ap, ◌∷◌, [], ◌∙◌}
use Rattle.hm_mem.specs.Memory.{memory_of}
use Rattle.hm_mem.specs.Seen.{marks}
use Rattle.hm_state.specs.State.{cells, state_of}
use Rattle.hm_state.specs.Store.{put_all}
use Rattle.hm_moves.specs.Moves.{all_bytes_from}
use Rattle.hm_moves.proofs.beats.store_word.Goals as goal

pub returns-clause-state : goal.returns-clause-state
returns-clause-state c = λ output.
    let m = memory_of c.args.m.now in
    c.store_all.ensures.state c.args.r.now output
    ∙ ap (λ x. put_all cells (all_bytes_from (marks m.around.actor) c.args.row.now.memory c.args.es.now (x ∷ [])) (state_of c.args.r.now m output))
    c.get.ensures.value
