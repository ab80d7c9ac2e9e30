use Rattle.std.proofs.Common.{ap, map, subst, ◌∙◌}
use Rattle.std.specs.Prelude.{All}
use Rattle.hm_base.specs.Place.{IsPlace}
use Rattle.hm_mem.specs.Memory.{memory_of}
use Rattle.hm_mem.specs.Seen.{marks}
use Rattle.hm_regs.specs.Place.{value_at}
use Rattle.hm_state.specs.State.{cells, state_of}
use Rattle.hm_state.specs.Store.{put_all}
use Rattle.hm_moves.specs.Moves.{all_bytes_from}
use Rattle.hm_moves.proofs.beats.store_words.Goals as goal

pub returns-clause-state : goal.returns-clause-state
returns-clause-state c = λ output.
    let m = memory_of c.args.m.now in
    let r = c.args.r.now in
    c.store_all.ensures.state r output
    ∙ ap (λ xs. put_all cells (all_bytes_from (marks m.around.actor) c.args.row.now.memory c.args.es.now xs) (state_of r m output))
    (c.as_slice-2.ensures.value ∙ c.read_values.ensures.value
    ∙ ap (map (λ p. value_at p r)) (c.as_slice.ensures.value ∙ c.list_words.ensures.value))

pub returns-clause-placed : goal.returns-clause-placed
returns-clause-placed c = subst (All IsPlace) c.list_words.ensures.value c.list_words.ensures.placed
