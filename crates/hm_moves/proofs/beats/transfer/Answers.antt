use Rattle.std.proofs.Common.{◌≡◌, false, map, refl, sym, ap, ◌∙◌}
use Rattle.std.specs.Prelude.{None}
use Rattle.hm_mem.specs.Memory.{memory_of}
use Rattle.hm_mem.specs.Seen.{marks, seen}
use Rattle.hm_regs.specs.Place.{value_at}
use Rattle.hm_state.specs.State.{cells, state_of}
use Rattle.hm_state.specs.Store.{put_all}
use Rattle.hm_moves.specs.Coded.{first_stop, old_word}
use Rattle.hm_moves.specs.Moves.{byte_count}
use Rattle.hm_moves.specs.Ways.{moves_of, transfer_of}
use Rattle.hm_moves.proofs.Done.{all_cells, all_filled, all_loaded, none_cells, none_filled, none_loaded, none_stored}
use Rattle.hm_moves.proofs.Filled.{bytes_stored, cells_filled, loads_filled}
use Rattle.hm_moves.proofs.Owed.{move_is}
use Rattle.hm_moves.proofs.beats.transfer.Goals as goal

-- it stores
pub returns-then-row-clause-loads : goal.returns-then-row-clause-loads
returns-then-row-clause-loads c = none_filled c.args.row.now.store _ _ c.if-row.true

pub returns-then-row-clause-cells : goal.returns-then-row-clause-cells
returns-then-row-clause-cells c = none_cells c.args.row.now.store _ c.if-row.true

pub returns-then-row-clause-loaded : goal.returns-then-row-clause-loaded
returns-then-row-clause-loaded c = λ output same. none_loaded c.args.row.now.store _ _ c.if-row.true

pub returns-then-row-clause-stored : goal.returns-then-row-clause-stored
returns-then-row-clause-stored c = λ output same.
    let i = moves_of c.args.row.now in
    let b = c.args.b in
    let m = memory_of c.args.m.now in
    let r = c.args.r.now in
    c.store.ensures.state output
    ∙ ap (λ ws. put_all cells ws (state_of r m output))
    (bytes_stored m r output i b (marks m.around.actor) c.args.es.now (i.words b) (map (λ p. value_at p r) (i.words b)) c.if-row.true same refl
    c.store.ensures.placed ((move_is (transfer_of c.args.row.now)).words b) refl)

-- it loads
pub returns-else-row-clause-loads : goal.returns-else-row-clause-loads
returns-else-row-clause-loads c = all_filled c.args.row.now.store _ _ _ c.if-row.false c.load.ensures.value

pub returns-else-row-clause-cells : goal.returns-else-row-clause-cells
returns-else-row-clause-cells c =
    let i = moves_of c.args.row.now in
    all_cells c.args.row.now.store _ (cells_filled i 0 c.args.es.now (i.words c.args.b) (old_word i c.args.r.now) (seen (memory_of c.args.m.now))
    c.load.ensures.placed ((move_is (transfer_of c.args.row.now)).words c.args.b))

pub returns-else-row-clause-loaded : goal.returns-else-row-clause-loaded
returns-else-row-clause-loaded c = λ output same.
    let i = moves_of c.args.row.now in
    let b = c.args.b in
    let m = memory_of c.args.m.now in
    let es = c.args.es.now in
    let free : first_stop m.around false (byte_count i.memory) es (seen m) ≡ None =
    ap (λ y. first_stop m.around y (byte_count i.memory) es (seen m)) (sym c.if-row.false)
    ∙ c.requires.free in
    all_loaded c.args.row.now.store _ _ c.if-row.false
    (loads_filled m c.args.r.now output i b es (i.words b) c.if-row.false same refl c.load.ensures.placed
    ((move_is (transfer_of c.args.row.now)).words b) free)

pub returns-else-row-clause-stored : goal.returns-else-row-clause-stored
returns-else-row-clause-stored c = λ output same. none_stored c.args.row.now.store _ _ c.if-row.false
