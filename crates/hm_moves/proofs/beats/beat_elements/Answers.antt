use Rattle.std.proofs.Common.{◌≡◌, Result, Ok, refl, sym, subst}
use Rattle.hm_base.specs.declared.Stop.{Stop}
use Rattle.hm_mem.specs.Memory.{memory_of}
use Rattle.hm_mem.specs.Seen.{seen}
use Rattle.hm_state.specs.State.{State, state_of}
use Rattle.hm_beat.specs.Laws.{AnswersBeat, run}
use Rattle.hm_beat.proofs.Footprint.{beats_stopped}
use Rattle.hm_kinds.proofs.Coded.{put_cells}
use Rattle.hm_kinds.specs.Coded.{puts}
use Rattle.hm_moves.specs.Coded.{loads_of}
use Rattle.hm_moves.specs.Ways.{move_tree, moves_of}
use Rattle.hm_moves.proofs.Checked.{run_stopped}
use Rattle.hm_moves.proofs.Done.{beat_done, finished}
use Rattle.hm_moves.proofs.beats.beat_elements.Goals as goal

pub returns-in-Err-clause-done : goal.returns-in-Err-clause-done
returns-in-Err-clause-done c = λ output.
    let m = memory_of c.args.m.now in
    let r = c.args.r.now in
    beats_stopped Unit (move_tree c.args.row.now m.around c.args.b) r m output c.in-Err.stop
    (run_stopped (moves_of c.args.row.now) c.args.b m r output c.args.es.now c.in-Err.stop (c.requires.moved m output) c.in-Err.ensures.value)

pub returns-clause-done : goal.returns-clause-done
returns-clause-done c = λ output.
    let i = moves_of c.args.row.now in
    let b = c.args.b in
    let m = memory_of c.args.m.now in
    let r = c.args.r.now in
    let es = c.args.es.now in
    let same = c.requires.moved m output in
    let back = c.written_back-back.result in
    let ws = loads_of i b es r (seen m) in
    let done : run (move_tree c.args.row.now m.around b) r m output ≡ Ok (state_of c.finish.new.r (memory_of c.transfer.new.m) output) =
    beat_done i b r c.finish.new.r m (memory_of c.transfer.new.m) output es ws (puts back)
    c.requires.beat c.in_range.ensures.counted same (sym c.in_default.ensures.value) c.transfer.ensures.cells
    (put_cells back c.written_back-back.ensures.placed c.written_back-back.ensures.body)
    (c.transfer.ensures.loaded output same)
    (c.written_back-back.ensures.value m output)
    (c.transfer.ensures.stored output same)
    (finished b r _ _ ws (puts back) c.args.mask c.get-slice.result
    c.requires.mask c.get-slice.ensures.value
    c.transfer.ensures.loads c.finish.ensures.value) in
    subst (λ (x : Result State Stop). AnswersBeat x (Ok tt) r m c.finish.new.r (memory_of c.transfer.new.m) output) (sym done) (refl, refl)
