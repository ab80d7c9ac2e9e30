use Rattle.std.proofs.Common.{◌∙◌}
use Rattle.hm_mem.specs.Memory.{memory_of}
use Rattle.hm_moves.specs.Ways.{moves_of}
use Rattle.hm_moves.proofs.Checked.{check_exact}
use Rattle.hm_moves.proofs.beats.check_move.Goals as goal

pub returns : goal.returns
returns c = λ output. let m = memory_of c.args.m.now in
    check_exact (moves_of c.args.row.now) c.args.b m c.args.r.now output c.as_slice.result.now _
    (c.as_slice.ensures.value ∙ c.find_elements.ensures.value m output) c.check_all.ensures.value
