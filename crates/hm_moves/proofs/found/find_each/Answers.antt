use Rattle.std.proofs.Common.{◌≡◌, suc, ◌+◌, ◌-◌, ◌∷◌, [], arith, ◌∙◌}
use Rattle.hm_moves.specs.Moves.{byte_count}
use Rattle.hm_lane.specs.Lanes.{per_word}
use Rattle.hm_moves.specs.Ways.{way_element, way_of}
use Rattle.hm_moves.proofs.Widths.{more_active}
use Rattle.hm_moves.proofs.found.find_each.Goals as goal

pub loop-j-preserved : goal.loop-j-preserved
loop-j-preserved c =
    let row = c.args.row.now in
    let f = way_element row.memory row.register (way_of row.way) c.args.b (c.args.first ∷ c.args.second ∷ []) in
    let n = per_word row.register in
    let j = c.loop-j.j in
    let next : n - j ≡ suc (n - (j + 1)) = omega arith in
    record {
      value = more_active c.args.active f j n (n - (j + 1)) next c.loop-j.es.items _ _ c.push_active.ensures.value c.element-e.ensures.value
          ∙ c.loop-j.invariant.value;
      few = omega arith;
      fit = c.push_active.ensures.fit (byte_count row.register) c.loop-j.invariant.fit c.element-e.ensures.fit;
    }
