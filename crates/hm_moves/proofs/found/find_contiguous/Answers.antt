use Rattle.std.proofs.Common.{◌≡◌, suc, ◌+◌, ◌-◌, ◌∷◌, [], ◌++◌, ap, sym, arith, ◌∙◌}
use Rattle.std.proofs.lemmas.List.{append-nil}
use Rattle.hm_moves.specs.Moves.{active_ones, byte_count}
use Rattle.hm_lane.specs.Lanes.{per_word}
use Rattle.hm_moves.specs.declared.ways.Way.TheVariants as way
use Rattle.hm_moves.specs.Ways.{each_from, way_element, way_of}
use Rattle.hm_moves.proofs.Widths.{more_active}
use Rattle.hm_moves.proofs.found.find_contiguous.Goals as goal

pub loop-j-preserved : goal.loop-j-preserved
loop-j-preserved c =
    let n = per_word c.args.z in
    let j = c.loop-j.j in
    let next : n - j ≡ suc (n - (j + 1)) = omega arith in
    record {
      value = λ k.
          let f = way_element c.args.y c.args.z (way_of (way.Contiguous c.args.w.now)) c.args.b (c.args.base ∷ k ∷ []) in
          more_active c.args.active f j n (n - (j + 1)) next c.loop-j.es.items _ _ c.push_active.ensures.value (c.contiguous_element-found.ensures.value k)
          ∙ c.loop-j.invariant.value k;
      few = omega arith;
      fit = c.push_active.ensures.fit (byte_count c.args.z) c.loop-j.invariant.fit c.contiguous_element-found.ensures.fit;
    }

pub returns-clause-value : goal.returns-clause-value
returns-clause-value c = λ k.
    let j = c.loop-j.j in
    let es = c.loop-j.es.items in
    let f = way_element c.args.y c.args.z (way_of (way.Contiguous c.args.w.now)) c.args.b (c.args.base ∷ k ∷ []) in
    let none : per_word c.args.z - j ≡ 0 = omega arith in
    sym (append-nil es) ∙ sym (ap (λ n. es ++ active_ones c.args.active (each_from f j n)) none) ∙ c.loop-j.invariant.value k
