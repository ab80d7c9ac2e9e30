use Rattle.std.proofs.Common.{◌≡◌, ℕ, suc, ◌+◌, ◌-◌, ◌*◌, ◌/◌, ◌%◌, ◌++◌, ◌∷◌, [], cond, ltb, subst, sym, ap, arith, length-append, ◌∙◌}
use Rattle.std.specs.Prelude.{All, min}
use Rattle.std.proofs.lemmas.List.Elements.{All-push}
use Rattle.hm_base.specs.Place.{IsPlace}
use Rattle.hm_base.specs.declared.Place.{Place}
use Rattle.hm_beat.specs.Rows.{word_place}
use Rattle.hm_moves.specs.Moves.{byte_count}
use Rattle.hm_lane.specs.Lanes.{per_word}
use Rattle.hm_moves.specs.Ways.{registers, stream}
use Rattle.hm_moves.proofs.Widths.{each_more}
use Rattle.hm_moves.proofs.words.list_interleaved.Goals as goal

lower : (x y : ℕ) → min x y ≡ cond (ltb x y) x y
lower x y = grind arith

pub loop-i-preserved : goal.loop-i-preserved
loop-i-preserved c =
    let w = c.args.w.now in
    let z = c.args.z in
    let g : ℕ → Place = λ k. word_place (w.d + k % registers w.four) (byte_count z * (k / registers w.four) / 4) in
    let f : ℕ → Place = λ i. g (stream w.part z c.args.b + i) in
    let n = cond (ltb (per_word z) (registers w.four)) (per_word z) (registers w.four) in
    let i = c.loop-i.i in
    let count : c.min-i-end.result ≡ n = c.min-i-end.ensures
    ∙ (λ t. min (c.per_word.ensures.value t) (c.registers.ensures.value t)) ∙ lower (per_word z) (registers w.four) in
    let next : n - i ≡ suc (n - (i + 1)) = omega arith in
    record {
      value = each_more f n i (n - (i + 1)) c.loop-i.list.items _ _ next
          (c.push.ensures.items ∙ ap (λ p. c.loop-i.list.items ++ p ∷ [])
          (c.interleaved_word.ensures.value ∙ ap (λ k. g (k + i)) c.stream-first.ensures.value)) c.loop-i.invariant.value;
      size = rw c.push.ensures.items (simp length-append (omega arith));
      placed = subst (All IsPlace) (sym c.push.ensures.items)
          (All-push IsPlace c.loop-i.list.items _ c.loop-i.invariant.placed c.interleaved_word.ensures.placed);
    }
