use Rattle.std.proofs.Common.{◌<◌, length, ap, subst, sym, arith, rules, length-append, ◌∙◌}
use Rattle.std.specs.Prelude.{All}
use Rattle.std.proofs.lemmas.List.Elements.{All-push}
use Rattle.hm_base.specs.Place.{IsPlace}
use Rattle.hm_kinds.specs.declared.rows.Written.{Written}
use Rattle.hm_mem.specs.Memory.{memory_of}
use Rattle.hm_mem.specs.Seen.{seen}
use Rattle.hm_moves.specs.Coded.{filled_in, old_word}
use Rattle.hm_moves.specs.Ways.{moves_of}
use Rattle.hm_moves.proofs.Done.{words_more}
use Rattle.hm_moves.proofs.beats.fill_words.Goals as goal

pub loop-j-preserved : goal.loop-j-preserved
loop-j-preserved c =
    let i = moves_of c.args.row.now in
    let s = seen (memory_of c.args.m.now) in
    let j = c.loop-j.j in
    let es = c.args.es.now in
    let low : j < length c.args.list.now = omega arith in
    record {
      value = words_more i es c.args.list.now j _ (old_word i c.args.r.now) s c.loop-j.ws.items _ _ low c.push.ensures.items
          (c.filled-value.ensures.value ∙ ap (λ o. filled_in i j es o s) c.old_word.ensures) c.loop-j.invariant.value;
      size = rw c.push.ensures.items (simp length-append (omega arith));
      written = subst (All (λ (w : Written). IsPlace w.place)) (sym c.push.ensures.items)
          (All-push (λ (w : Written). IsPlace w.place) c.loop-j.ws.items _ c.loop-j.invariant.written (search rules));
    }
