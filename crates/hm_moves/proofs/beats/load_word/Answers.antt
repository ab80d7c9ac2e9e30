use Rattle.std.proofs.Common.{ap, cond, sym, ◌%◌, ◌^◌, ◌∙◌}
use Rattle.hm_mem.specs.Memory.{memory_of}
use Rattle.hm_mem.specs.Seen.{seen}
use Rattle.hm_regs.specs.Place.{value_at, with_value}
use Rattle.hm_beat.specs.Rows.{word_place}
use Rattle.hm_moves.specs.Coded.{filled_in}
use Rattle.hm_moves.specs.Ways.{moves_of}
use Rattle.hm_moves.proofs.beats.load_word.Goals as goal

pub returns-clause-value : goal.returns-clause-value
returns-clause-value c =
    let i = moves_of c.args.row.now in
    let s = seen (memory_of c.args.m.now) in
    c.set.ensures.value ∙ ap (λ x. with_value (word_place c.args.q c.args.b) x c.args.r.now)
    (c.filled-value.ensures.value ∙ ap (λ o. filled_in i 0 c.args.es.now o s)
    (sym (ap (λ y. cond y 0 (value_at (word_place c.args.q c.args.b) c.args.r.now % 2 ^ 32)) c.requires.predicated)))
