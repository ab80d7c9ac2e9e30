use Rattle.std.proofs.Common.{ap, subst, ◌∙◌}
use Rattle.std.specs.Prelude.{All}
use Rattle.hm_base.specs.Place.{IsPlace}
use Rattle.hm_mem.specs.Memory.{memory_of}
use Rattle.hm_mem.specs.Seen.{seen}
use Rattle.hm_regs.specs.Writes.{apply}
use Rattle.hm_moves.specs.Coded.{old_word, puts_of, word_puts}
use Rattle.hm_moves.specs.Ways.{moves_of}
use Rattle.hm_moves.proofs.beats.load_words.Goals as goal

pub returns-clause-value : goal.returns-clause-value
returns-clause-value c =
    let i = moves_of c.args.row.now in
    let r = c.args.r.now in
    let s = seen (memory_of c.args.m.now) in
    c.put_each.ensures.value ∙ ap (λ ws. apply (puts_of ws) r) c.as_slice-2.ensures.value
    ∙ ap (λ ws. apply ws r) c.fill_words.ensures.value
    ∙ ap (λ ps. apply (word_puts i 0 c.args.es.now ps (old_word i r) s) r) (c.as_slice.ensures.value ∙ c.list_words.ensures.value)

pub returns-clause-placed : goal.returns-clause-placed
returns-clause-placed c = subst (All IsPlace) c.list_words.ensures.value c.list_words.ensures.placed
