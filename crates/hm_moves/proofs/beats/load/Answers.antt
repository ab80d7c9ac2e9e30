use Rattle.std.proofs.Common.{ap, subst, sym, ◌∙◌}
use Rattle.std.specs.Prelude.{All}
use Rattle.hm_base.specs.Place.{IsPlace}
use Rattle.hm_mem.specs.Memory.{memory_of}
use Rattle.hm_mem.specs.Seen.{seen}
use Rattle.hm_regs.specs.Writes.{apply}
use Rattle.hm_moves.specs.Coded.{IsSingle, old_word, word_puts}
use Rattle.hm_moves.specs.Ways.{moves_of, way_of}
use Rattle.hm_moves.proofs.beats.load.Goals as goal

pub returns-in-Some-clause-value : goal.returns-in-Some-clause-value
returns-in-Some-clause-value c =
    let i = moves_of c.args.row.now in
    let r = c.args.r.now in
    c.load_word.ensures.value
    ∙ ap (λ ps. apply (word_puts i 0 c.args.es.now ps (old_word i r) (seen (memory_of c.args.m.now))) r)
    (sym ((subst (IsSingle (way_of c.args.row.now.way)) c.in-Some.is c.requires.register).2 c.args.row.now.register c.args.b))

pub returns-in-Some-clause-placed : goal.returns-in-Some-clause-placed
returns-in-Some-clause-placed c =
    subst (All IsPlace)
    (sym ((subst (IsSingle (way_of c.args.row.now.way)) c.in-Some.is c.requires.register).2 c.args.row.now.register c.args.b))
    c.load_word.ensures.placed
