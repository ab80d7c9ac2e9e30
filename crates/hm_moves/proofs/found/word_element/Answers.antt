use Rattle.hm_state.specs.State.{state_of}
use Rattle.hm_moves.proofs.Widths.{only_word}
use Rattle.hm_moves.proofs.found.word_element.Goals as goal

pub returns-then-active-clause-value : goal.returns-then-active-clause-value
returns-then-active-clause-value c = λ m output.
    let row = c.args.row.now in
    only_word row.way row.memory row.register c.args.w.now c.args.b _ _ (state_of c.args.r.now m output) _ c.requires.way c.requires.word
    (c.active.ensures m output) (c.read.ensures.value m output) (c.contiguous_element.ensures.value 0) c.if-active.true
