use Rattle.std.proofs.Common.{arith}
use Rattle.hm_soak.proofs.Adding.{vector_words, words_all, words_next}
use Rattle.hm_soak.proofs.flat.vector_bytes.Goals as goal

pub loop-word-preserved : goal.loop-word-preserved
loop-word-preserved c = words_next vector_words c.loop-word.word-index c.loop-word.bytes.items c.add_word.new.out.items (omega arith) c.loop-word.invariant
    c.in_ok-add_word.ensures.added

pub returns : goal.returns
returns c = record { value = words_all c.loop-word.word-index c.loop-word.bytes.items (omega arith) c.loop-word.invariant }
