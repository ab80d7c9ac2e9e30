use Rattle.std.proofs.Common.{◌++◌, ◌∙◌, sym, arith}
use Rattle.hm_lane.proofs.Bits.{predicate_word}
use Rattle.hm_lane.proofs.Ends.{predicate_words}
use Rattle.hm_lane.proofs.masks.predicate.Goals as goal

pub returns-clause-words : goal.returns-clause-words
returns-clause-words c = predicate_word c.args.r.now c.mask_bits.result c.tail.result c.tail.ensures.at_most c.mask_bits.ensures.each c.tail.ensures.within

pub returns-clause-value : goal.returns-clause-value
returns-clause-value c =
    let word = returns-clause-words c in
    (λ i. word 0 (omega arith) i ++ word 1 (omega arith) i ++ word 2 (omega arith) i ++ word 3 (omega arith) i) ∙ sym (predicate_words c.args.r.now)
