use Rattle.std.proofs.Common.{◌∙◌, refl, arith, rules}
use Rattle.hm_kernel_text.specs.Words.{words_behind}
use Rattle.hm_kernel_text.proofs.TreeLaws.{operations_most}
use Rattle.hm_kernel_text.proofs.ShapeSteps.{wrong_word, last_word, words_left, word_inside, words_end, no_words, some_words}
use Rattle.hm_kernel_text.proofs.shape.count_leaves.Goals as goal

pub returns-in-Wrong : goal.returns-in-Wrong
returns-in-Wrong c = record {
  value = wrong_word _ c.loop-rest.operations (words_behind c.args.text.now) (words_behind c.loop-rest.rest.now) c.next_word.result.0.now
      (words_behind c.next_word.result.1.now) c.next_word.ensures.words
      (c.in_ok-take_word.ensures.place ∙ rw c.in-Wrong.is refl) c.loop-rest.invariant.so_far;
}

pub returns-in-End : goal.returns-in-End
returns-in-End c = record {
  value = rw c.operations_behind-operations.ensures.value
      (last_word _ c.loop-rest.operations (words_behind c.args.text.now) (words_behind c.loop-rest.rest.now) c.next_word.result.0.now
      (words_behind c.next_word.result.1.now) c.next_word.ensures.words
      (c.in_ok-take_word.ensures.place ∙ rw c.in-End.is refl) (no_words c.next_word.result.1.now (search rules)) c.loop-rest.invariant.so_far);
}

pub returns-in-End-2 : goal.returns-in-End-2
returns-in-End-2 c = record {
  value = words_left _ c.loop-rest.operations (words_behind c.args.text.now) (words_behind c.loop-rest.rest.now) c.next_word.result.0.now
      (words_behind c.next_word.result.1.now) c.next_word.ensures.words
      (c.in_ok-take_word.ensures.place ∙ rw c.in-End-2.is refl) (some_words c.next_word.result.1.now (search rules)) c.loop-rest.invariant.so_far;
}

pub loop-rest-preserved : goal.loop-rest-preserved
loop-rest-preserved c = record {
  so_far = rw c.operations_behind-operations.ensures.value
      (word_inside _ _ c.loop-rest.operations (words_behind c.args.text.now) (words_behind c.loop-rest.rest.now) c.next_word.result.0.now
      (words_behind c.next_word.result.1.now) c.next_word.ensures.words
      (c.in_ok-take_word.ensures.place ∙ rw c.in-Inside.is refl) c.loop-rest.invariant.so_far);
  within = rw c.operations_behind-operations.ensures.value
      (omega (arith, operations_most c.loop-rest.operations c.next_word.result.0.now, c.next_word.ensures.shorter, c.loop-rest.invariant.within));
}

pub returns : goal.returns
returns c = record {
  value = words_end _ c.loop-rest.operations (words_behind c.args.text.now) (words_behind c.loop-rest.rest.now) (no_words c.loop-rest.rest.now (search rules))
      c.loop-rest.invariant.so_far;
}
