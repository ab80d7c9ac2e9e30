use Rattle.std.proofs.Common.{◌≡◌, ◌∙◌, sym, ap, arith, rules, length, List, ℕ}
use Rattle.std.proofs.lemmas.List.{length_push}
use Rattle.hm_kernel_text.specs.Words.{words_behind}
use Rattle.hm_kernel_text.specs.ReadLine.{values_in}
use Rattle.hm_kernel_text.proofs.ShapeSteps.{no_words}
use Rattle.hm_kernel_text.proofs.ValueSteps.{value_more, value_none, value_end}
use Rattle.hm_kernel_text.proofs.lines.read_values.Goals as goal

pub returns-in-None : goal.returns-in-None
returns-in-None c = record {
  value = value_none c.args.limit c.loop-rest.values.items (words_behind c.loop-rest.rest.now) c.next_word.result.0.now (words_behind c.next_word.result.1.now)
      (values_in c.args.limit (words_behind c.args.text.now)) c.args.most _
      c.next_word.ensures.words (sym c.in-None.is ∙ c.number_below.ensures.value) c.loop-rest.invariant.so_far;
}

pub loop-rest-preserved : goal.loop-rest-preserved
loop-rest-preserved c =
    let pushed = length_push c.loop-rest.values.items c.in-Some.value in
    let words = ap (λ (ws : List (List ℕ)). length ws) c.next_word.ensures.words in
    rw c.in_ok-push-in-Some.ensures.items (record {
      so_far = value_more c.args.limit c.in-Some.value c.loop-rest.values.items (words_behind c.loop-rest.rest.now) c.next_word.result.0.now
          (words_behind c.next_word.result.1.now) (values_in c.args.limit (words_behind c.args.text.now))
          c.next_word.ensures.words (sym c.in-Some.is ∙ c.number_below.ensures.value) c.loop-rest.invariant.so_far;
      counted = omega (arith, pushed, words, c.loop-rest.invariant.counted);
      within = omega (arith, pushed, c.if-len-most.false, c.len.ensures);
    })

pub returns : goal.returns
returns c =
    let none = no_words c.loop-rest.rest.now (search rules) in
    let ended : length (words_behind c.loop-rest.rest.now) ≡ 0 = ap (λ (ws : List (List ℕ)). length ws) none in
    record {
      value = value_end c.args.limit c.loop-rest.values.items (words_behind c.loop-rest.rest.now) (values_in c.args.limit (words_behind c.args.text.now))
          c.args.most _ none (omega (arith, ended, c.loop-rest.invariant.counted, c.loop-rest.invariant.within)) c.loop-rest.invariant.so_far;
    }
