use Rattle.std.proofs.Common.{◌≡◌, List, ℕ, Ok, subst, rules}
use Rattle.std.proofs.lemmas.List.Elements.{All-from_get_or}
use Rattle.hm_sched.specs.Words.{number_of, words_of}
use Rattle.hm_sched.specs.ReadLine.{ticks_in}
use Rattle.hm_sched.proofs.WordLaws.{IsWord, words-back}
use Rattle.hm_sched.proofs.tick_text.read_ticks.Goals as goal

pub returns : goal.returns
unfolding ticks_in
returns c =
    let back : words_of 8 (number_of c.in-Some-read_irq.irq) ≡ c.in-Some-read_irq.irq =
    words-back 8 c.in-Some-read_irq.irq (search rules) (All-from_get_or IsWord c.in-Some-read_irq.irq 0 (λ i lt. search rules)) in
    let read : ticks_in c.args.most c.args.text.now
    ≡ Ok (record { count = c.in_ok-count.count; letters = c.in-Some.letters.now; irq = words_of 8 (number_of c.in-Some-read_irq.irq) }) = search rules in
    record {
      reads = subst (λ (x : List ℕ). ticks_in c.args.most c.args.text.now
          ≡ Ok (record { count = c.in_ok-count.count; letters = c.in-Some.letters.now; irq = x })) back read;
    }
