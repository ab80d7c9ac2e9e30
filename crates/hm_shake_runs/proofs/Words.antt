-- The eight words of an interrupt: one bit.
use Rattle.std.proofs.Common.{rules, ◌≡◌, ℕ, zero, suc, ◌+◌, ◌*◌, ◌/◌, ◌%◌, ◌^◌, ◌<◌, ◌≤◌, Option, Some, None, List, length, get_or, set, arith, refl, sym}
use Rattle.std.proofs.Common.{ap, ◌∙◌}
use Rattle.std.specs.List.{All}
use Rattle.std.specs.Prelude.{IfSome}
use Rattle.std.proofs.lemmas.List.{get_or-replicate, length-set}
use Rattle.std.proofs.lemmas.List.Elements.{All-cons, All-nil, All-replicate, All-set}
use Rattle.std.proofs.lemmas.Nat.{one_shl, pow_below}
use Rattle.hm_sched.specs.Schedule.{IsLetter, no_irq, older_letter}
use Rattle.hm_sched.specs.Words.{number_of, words_of}
use Rattle.hm_sched.proofs.WordLaws.{IsWord, bit_set, none_fits, number-back, words-back}
use Rattle.hm_shake_runs.specs.Stretches.{irq_words, steps}

-- no words but this one, which has one bit
abbrev one_bit : ℕ → List ℕ
one_bit n = set no_irq (n / 32) (get_or no_irq (n / 32) 0 + 2 ^ (n % 32))

in_word : (n : ℕ) → n < 256 → get_or no_irq (n / 32) 0 + 2 ^ (n % 32) ≡ 1 * 2 ^ (n % 32) % 2 ^ 32
in_word n lt =
    let none : get_or no_irq (n / 32) 0 ≡ 0 = get_or-replicate 8 (n / 32) 0 0 (omega arith) in
    let one : 1 * 2 ^ (n % 32) % 2 ^ 32 ≡ 2 ^ (n % 32) = one_shl (n % 32) 32 (omega arith) in
    omega arith

words_fit : (n : ℕ) → n < 256 → All IsWord (one_bit n)
words_fit n lt =
    let none : 0 < 2 ^ 32 = omega arith in
    All-set IsWord no_irq (n / 32) _ (rw (in_word n lt) (omega arith)) (All-replicate IsWord 8 0 none)

add_none : (n : ℕ) → 0 + n ≡ n
add_none n = omega arith

number_of_bit : (n : ℕ) → n < 256 → number_of (one_bit n) ≡ 2 ^ n
number_of_bit n lt = bit_set no_irq n (omega arith) ∙ add_none (2 ^ n)

pub bit_is_words : (n : ℕ) → n < 256 → set no_irq (n / 32) (1 * 2 ^ (n % 32) % 2 ^ 32) ≡ words_of 8 (2 ^ n)
bit_is_words n lt =
    ap (λ (x : ℕ). set no_irq (n / 32) x) (sym (in_word n lt))
    ∙ sym (words-back 8 (one_bit n) (length-set no_irq (n / 32) _) (words_fit n lt))
    ∙ ap (words_of 8) (number_of_bit n lt)

-- the words of an interrupt that a format names
pub irq_named : (most : ℕ) (o : Option ℕ) → most ≤ 256 → IfSome o (λ n. n < most) → number_of (irq_words o) < 2 ^ most
irq_named most None few h = none_fits most
irq_named most (Some n) few h = rw (number-back 8 (2 ^ n) (pow_below n 256 (omega arith))) (pow_below n most h)

pub length-steps : (n : ℕ) → length (steps n) ≡ n
length-steps zero = refl
length-steps (suc n) = ap suc (length-steps n)

pub steps_letters : (n : ℕ) → All IsLetter (steps n)
steps_letters zero = All-nil IsLetter
steps_letters (suc n) = All-cons IsLetter older_letter (steps n) (search rules) (steps_letters n)
