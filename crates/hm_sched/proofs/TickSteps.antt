-- Reading the numbers of interrupts one after the other.
use Rattle.std.proofs.Common.{◌≡◌, ℕ, ◌+◌, ◌^◌, ◌<◌, ◌≤◌, false, ltb, leb, List, [], ◌∷◌, length, take, drop, ◌-◌, Some, None, refl, sym, ap, ◌∙◌, arith}
use Rattle.std.proofs.Common.{add-one}
use Rattle.std.specs.Prelude.{◌==◌, ◌||◌, nat_lt, nat_le, if◌then◌else◌, option_and_then}
use Rattle.std.specs.List.{slice_split}
use Rattle.std.proofs.Math.Nat.{pow-le-pow_right, pow-suc}
use Rattle.std.proofs.lemmas.Bool.{le-ltb, lt-leb}
use Rattle.std.proofs.lemmas.List.{take_all}
use Rattle.hm_text_base.specs.Spans.{span}
use Rattle.hm_text_base.specs.Numbers.{number_in}
use Rattle.hm_sched.specs.ReadLine.{numbers_in}
use Rattle.hm_text_base.proofs.SpanLaws.{split_span, parts_from}

pub numbers_split : (most least bits : ℕ) (words : List ℕ) → numbers_in most least bits (slice_split (λ b. b == 32) words)
    ≡ option_and_then (λ n. if nat_lt n least || nat_le most n then None else numbers_in most (n + 1) (bits + 2 ^ n) (parts_from 32 (span 32 words).1))
    (number_in (span 32 words).0)
unfolding numbers_in
numbers_split most least bits words = rw (split_span 32 words) refl

pub bits_under : (least bits n : ℕ) → bits < 2 ^ least → least ≤ n → bits < 2 ^ n
bits_under least bits n lt le =
    let p : 2 ^ least ≤ 2 ^ n = pow-le-pow_right {n = 2} (omega arith) {i = least} {j = n} le in
    omega (arith, p)

-- bits below 2 ^ n leave the n-th free
pub bits_below : (least bits n : ℕ) → bits < 2 ^ least → least ≤ n → bits + 2 ^ n < 2 ^ (n + 1)
bits_below least bits n lt le =
    let p : 2 ^ least ≤ 2 ^ n = pow-le-pow_right {n = 2} (omega arith) {i = least} {j = n} le in
    rw (add-one, pow-suc) (omega (arith, p))

pub no_parts : (mark : ℕ) (rest : List ℕ) → length rest < 1 → parts_from mark rest ≡ []
no_parts mark [] lt = refl
no_parts mark (b ∷ rest) lt = absurd (omega arith)

pub more_parts : (mark : ℕ) (rest : List ℕ) → 1 ≤ length rest → parts_from mark rest ≡ slice_split (λ x. x == mark) (take (length rest - 1) (drop 1 rest))
more_parts mark [] le = absurd (omega arith)
more_parts mark (b ∷ rest) le = ap (λ (r : List ℕ). slice_split (λ x. x == mark) r) (sym (take_all (length (b ∷ rest) - 1) rest (omega arith)))

-- a number that may follow, and what follows it
numbers_next : (most least bits n : ℕ) (words word from : List ℕ) → (word, from) ≡ span 32 words → number_in word ≡ Some n → least ≤ n → n < most
    → numbers_in most least bits (slice_split (λ b. b == 32) words) ≡ numbers_in most (n + 1) (bits + 2 ^ n) (parts_from 32 from)
numbers_next most least bits n words word from parts is low high =
    let l : ltb n least ≡ false = le-ltb _ _ low in
    let h : leb most n ≡ false = lt-leb _ _ high in
    rw (numbers_split most least bits words, ← parts, is, l, h) refl

pub numbers_end : (most least bits n : ℕ) (words word from : List ℕ) → (word, from) ≡ span 32 words → number_in word ≡ Some n → least ≤ n → n < most
    → length from < 1
    → numbers_in most least bits (slice_split (λ b. b == 32) words) ≡ Some (bits + 2 ^ n)
unfolding numbers_in
numbers_end most least bits n words word from parts is low high none = numbers_next most least bits n words word from parts is low high
    ∙ rw (no_parts 32 from none) refl

pub numbers_step : (most least bits n : ℕ) (words word from : List ℕ) → (word, from) ≡ span 32 words → number_in word ≡ Some n → least ≤ n → n < most
    → 1 ≤ length from
    → numbers_in most least bits (slice_split (λ b. b == 32) words)
    ≡ numbers_in most (n + 1) (bits + 2 ^ n) (slice_split (λ b. b == 32) (take (length from - 1) (drop 1 from)))
numbers_step most least bits n words word from parts is low high some = numbers_next most least bits n words word from parts is low high
    ∙ ap (numbers_in most (n + 1) (bits + 2 ^ n)) (more_parts 32 from some)
