-- Words of a number: each gives the other back, and where a bit stands.
use Rattle.std.proofs.Common.{◌≡◌, ◌≢◌, ℕ, zero, suc, ◌+◌, ◌-◌, ◌*◌, ◌/◌, ◌%◌, ◌^◌, ◌<◌, ◌≤◌, Bool, true, false, eqb, inl, inr, List, [], ◌∷◌, length, get_or}
use Rattle.std.proofs.Common.{set, refl, sym, ap, ◌∙◌, arith}
use Rattle.std.specs.Prelude.{IsTrue, ◌↔◌, replicate}
use Rattle.std.specs.List.{All}
use Rattle.std.specs.Int.{bit_at}
use Rattle.std.proofs.lemmas.List.Elements.{All-head, All-tail, All-cons, All-nil, All-replicate}
use Rattle.std.proofs.lemmas.Nat.Bits.{bit_at_cat_low, bit_at_cat_high, bit_at-zero}
use Rattle.std.proofs.Math.Nat.{pow-le-pow_right, mul-le-mul_right, mul_comm, mul_assoc, one-le-pow}
use Rattle.std.proofs.lemmas.Bool.{cases_Bool, cases_lt}
use Rattle.std.proofs.lemmas.Nat.{pow-add}
use Rattle.hm_sched.specs.Words.{number_of, words_of}
use Rattle.hm_sched.specs.Schedule.{low_irq, no_irq, most_irq}

-- a word of 32 bits
abbrev pub IsWord : ℕ → Type 0
IsWord word = word < 2 ^ 32

-- ---- words and back

last_word : (r w : ℕ) → w < 2 ^ 32 → ((r * 2 ^ 32 + w) % 2 ^ 32 ≡ w) × ((r * 2 ^ 32 + w) / 2 ^ 32 ≡ r)
last_word r w lt = (omega arith, omega arith)

-- words are those of their number
pub words-back : (n : ℕ) (ws : List ℕ) → length ws ≡ n → All IsWord ws → words_of n (number_of ws) ≡ ws
unfolding words_of
words-back zero [] e all = refl
words-back zero (w ∷ ws) e all = absurd (omega arith)
words-back (suc n) [] e all = absurd (omega arith)
words-back (suc n) (w ∷ ws) e all =
    let last = last_word (number_of ws) w (All-head IsWord w ws all) in
    rw (last.0, last.1) (ap (λ (x : List ℕ). w ∷ x) (words-back n ws (omega arith) (All-tail IsWord w ws all)))

-- there are as many as were asked for
pub length-words_of : (n x : ℕ) → length (words_of n x) ≡ n
unfolding words_of
length-words_of zero x = refl
length-words_of (suc n) x = ap suc (length-words_of n (x / 2 ^ 32))

pub words_fit : (n x : ℕ) → All IsWord (words_of n x)
unfolding words_of
words_fit zero x = All-nil IsWord
words_fit (suc n) x = All-cons IsWord (x % 2 ^ 32) (words_of n (x / 2 ^ 32)) (omega arith) (words_fit n (x / 2 ^ 32))

one_word_less : (n x p : ℕ) → p ≡ 2 ^ (32 * n) → x < 2 ^ (32 * suc n) → x / 2 ^ 32 < p
one_word_less n x p is lt =
    let more : 2 ^ (32 * suc n) ≡ 2 ^ 32 * p = ap (λ (k : ℕ). 2 ^ k) (omega arith) ∙ pow-add 2 32 (32 * n) ∙ ap (λ (y : ℕ). 2 ^ 32 * y) (sym is) in
    omega arith

-- a number that has room in the words is theirs
pub number-back : (n x : ℕ) → x < 2 ^ (32 * n) → number_of (words_of n x) ≡ x
unfolding words_of
number-back zero x lt = omega arith
number-back (suc n) x lt =
    let more = number-back n (x / 2 ^ 32) (one_word_less n x (2 ^ (32 * n)) refl lt) in
    rw more (omega arith)

-- words are below what they have room for
pub number_fits : (n : ℕ) (ws : List ℕ) → length ws ≡ n → All IsWord ws → number_of ws < 2 ^ (32 * n)
number_fits zero [] e all = omega arith
number_fits zero (w ∷ ws) e all = absurd (omega arith)
number_fits (suc n) [] e all = absurd (omega arith)
number_fits (suc n) (w ∷ ws) e all =
    let more = number_fits n ws (omega arith) (All-tail IsWord w ws all) in
    let low : w < 2 ^ 32 = All-head IsWord w ws all in
    let high : 2 ^ (32 * suc n) ≡ 2 ^ 32 * 2 ^ (32 * n) = ap (λ (k : ℕ). 2 ^ k) (omega arith) ∙ pow-add 2 32 (32 * n) in
    omega (arith, more, low, high)

-- ---- bits

-- bit j of word k is a bit of the number
pub word_bit : (ws : List ℕ) (k j : ℕ) → All IsWord ws → j < 32 → bit_at (number_of ws) (32 * k + j) ≡ bit_at (get_or ws k 0) j
word_bit [] k j all lt = bit_at-zero (32 * k + j) ∙ sym (bit_at-zero j)
word_bit (w ∷ ws) zero j all lt =
    let place : 32 * 0 + j ≡ j = omega arith in
    ap (bit_at (number_of (w ∷ ws))) place ∙ bit_at_cat_low (number_of ws) 32 w j lt
word_bit (w ∷ ws) (suc k) j all lt =
    let past = bit_at_cat_high (number_of ws) 32 w (32 * suc k + j) (All-head IsWord w ws all) (omega arith) in
    let place : 32 * suc k + j - 32 ≡ 32 * k + j = omega arith in
    past ∙ ap (bit_at (number_of ws)) place ∙ word_bit ws k j (All-tail IsWord w ws all) lt

one_more : (d p q : ℕ) → p ≡ 2 ^ 32 * q → d * p ≡ d * q * 2 ^ 32
one_more d p q is = ap (λ (x : ℕ). d * x) (is ∙ mul_comm (2 ^ 32) q) ∙ sym (mul_assoc d q (2 ^ 32))

-- words are 0 where their number is
pub none_set : (ws : List ℕ) → All (λ w. w ≡ 0) ws → number_of ws ≡ 0
none_set [] all = refl
none_set (w ∷ ws) all = omega (arith, none_set ws (All-tail (λ w. w ≡ 0) w ws all), All-head (λ w. w ≡ 0) w ws all)

pub all_clear : (ws : List ℕ) → number_of ws ≡ 0 → All (λ w. w ≡ 0) ws
all_clear [] e = All-nil (λ w. w ≡ 0)
all_clear (w ∷ ws) e = All-cons (λ w. w ≡ 0) w ws (omega arith) (all_clear ws (omega arith))

pub is_clear : (ws : List ℕ) (clear : Bool) → IsTrue clear ↔ All (λ w. w ≡ 0) ws → clear ≡ true → number_of ws ≡ 0
is_clear ws true both e = none_set ws (both.0 refl)
is_clear ws false both e = absurd cc

pub not_clear : (ws : List ℕ) (clear : Bool) → IsTrue clear ↔ All (λ w. w ≡ 0) ws → clear ≡ false → number_of ws ≢ 0
not_clear ws true both e = absurd cc
not_clear ws false both e = λ none. let bad = both.1 (all_clear ws none) in absurd cc

-- more in one word is more in the number
pub number-set : (ws : List ℕ) (k d p : ℕ) → k < length ws → p ≡ 2 ^ (32 * k) → number_of (set ws k (get_or ws k 0 + d)) ≡ number_of ws + d * p
number-set [] k d p lt is = absurd (omega arith)
number-set (w ∷ ws) zero d p lt is =
    let one : p ≡ 1 = is in
    rw one (omega arith)
number-set (w ∷ ws) (suc k) d p lt is =
    let more = number-set ws k d (2 ^ (32 * k)) (omega arith) refl in
    let high : p ≡ 2 ^ 32 * 2 ^ (32 * k) = is ∙ ap (λ (k : ℕ). 2 ^ k) (omega arith) ∙ pow-add 2 32 (32 * k) in
    let part : d * p ≡ d * 2 ^ (32 * k) * 2 ^ 32 = one_more d p (2 ^ (32 * k)) high in
    rw more (omega (arith, part))

-- each word is a part of the number
pub word_below : (ws : List ℕ) (k p : ℕ) → p ≡ 2 ^ (32 * k) → get_or ws k 0 * p ≤ number_of ws
word_below [] k p is = omega arith
word_below (w ∷ ws) zero p is =
    let one : p ≡ 1 = is in
    rw one (omega arith)
word_below (w ∷ ws) (suc k) p is =
    let more = word_below ws k (2 ^ (32 * k)) refl in
    let high : p ≡ 2 ^ 32 * 2 ^ (32 * k) = is ∙ ap (λ (k : ℕ). 2 ^ k) (omega arith) ∙ pow-add 2 32 (32 * k) in
    let part : get_or ws k 0 * p ≡ get_or ws k 0 * 2 ^ (32 * k) * 2 ^ 32 = one_more (get_or ws k 0) p (2 ^ (32 * k)) high in
    omega (arith, more, part)

-- the place of a bit in its word, and the place of that word
pow_parts : (n : ℕ) → 2 ^ (n % 32) * 2 ^ (32 * (n / 32)) ≡ 2 ^ n
pow_parts n = sym (pow-add 2 (n % 32) (32 * (n / 32))) ∙ ap (λ (k : ℕ). 2 ^ k) (omega arith)

-- a bit above all others has room in its word
pub bit_fits : (ws : List ℕ) (n : ℕ) → number_of ws < 2 ^ n → get_or ws (n / 32) 0 + 2 ^ (n % 32) < 2 ^ 32
bit_fits ws n lt =
    let part = word_below ws (n / 32) (2 ^ (32 * (n / 32))) refl in
    let whole = pow_parts n in
    let high : 2 ^ (n % 32) ≤ 2 ^ 31 = pow-le-pow_right {n = 2} (omega arith) {i = n % 32} {j = 31} (omega arith) in
    let low : get_or ws (n / 32) 0 < 2 ^ (n % 32) = elim (cases_lt (get_or ws (n / 32) 0) (2 ^ (n % 32))) [
      | inl below ↦ below
      | inr above ↦ absurd (
          let over : 2 ^ (n % 32) * 2 ^ (32 * (n / 32)) ≤ get_or ws (n / 32) 0 * 2 ^ (32 * (n / 32)) = mul-le-mul_right (2 ^ (32 * (n / 32))) above in
          omega (arith, part, whole, over, lt))
    ] in
    omega (arith, high, low)

-- with it the number is more
pub bit_set : (ws : List ℕ) (n : ℕ) → n < 32 * length ws → number_of (set ws (n / 32) (get_or ws (n / 32) 0 + 2 ^ (n % 32))) ≡ number_of ws + 2 ^ n
bit_set ws n lt =
    number-set ws (n / 32) (2 ^ (n % 32)) (2 ^ (32 * (n / 32))) (omega (arith, lt)) refl ∙ ap (λ (x : ℕ). number_of ws + x) (pow_parts n)

-- a bit of the number is one of a word
pub bit_of : (ws : List ℕ) (n : ℕ) → All IsWord ws → get_or ws (n / 32) 0 / 2 ^ (n % 32) % 2 ≡ number_of ws / 2 ^ n % 2
bit_of ws n all =
    let place : 32 * (n / 32) + n % 32 ≡ n = omega arith in
    sym (word_bit ws (n / 32) (n % 32) all (omega arith)) ∙ ap (bit_at (number_of ws)) place

-- ---- the words of a line

-- words of interrupts 0 to 31 alone
pub low_fits : (most word : ℕ) → word < 2 ^ most → number_of (low_irq word) < 2 ^ most
low_fits most word lt = omega (arith, lt)

pub low_words : (word : ℕ) → word < 2 ^ 32 → All IsWord (low_irq word)
low_words word lt =
    let none : 0 < 2 ^ 32 = omega arith in
    All-cons IsWord word (replicate 7 0) lt (All-replicate IsWord 7 0 none)

-- each format allows none
pub none_fits : (most : ℕ) → number_of no_irq < 2 ^ most
none_fits most = omega (arith, one-le-pow most 2 (omega arith))

-- and each format allows interrupts 0 to 31
pub low_named : (format word : ℕ) → word < 2 ^ 32 → number_of (low_irq word) < 2 ^ most_irq format
low_named format word lt =
    let more : 2 ^ 32 ≤ 2 ^ 240 = pow-le-pow_right {n = 2} (omega arith) {i = 32} {j = 240} (omega arith) in
    let wide : word < 2 ^ 240 = omega (arith, lt, more) in
    elim (cases_Bool (eqb format 1)) [
      | inl e ↦ rw e (low_fits 32 word lt)
      | inr e ↦ rw e (low_fits 240 word wide)
    ]
