-- Words that give numbers, a schedule, or a range of flash.
use Rattle.std.proofs.Common.{◌≡◌, ◌≢◌, ℕ, ◌≤◌, ◌%◌, nat_eq, Bool, true, false, List, ◌++◌, take, drop, Option, Some, None, option_map, refl, sym, ap, subst}
use Rattle.std.proofs.Common.{◌∙◌, inl, inr, arith}
use Rattle.std.specs.Prelude.{codes, bytes_eq, cond, nat_lt, option_and_then}
use Rattle.std.specs.Fmt.{decimal}
use Rattle.std.proofs.lemmas.Bool.{cases_Bool}
use Rattle.std.proofs.lemmas.Bool.Decides.{nat_tests}
use Rattle.std.proofs.lemmas.List.{take-append-drop}
use Rattle.std.proofs.lemmas.Slice.Eq.{bytes_eq-Decides}
use Rattle.hm_base.specs.Image.{flash_size}
use Rattle.hm_text_base.specs.Numbers.{hex8_in, number_in}
use Rattle.hm_text_base.specs.Texts.{hex8}
use Rattle.hm_text_base.proofs.NumberLaws.{hex8_found, hex8_again, number_found, number_again}
use Rattle.hm_text_base.proofs.Steps.{and_then_some, guard_some, test_some, some_is}
use Rattle.hm_words.specs.Words.{most, not_past, number_of, not_zero, every_of, is_range, range_of, range_in, Source, ticks, file, source_of, IsSource, IsRange}

-- ---- numbers

not_past-small : (limit n : ℕ) → n ≤ limit → not_past limit n ≡ Some n
not_past-small limit n few = grind (arith, nat_tests)

-- a number of the words is a decimal, and is not past the limit
pub number_of-is : (limit : ℕ) (ds : List ℕ) (n : ℕ) → number_of limit ds ≡ Some n → (ds ≡ decimal n) × (n ≤ limit)
number_of-is limit ds n h =
    let read = and_then_some (number_in ds) (not_past limit) n h in
    let few = guard_some (nat_lt limit read.0) (Some read.0) n read.2 in
    let same : read.0 ≡ n = some_is read.0 n few.1 in
    ((number_found ds n (read.1 ∙ ap (λ (k : ℕ). Some k) same)).0, within limit read.0 n few.0 same) where
      within : (limit k n : ℕ) → nat_lt limit k ≡ false → k ≡ n → n ≤ limit
      within limit k n test same = grind (arith, nat_tests)

pub number_of-decimal : (limit n : ℕ) → n ≤ limit → limit ≤ most → number_of limit (decimal n) ≡ Some n
number_of-decimal limit n few short = ap (option_and_then (not_past limit)) (number_again n (omega arith)) ∙ not_past-small limit n few

pub every_of-is : (ds : List ℕ) (n : ℕ) → every_of ds ≡ Some n → (ds ≡ decimal n) × (1 ≤ n) × (n ≤ most)
every_of-is ds n h =
    let read = and_then_some (number_of most ds) not_zero n h in
    let some = guard_some (nat_eq read.0 0) (Some read.0) n read.2 in
    let same : read.0 ≡ n = some_is read.0 n some.1 in
    let number = number_of-is most ds n (read.1 ∙ ap (λ (k : ℕ). Some k) same) in
    (number.0, positive read.0 n some.0 same, number.1) where
      positive : (k n : ℕ) → nat_eq k 0 ≡ false → k ≡ n → 1 ≤ n
      positive k n test same = grind (arith, nat_tests)

pub every_of-decimal : (n : ℕ) → 1 ≤ n → n ≤ most → every_of (decimal n) ≡ Some n
every_of-decimal n some few = ap (option_and_then not_zero) (number_of-decimal most n few (omega arith)) ∙ passes n some where
  passes : (k : ℕ) → 1 ≤ k → not_zero k ≡ Some k
  passes k some = grind (arith, nat_tests)

-- ---- the word of a schedule

bytes_not : (a b : List ℕ) → a ≢ b → bytes_eq a b ≡ false
bytes_not a b other = elim (cases_Bool (bytes_eq a b)) [
  | inl same ↦ absurd (other ((bytes_eq-Decides a b).0 same))
  | inr no_same ↦ no_same
]

pub source_of-word : (word : List ℕ) (schedule : Source) → IsSource word schedule → source_of word ≡ Some schedule
source_of-word word (ticks n) h = ap source_of h.0 ∙ ap (option_map ticks) (number_of-decimal most n h.1 (omega arith))
source_of-word word (file name) h = rw (bytes_not (take 6 word) (codes "plain:") h.1) (ap (λ (w : List ℕ). Some (file w)) h.0)

source_by : (o : Option ℕ) (word : List ℕ) (schedule : Source) → take 6 word ≡ codes "plain:" → number_of most (drop 6 word) ≡ o
    → option_map ticks o ≡ Some schedule → IsSource word schedule
source_by None word schedule front is h = cc
source_by (Some n) word schedule front is h =
    let same : ticks n ≡ schedule = cc in
    let number = number_of-is most (drop 6 word) n is in
    subst (IsSource word) same (sym (take-append-drop 6 word) ∙ ap (λ front. front ++ drop 6 word) front ∙ ap (λ ds. codes "plain:" ++ ds) number.0, number.1)

word_by : (b : Bool) (word : List ℕ) (schedule : Source) → bytes_eq (take 6 word) (codes "plain:") ≡ b
    → cond b (option_map ticks (number_of most (drop 6 word))) (Some (file word)) ≡ Some schedule → IsSource word schedule
word_by true word schedule is h = source_by (number_of most (drop 6 word)) word schedule ((bytes_eq-Decides (take 6 word) (codes "plain:")).0 is) refl h
word_by false word schedule is h =
    let same : file word ≡ schedule = cc in
    subst (IsSource word) same (
      refl,
      λ e. (let yes_same : bytes_eq (take 6 word) (codes "plain:") ≡ true = ap (λ (w : List ℕ). bytes_eq w (codes "plain:")) e in absurd cc),
    )

pub source_of-is : (word : List ℕ) (schedule : Source) → source_of word ≡ Some schedule → IsSource word schedule
source_of-is word schedule h = word_by (bytes_eq (take 6 word) (codes "plain:")) word schedule refl h

-- ---- a range

range_holds : (lo hi : ℕ) → is_range lo hi ≡ true → IsRange lo hi
range_holds lo hi is = record {
  even = (grind (arith, nat_tests), grind (arith, nat_tests));
  order = grind (arith, nat_tests);
  within = grind (arith, nat_tests);
}

range_passes : (lo hi : ℕ) → IsRange lo hi → range_of lo hi ≡ Some (lo, hi)
range_passes lo hi h =
    let first : lo % 2 ≡ 0 = h.even.0 in
    let last : hi % 2 ≡ 0 = h.even.1 in
    let order : lo ≤ hi = h.order in
    let within : hi ≤ flash_size = h.within in
    grind (arith, nat_tests)

-- the range that words give
pub range_in-is : (x y : List ℕ) (r : ℕ × ℕ) → range_in x y ≡ Some r → (x ≡ hex8 r.0) × (y ≡ hex8 r.1) × IsRange r.0 r.1
range_in-is x y r h =
    let first = and_then_some (hex8_in x) (λ a. option_and_then (range_of a) (hex8_in y)) r h in
    let last = and_then_some (hex8_in y) (range_of first.0) r first.2 in
    let passed = test_some (is_range first.0 last.0) (Some (first.0, last.0)) r last.2 in
    let same : ◌≡◌ {A = ℕ × ℕ} (first.0, last.0) r = some_is (first.0, last.0) r passed.1 in
    subst (λ (q : ℕ × ℕ). (x ≡ hex8 q.0) × (y ≡ hex8 q.1) × IsRange q.0 q.1) same
    (hex8_found x first.0 first.1, hex8_found y last.0 last.1, range_holds first.0 last.0 passed.0)

pub range_in-again : (lo hi : ℕ) → IsRange lo hi → range_in (hex8 lo) (hex8 hi) ≡ Some (lo, hi)
range_in-again lo hi h =
    let order : lo ≤ hi = h.order in
    let within : hi ≤ flash_size = h.within in
    ap (option_and_then (λ a. option_and_then (range_of a) (hex8_in (hex8 hi)))) (hex8_again lo (omega arith))
    ∙ ap (option_and_then (range_of lo)) (hex8_again hi (omega arith)) ∙ range_passes lo hi h
