-- The schedule of a soak is one, and how many ticks it has.
use Rattle.std.proofs.Common.{◌≡◌, ℕ, zero, suc, ◌+◌, ◌*◌, ◌/◌, ◌%◌, ◌^◌, ◌<◌, ◌≤◌, Bool, true, false, cond, nat_eq, [], ◌∷◌, ◌++◌, refl, ap, ◌∙◌, arith, inl}
use Rattle.std.proofs.Common.{inr}
use Rattle.std.specs.List.{All}
use Rattle.std.proofs.lemmas.Bool.Decides.{nat_tests}
use Rattle.std.proofs.lemmas.List.Elements.{All-append, All-cons, All-nil}
use Rattle.std.proofs.lemmas.List.Sums.{sum_by-append, sum_by-cons}
use Rattle.hm_sched.proofs.WordLaws.{low_fits, low_words, none_fits}
use Rattle.hm_sched.specs.Schedule.{IsLetter, IsLine, IsSched, TickLine, older_letter, plain_line, total, whole_letter, younger_letter}
use Rattle.hm_soak_laws.specs.Schedule.{both, pair_lines, pairs, schedule, twice}

-- LINES
is_plain : (n : ℕ) → 1 ≤ n → IsLine 32 (plain_line n)
is_plain n h = record {
  some = h;
  few = omega arith;
  each_letter = All-cons IsLetter whole_letter [] (inr (inr refl)) (All-nil IsLetter);
  eight = refl;
  each_word = low_words 0 (omega arith);
  interrupts = none_fits 32;
}

is_twice : (n : ℕ) → 1 ≤ n → IsLine 32 (twice n)
is_twice n h = record {
  some = h;
  few = omega arith;
  each_letter = All-cons IsLetter older_letter (older_letter ∷ []) (inl refl) (All-cons IsLetter older_letter [] (inl refl) (All-nil IsLetter));
  eight = refl;
  each_word = low_words 0 (omega arith);
  interrupts = none_fits 32;
}

is_both : (irq : ℕ) → irq < 2 ^ 32 → IsLine 32 (both irq)
is_both irq h = record {
  some = omega arith;
  few = omega arith;
  each_letter = All-cons IsLetter older_letter (younger_letter ∷ []) (inl refl) (All-cons IsLetter younger_letter [] (inr (inl refl)) (All-nil IsLetter));
  eight = refl;
  each_word = low_words irq h;
  interrupts = low_fits 32 irq h;
}

either_lines : (b : Bool) → All (IsLine 32) (cond b (twice 1 ∷ both 1 ∷ plain_line 3 ∷ []) (twice 1 ∷ both 0 ∷ []))
either_lines true = All-cons (IsLine 32) (twice 1) (both 1 ∷ plain_line 3 ∷ []) (is_twice 1 (omega arith))
    (All-cons (IsLine 32) (both 1) (plain_line 3 ∷ []) (is_both 1 (omega arith))
    (All-cons (IsLine 32) (plain_line 3) [] (is_plain 3 (omega arith)) (All-nil (IsLine 32))))
either_lines false = All-cons (IsLine 32) (twice 1) (both 0 ∷ []) (is_twice 1 (omega arith))
    (All-cons (IsLine 32) (both 0) [] (is_both 0 (omega arith)) (All-nil (IsLine 32)))

pairs_lines : (n p : ℕ) → All (IsLine 32) (pairs n p)
unfolding pairs
pairs_lines zero p = All-nil (IsLine 32)
pairs_lines (suc n) p = All-append (IsLine 32) (pair_lines p) (pairs n (p + 1)) (either_lines (nat_eq (p % 64) 0)) (pairs_lines n (p + 1))

-- TICKS
either_total : (b : Bool) → total (cond b (twice 1 ∷ both 1 ∷ plain_line 3 ∷ []) (twice 1 ∷ both 0 ∷ [])) ≡ 2 + 3 * cond b 1 0
either_total b = grind arith

next_64 : (q : ℕ) → (q + 1) / 64 ≡ q / 64 + cond (nat_eq ((q + 1) % 64) 0) 1 0
next_64 q = grind (arith, nat_tests)

pub pairs_total : (n q : ℕ) → total (pairs n (q + 1)) + 3 * (q / 64) ≡ 2 * n + 3 * ((q + n) / 64)
unfolding pairs
pairs_total zero q = let e : 0 + 3 * (q / 64) ≡ 2 * 0 + 3 * ((q + 0) / 64) = omega arith in e
pairs_total (suc n) q =
    let b : ℕ = cond (nat_eq ((q + 1) % 64) 0) 1 0 in
    let sum : total (pairs (suc n) (q + 1)) ≡ total (pair_lines (q + 1)) + total (pairs n (q + 1 + 1)) =
    sum_by-append (λ (line : TickLine). line.count) (pair_lines (q + 1)) (pairs n (q + 1 + 1)) in
    let here : total (pair_lines (q + 1)) ≡ 2 + 3 * b = either_total (nat_eq ((q + 1) % 64) 0) in
    let step : (q + 1) / 64 ≡ q / 64 + b = next_64 q in
    let more : total (pairs n (q + 1 + 1)) + 3 * ((q + 1) / 64) ≡ 2 * n + 3 * ((q + 1 + n) / 64) = pairs_total n (q + 1) in
    let same : (q + 1 + n) / 64 ≡ (q + suc n) / 64 = (let z : q + 1 + n ≡ q + suc n = omega arith in ap (λ (k : ℕ). k / 64) z) in
    omega arith

with_ends : (n : ℕ) → total (plain_line 16 ∷ (pairs n (0 + 1) ++ (twice 2 ∷ plain_line 1 ∷ []))) ≡ 16 + (total (pairs n (0 + 1)) + 3)
with_ends n = sum_by-cons (λ (line : TickLine). line.count) (plain_line 16) (pairs n (0 + 1) ++ (twice 2 ∷ plain_line 1 ∷ []))
    ∙ ap (λ (k : ℕ). 16 + k) (sum_by-append (λ (line : TickLine). line.count) (pairs n (0 + 1)) (twice 2 ∷ plain_line 1 ∷ []))

pub total_is : total schedule.lines ≡ 8398
unfolding schedule
total_is = let a = with_ends 4095 in let b = pairs_total 4095 0 in omega arith

pub lawful : IsSched schedule
unfolding schedule
lawful = record {
  known = inl refl;
  region_start = omega arith;
  region_order = omega arith;
  region_end = omega arith;
  floor_start = omega arith;
  floor_end = omega arith;
  process_start = omega arith;
  process_end = omega arith;
  one_floor = λ one. refl;
  each_line = All-cons (IsLine 32) (plain_line 16) (pairs 4095 1 ++ (twice 2 ∷ plain_line 1 ∷ [])) (is_plain 16 (omega arith))
      (All-append (IsLine 32) (pairs 4095 1) (twice 2 ∷ plain_line 1 ∷ []) (pairs_lines 4095 1)
      (All-cons (IsLine 32) (twice 2) (plain_line 1 ∷ []) (is_twice 2 (omega arith))
      (All-cons (IsLine 32) (plain_line 1) [] (is_plain 1 (omega arith)) (All-nil (IsLine 32)))));
  not_too_many = let e = total_is in omega arith;
}
