-- The letters of a tick, one after another.
use Rattle.std.proofs.Common.{◌≡◌, ℕ, ◌+◌, ◌<◌, ap, sym, ◌∙◌, List, drop, length, slice_index, nat_eq, Result, Ok, Err}
use Rattle.std.proofs.lemmas.List.{drop_more}
use Rattle.hm_codes.specs.Listing.{Listing}
use Rattle.hm_run_laws.specs.Nested.{Nested, TickEnd, at_step, letter, letters}
use Rattle.hm_order.specs.Beats.{then}
use Rattle.hm_sched.specs.Schedule.{Sched, younger_letter}

module _ (listing : Listing) (s : Sched) (i n : ℕ) (ls : List ℕ) (x : Nested) (few : i < length ls) (number : n ≡ i) where
  -- what letter i answers
  abbrev answer : Result Nested TickEnd
  answer = at_step (n + 1) (nat_eq (slice_index ls i) younger_letter) (letter listing s (slice_index ls i) x)

  letters_are : letters listing s i (drop i ls) x ≡ then answer (letters listing s (i + 1) (drop (i + 1) ls))
  letters_are =
      ap (λ (l : List ℕ). letters listing s i l x) (drop_more ls i 0 few)
      ∙ (λ j. then (at_step (sym number j + 1) (nat_eq (slice_index ls i) younger_letter) (letter listing s (slice_index ls i) x))
      (letters listing s (i + 1) (drop (i + 1) ls)))

  pub letters_stop : (e : TickEnd) → Err e ≡ answer → Err e ≡ letters listing s i (drop i ls) x
  letters_stop e stop = ap (λ (r : Result Nested TickEnd). then r (letters listing s (i + 1) (drop (i + 1) ls))) stop ∙ sym letters_are

  pub letters_on : (y : Nested) → Ok y ≡ answer → letters listing s (i + 1) (drop (i + 1) ls) y ≡ letters listing s i (drop i ls) x
  letters_on y on = ap (λ (r : Result Nested TickEnd). then r (letters listing s (i + 1) (drop (i + 1) ls))) on ∙ sym letters_are
