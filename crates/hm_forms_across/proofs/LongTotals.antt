-- Sums of whole registers in two registers are those of their words, one after another.
use Rattle.std.proofs.Common.{◌≡◌, ℕ, ◌+◌, ◌-◌, ◌*◌, ◌/◌, ◌%◌, ◌^◌, Bool, false, ◌⊎◌, inl, inr, cond, eqb, ltb, List, ◌++◌, refl, sym, ◌∙◌, ap}
use Rattle.std.proofs.Common.{arith, ne_eqb, eq-eqb}
use Rattle.hm_base.specs.Place.{fit}
use Rattle.hm_base.specs.declared.Place.TheVariants.{R, Mask01, Mask23, P0, Ltp}
use Rattle.hm_state.specs.Store.{put, put_all}
use Rattle.hm_state.specs.State.{At, Cell, State, Value, at, cells, same_cell, word}
use Rattle.hm_beat.specs.Rows.{active_at, advance_half, retired, word_place}
use Rattle.hm_kinds.specs.Row.{Row, ends_at, linked, row_by_words}
use Rattle.hm_forms_across.specs.declared.long_sums.LongSums.{LongSums}
use Rattle.hm_forms_across.specs.Forms.{long_row, sum_after, term}
use Rattle.hm_lane_fns.specs.Registers.{advancing}
use Rattle.hm_forms_across.specs.Registers.{long_writes}
use Rattle.hm_lane_fns.proofs.Lanewise.{advances}
use Rattle.hm_lane_fns.proofs.Handed.{active_any}
use Rattle.hm_forms_across.proofs.Totals.{first_start, later_start, whole_added, word_added}

-- the two parts of a number make it
joined : (v : ℕ) → v % 2 ^ 32 + 2 ^ 32 * (v / 2 ^ 32) ≡ v
joined v = omega arith

module _ (r : LongSums) (s : State) (runs : (ltb (at Ltp s) 4 ≡ false) ⊎ (eqb (2 * r.l.value) 14 ≡ false)) where
  abbrev this_row : Row
  this_row = long_row r

  abbrev low : Cell
  low = At (R (2 * r.l.value))

  abbrev high : Cell
  high = At (R (2 * r.h.value + 1))

  abbrev x : ℕ → ℕ
  x b = at (word_place r.n.value b) s

  abbrev y : ℕ → ℕ
  y b = at (word_place r.m.value b) s

  abbrev terms : ℕ → ℕ → ℕ
  terms b sum = word_added (2 ^ 64) (term r.terms) r.terms.z s x y b sum

  -- a state with the two parts of a sum in their registers
  abbrev put_sum : ℕ → State → State
  put_sum v t = put cells high (word (v / 2 ^ 32)) (put cells low (word (v % 2 ^ 32)) t)

  abbrev with_sum : ℕ → State
  with_sum v = put_sum v s

  fit_low : (v : ℕ) → fit (R (2 * r.l.value)) v ≡ v
  fit_low v = ap (λ q. cond q (v - v % 4) v) (ne_eqb (2 * r.l.value) 13 (λ e. omega arith))

  fit_high : (v : ℕ) → fit (R (2 * r.h.value + 1)) v ≡ v
  fit_high v = ap (λ q. cond q (v - v % 4) v) (ne_eqb (2 * r.h.value + 1) 13 (λ e. let few = r.h.in_range in omega arith))

  apart : eqb (2 * r.h.value + 1) (2 * r.l.value) ≡ false
  apart = ne_eqb (2 * r.h.value + 1) (2 * r.l.value) (λ e. omega arith)

  off_lr : eqb (2 * r.h.value + 1) 14 ≡ false
  off_lr = ne_eqb (2 * r.h.value + 1) 14 (λ e. omega arith)

  -- the registers are put twice
  put_again : (v w : ℕ) → put_sum w (with_sum v) ≡ with_sum w
  put_again v w = λ j. record { cell = λ d. go (same_cell high d) (same_cell low d) (s.cell d) j; sticky = s.sticky; pc = s.pc; rest = s.rest }
    where
      go : (q p : Bool) (u : Value) → cond q (word (w / 2 ^ 32)) (cond p (word (w % 2 ^ 32)) (cond q (word (v / 2 ^ 32)) (cond p (word (v % 2 ^ 32)) u)))
          ≡ cond q (word (w / 2 ^ 32)) (cond p (word (w % 2 ^ 32)) u)
      go q p u = grind arith

  left : (v : ℕ) → (ltb (at Ltp s) 4 ≡ false) ⊎ (at (R 14) (with_sum v) ≡ at (R 14) s)
  left v = go runs
    where
      go : (ltb (at Ltp s) 4 ≡ false) ⊎ (eqb (2 * r.l.value) 14 ≡ false) → (ltb (at Ltp s) 4 ≡ false) ⊎ (at (R 14) (with_sum v) ≡ at (R 14) s)
      go (inl e) = inl e
      go (inr e) = inr (λ j. (cond (off_lr j) (word (v / 2 ^ 32)) (cond (e j) (word (v % 2 ^ 32)) (s.cell (At (R 14))))).n)

  held_low : (v : ℕ) → at (R (2 * r.l.value)) (with_sum v) ≡ v % 2 ^ 32
  held_low v = λ j. (cond (apart j) (word (v / 2 ^ 32)) (cond (eq-eqb (2 * r.l.value) (2 * r.l.value) refl j) (word (v % 2 ^ 32)) (s.cell low))).n

  held_high : (v : ℕ) → at (R (2 * r.h.value + 1)) (with_sum v) ≡ v / 2 ^ 32
  held_high v = ap (λ q. (cond q (word (v / 2 ^ 32)) (cond (same_cell low high) (word (v % 2 ^ 32)) (s.cell high))).n)
      (eq-eqb (2 * r.h.value + 1) (2 * r.h.value + 1) refl)

  held : (v : ℕ) → at (R (2 * r.l.value)) (with_sum v) + 2 ^ 32 * at (R (2 * r.h.value + 1)) (with_sum v) ≡ v
  held v = (λ j. held_low v j + 2 ^ 32 * held_high v j) ∙ joined v

  -- the predicate of a word with another sum in the registers
  active_1 : (v : ℕ) → active_at 1 (with_sum v) ≡ active_at 1 s
  active_1 v = active_any 1 (at Mask01 s) (at Ltp s) (at (R 14) (with_sum v)) (at (R 14) s) (at (P0 1) s) (left v)

  active_2 : (v : ℕ) → active_at 2 (with_sum v) ≡ active_at 2 s
  active_2 v = active_any 2 (at Mask23 s) (at Ltp s) (at (R 14) (with_sum v)) (at (R 14) s) (at (P0 2) s) (left v)

  active_3 : (v : ℕ) → active_at 3 (with_sum v) ≡ active_at 3 s
  active_3 v = active_any 3 (at Mask23 s) (at Ltp s) (at (R 14) (with_sum v)) (at (R 14) s) (at (P0 3) s) (left v)

  -- the sum after word b, from one in two parts
  abbrev word_after : ℕ → List Bool → ℕ → ℕ
  word_after b active v = sum_after (2 ^ 64) r.goes_on r.terms b active (x b) (y b) v

  abbrev put_fit : ℕ → State → State
  put_fit v t = put cells high (word (fit (R (2 * r.h.value + 1)) (v / 2 ^ 32))) (put cells low (word (fit (R (2 * r.l.value)) (v % 2 ^ 32))) t)

  fitted : (v : ℕ) (t : State) → put_fit v t ≡ put_sum v t
  fitted v t = λ j. put cells high (word (fit_high (v / 2 ^ 32) j)) (put cells low (word (fit_low (v % 2 ^ 32) j)) t)

  step : (b v w : ℕ) → active_at b (with_sum v) ≡ active_at b s → word_after b (active_at b s) v ≡ w → linked this_row b (with_sum v) ≡ with_sum w
  step b v w e f = (λ j. put_fit (word_after b (e j) (held v j)) (with_sum v)) ∙ (λ j. put_fit (f j) (with_sum v)) ∙ fitted w (with_sum v) ∙ put_again v w

  abbrev start : ℕ
  start = cond r.goes_on (at (R (2 * r.l.value)) s + 2 ^ 32 * at (R (2 * r.h.value + 1)) s) 0

  abbrev s0 : ℕ
  s0 = terms 0 start

  abbrev s1 : ℕ
  s1 = terms 1 s0

  abbrev s2 : ℕ
  s2 = terms 2 s1

  abbrev s3 : ℕ
  s3 = terms 3 s2

  after_0 : linked this_row 0 s ≡ with_sum s0
  after_0 = (λ j. put_fit (terms 0 (first_start r.goes_on (at (R (2 * r.l.value)) s + 2 ^ 32 * at (R (2 * r.h.value + 1)) s) j)) s) ∙ fitted s0 s

  after_1 : linked this_row 1 (linked this_row 0 s) ≡ with_sum s1
  after_1 = ap (linked this_row 1) after_0 ∙ step 1 s0 s1 (active_1 s0) (ap (terms 1) (later_start r.goes_on s0))

  after_2 : linked this_row 2 (linked this_row 1 (linked this_row 0 s)) ≡ with_sum s2
  after_2 = ap (linked this_row 2) after_1 ∙ step 2 s1 s2 (active_2 s1) (ap (terms 2) (later_start r.goes_on s1))

  after_3 : linked this_row 3 (linked this_row 2 (linked this_row 1 (linked this_row 0 s))) ≡ with_sum s3
  after_3 = ap (linked this_row 3) after_2 ∙ step 3 s2 s3 (active_3 s2) (ap (terms 3) (later_start r.goes_on s2))

  abbrev over : State → State → State → State → State
  over a b c d = retired (put_all cells (ends_at this_row 0 s ++ ends_at this_row 1 a ++ ends_at this_row 2 b ++ ends_at this_row 3 c) d)

  pub long_is : row_by_words this_row s ≡ advancing (long_writes r s) s
  long_is = (λ j. over (after_0 j) (after_1 j) (after_2 j) (after_3 j))
      ∙ ap retired (advances this_row s (with_sum s3) refl refl)
      ∙ (λ j. retired (put_all cells (advance_half 0 s ++ advance_half 2 s) (sym (fitted s3 s) j)))
      ∙ (λ j. retired (put_all cells (advance_half 0 s ++ advance_half 2 s) (put_fit (sym (whole_added (2 ^ 64) (term r.terms) r.terms.z s x y start) j) s)))
