-- Sums of whole registers are those of their words, one after another.
use Rattle.std.proofs.Common.{◌≡◌, ℕ, ◌+◌, ◌-◌, ◌*◌, ◌%◌, ◌^◌, Bool, true, false, not, ◌&&◌, ◌⊎◌, inl, inr, cond, eqb, ltb, length, List, [], ◌∷◌, ◌++◌, refl}
use Rattle.std.proofs.Common.{sym, ◌∙◌, ap, arith, ne_eqb, eq-eqb}
use Rattle.hm_base.specs.Place.{fit}
use Rattle.hm_base.specs.declared.Place.TheVariants.{R, Mask01, Mask23, P0, Ltp}
use Rattle.hm_lane.specs.declared.lanes.Size.{Size}
use Rattle.hm_lane.specs.declared.lanes.Size.TheVariants.{Byte, Half, Word}
use Rattle.hm_lane.specs.Lanes.{bytes_of, firsts, lanes}
use Rattle.hm_state.specs.Store.{put, put_all}
use Rattle.hm_state.specs.State.{At, State, at, cells, word}
use Rattle.hm_beat.specs.Rows.{active_at, advance_half, predicate_at, retired, word_place}
use Rattle.hm_kinds.specs.Row.{Row, ends_at, linked, row_by_words}
use Rattle.hm_forms_across.specs.declared.sums.Sums.{Sums}
use Rattle.hm_forms_across.specs.Forms.{added, sum_after, sum_row, term}
use Rattle.hm_lane_fns.specs.Registers.{advancing}
use Rattle.hm_forms_across.specs.Registers.{sum_writes}
use Rattle.hm_lane_fns.proofs.Handed.{active_any, put_twice}
use Rattle.hm_lane_fns.proofs.Lanewise.{advances, four}

-- THE TERMS OF FOUR WORDS
module _ (m : ℕ) (f : ℕ → ℕ → ℕ) where
  added-append : (ps qs : List Bool) (xs us ys vs : List ℕ) (sum : ℕ) → length xs ≡ length ps → length ys ≡ length ps
      → added m f (ps ++ qs) (xs ++ us) (ys ++ vs) sum ≡ added m f qs us vs (added m f ps xs ys sum)
  added-append [] qs [] us [] vs sum e g = refl
  added-append [] qs (x ∷ xs) us ys vs sum e g = cc
  added-append [] qs [] us (y ∷ ys) vs sum e g = cc
  added-append (p ∷ ps) qs [] us ys vs sum e g = cc
  added-append (p ∷ ps) qs (x ∷ xs) us [] vs sum e g = cc
  added-append (p ∷ ps) qs (x ∷ xs) us (y ∷ ys) vs sum e g = added-append ps qs xs us ys vs (cond p ((sum + f x y) % m) sum) (omega arith) (omega arith)

  -- the terms of word b
  abbrev pub word_added : Size → State → (ℕ → ℕ) → (ℕ → ℕ) → ℕ → ℕ → ℕ
  word_added z s x y b sum = added m f (firsts z (active_at b s)) (lanes z (bytes_of (x b))) (lanes z (bytes_of (y b))) sum

  pub whole_added : (z : Size) (s : State) (x y : ℕ → ℕ) (sum : ℕ) → (let A = word_added z s x y in
      added m f (firsts z (predicate_at s)) (lanes z (four x)) (lanes z (four y)) sum ≡ A 3 (A 2 (A 1 (A 0 sum))))
  whole_added Byte s x y sum =
      let A = word_added Byte s x y in
      let L : ℕ → List ℕ = λ k. bytes_of k in
      added-append (active_at 0 s) (active_at 1 s ++ active_at 2 s ++ active_at 3 s) (L (x 0)) (L (x 1) ++ L (x 2) ++ L (x 3)) (L (y 0))
      (L (y 1) ++ L (y 2) ++ L (y 3)) sum refl refl
      ∙ added-append (active_at 1 s) (active_at 2 s ++ active_at 3 s) (L (x 1)) (L (x 2) ++ L (x 3)) (L (y 1)) (L (y 2) ++ L (y 3)) (A 0 sum) refl refl
      ∙ added-append (active_at 2 s) (active_at 3 s) (L (x 2)) (L (x 3)) (L (y 2)) (L (y 3)) (A 1 (A 0 sum)) refl refl
  whole_added Half s x y sum =
      let A = word_added Half s x y in
      let F : ℕ → List Bool = λ b. firsts Half (active_at b s) in
      let L : ℕ → List ℕ = λ k. lanes Half (bytes_of k) in
      added-append (F 0) (F 1 ++ F 2 ++ F 3) (L (x 0)) (L (x 1) ++ L (x 2) ++ L (x 3)) (L (y 0)) (L (y 1) ++ L (y 2) ++ L (y 3)) sum refl refl
      ∙ added-append (F 1) (F 2 ++ F 3) (L (x 1)) (L (x 2) ++ L (x 3)) (L (y 1)) (L (y 2) ++ L (y 3)) (A 0 sum) refl refl
      ∙ added-append (F 2) (F 3) (L (x 2)) (L (x 3)) (L (y 2)) (L (y 3)) (A 1 (A 0 sum)) refl refl
  whole_added Word s x y sum =
      let A = word_added Word s x y in
      let F : ℕ → List Bool = λ b. firsts Word (active_at b s) in
      let L : ℕ → List ℕ = λ k. lanes Word (bytes_of k) in
      added-append (F 0) (F 1 ++ F 2 ++ F 3) (L (x 0)) (L (x 1) ++ L (x 2) ++ L (x 3)) (L (y 0)) (L (y 1) ++ L (y 2) ++ L (y 3)) sum refl refl
      ∙ added-append (F 1) (F 2 ++ F 3) (L (x 1)) (L (x 2) ++ L (x 3)) (L (y 1)) (L (y 2) ++ L (y 3)) (A 0 sum) refl refl
      ∙ added-append (F 2) (F 3) (L (x 2)) (L (x 3)) (L (y 2)) (L (y 3)) (A 1 (A 0 sum)) refl refl

-- WHERE A SUM STARTS
pub later_start : (g : Bool) (v : ℕ) → cond (not g && false) 0 v ≡ v
later_start g v = grind arith

pub first_start : (g : Bool) (v : ℕ) → cond (not g && true) 0 v ≡ cond g v 0
first_start g v = grind arith

module _ (r : Sums) (s : State) (runs : (ltb (at Ltp s) 4 ≡ false) ⊎ (eqb (2 * r.l.value) 14 ≡ false)) where
  abbrev this_row : Row
  this_row = sum_row r

  abbrev x : ℕ → ℕ
  x b = at (word_place r.n.value b) s

  abbrev y : ℕ → ℕ
  y b = at (word_place r.m.value b) s

  abbrev terms : ℕ → ℕ → ℕ
  terms b sum = word_added (2 ^ 32) (term r.terms) r.terms.z s x y b sum

  -- the state with a sum in its register
  abbrev with_sum : ℕ → State
  with_sum v = put cells (At (R (2 * r.l.value))) (word v) s

  fit_is : (v : ℕ) → fit (R (2 * r.l.value)) v ≡ v
  fit_is v = ap (λ q. cond q (v - v % 4) v) (ne_eqb (2 * r.l.value) 13 (λ e. omega arith))

  left : (v : ℕ) → (ltb (at Ltp s) 4 ≡ false) ⊎ (at (R 14) (with_sum v) ≡ at (R 14) s)
  left v = go runs
    where
      go : (ltb (at Ltp s) 4 ≡ false) ⊎ (eqb (2 * r.l.value) 14 ≡ false) → (ltb (at Ltp s) 4 ≡ false) ⊎ (at (R 14) (with_sum v) ≡ at (R 14) s)
      go (inl e) = inl e
      go (inr e) = inr (ap (λ q. (cond q (word v) (s.cell (At (R 14)))).n) e)

  held : (v : ℕ) → at (R (2 * r.l.value)) (with_sum v) ≡ v
  held v = ap (λ q. (cond q (word v) (s.cell (At (R (2 * r.l.value))))).n) (eq-eqb (2 * r.l.value) (2 * r.l.value) refl)

  -- the predicate of a word with another sum in the register
  active_1 : (v : ℕ) → active_at 1 (with_sum v) ≡ active_at 1 s
  active_1 v = active_any 1 (at Mask01 s) (at Ltp s) (at (R 14) (with_sum v)) (at (R 14) s) (at (P0 1) s) (left v)

  active_2 : (v : ℕ) → active_at 2 (with_sum v) ≡ active_at 2 s
  active_2 v = active_any 2 (at Mask23 s) (at Ltp s) (at (R 14) (with_sum v)) (at (R 14) s) (at (P0 2) s) (left v)

  active_3 : (v : ℕ) → active_at 3 (with_sum v) ≡ active_at 3 s
  active_3 v = active_any 3 (at Mask23 s) (at Ltp s) (at (R 14) (with_sum v)) (at (R 14) s) (at (P0 3) s) (left v)

  -- the sum after word b
  abbrev word_after : ℕ → List Bool → ℕ → ℕ
  word_after b active v = sum_after (2 ^ 32) r.goes_on r.terms b active (x b) (y b) v

  -- one more word
  next : (b v : ℕ) → linked this_row b (with_sum v)
      ≡ put cells (At (R (2 * r.l.value))) (word (fit (R (2 * r.l.value)) (word_after b (active_at b (with_sum v)) (at (R (2 * r.l.value)) (with_sum v)))))
      (with_sum v)
  next b v = refl

  step : (b v w : ℕ) → active_at b (with_sum v) ≡ active_at b s → word_after b (active_at b s) v ≡ w → linked this_row b (with_sum v) ≡ with_sum w
  step b v w e f = next b v
      ∙ (λ j. put cells (At (R (2 * r.l.value))) (word (fit (R (2 * r.l.value)) (word_after b (e j) (held v j)))) (with_sum v))
      ∙ (λ j. put cells (At (R (2 * r.l.value))) (word (fit_is (f j) j)) (with_sum v))
      ∙ put_twice (At (R (2 * r.l.value))) (word v) (word w) s

  abbrev start : ℕ
  start = cond r.goes_on (at (R (2 * r.l.value)) s) 0

  abbrev s0 : ℕ
  s0 = terms 0 start

  abbrev s1 : ℕ
  s1 = terms 1 s0

  abbrev s2 : ℕ
  s2 = terms 2 s1

  abbrev s3 : ℕ
  s3 = terms 3 s2

  after_0 : linked this_row 0 s ≡ with_sum s0
  after_0 = λ j. put cells (At (R (2 * r.l.value))) (word (fit_is (terms 0 (first_start r.goes_on (at (R (2 * r.l.value)) s) j)) j)) s

  after_1 : linked this_row 1 (linked this_row 0 s) ≡ with_sum s1
  after_1 = ap (linked this_row 1) after_0 ∙ step 1 s0 s1 (active_1 s0) (ap (terms 1) (later_start r.goes_on s0))

  after_2 : linked this_row 2 (linked this_row 1 (linked this_row 0 s)) ≡ with_sum s2
  after_2 = ap (linked this_row 2) after_1 ∙ step 2 s1 s2 (active_2 s1) (ap (terms 2) (later_start r.goes_on s1))

  after_3 : linked this_row 3 (linked this_row 2 (linked this_row 1 (linked this_row 0 s))) ≡ with_sum s3
  after_3 = ap (linked this_row 3) after_2 ∙ step 3 s2 s3 (active_3 s2) (ap (terms 3) (later_start r.goes_on s2))

  abbrev over : State → State → State → State → State
  over a b c d = retired (put_all cells (ends_at this_row 0 s ++ ends_at this_row 1 a ++ ends_at this_row 2 b ++ ends_at this_row 3 c) d)

  pub sum_is : row_by_words this_row s ≡ advancing (sum_writes r s) s
  sum_is = (λ j. over (after_0 j) (after_1 j) (after_2 j) (after_3 j))
      ∙ ap retired (advances this_row s (with_sum s3) refl refl)
      ∙ (λ j. retired (put_all cells (advance_half 0 s ++ advance_half 2 s) (put cells (At (R (2 * r.l.value))) (word (sym (fit_is s3) j)) s)))
      ∙ (λ j. retired (put_all cells (advance_half 0 s ++ advance_half 2 s)
      (put cells (At (R (2 * r.l.value))) (word (fit (R (2 * r.l.value)) (sym (whole_added (2 ^ 32) (term r.terms) r.terms.z s x y start) j))) s)))
