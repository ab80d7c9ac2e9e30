-- Carries and shifts of whole registers are those of their words, one after another.
use Rattle.std.proofs.Common.{◌≡◌, ℕ, ◌+◌, ◌-◌, ◌*◌, ◌/◌, ◌%◌, ◌^◌, Bool, true, false, ◌&&◌, ◌⊎◌, inl, inr, cond, eqb, ltb, List, [], ◌∷◌, ◌++◌, map, refl, sym}
use Rattle.std.proofs.Common.{◌∙◌, ap, arith, ne_eqb, eq-eqb}
use Rattle.hm_base.specs.Place.{fit}
use Rattle.hm_base.specs.declared.Place.TheVariants.{R, Carry, Mask01, Mask23, P0, Ltp}
use Rattle.hm_isa.specs.declared.vectors.V8.{V8}
use Rattle.hm_isa.specs.declared.vectors.CarryName.{CarryName}
use Rattle.hm_isa.specs.declared.vectors.V17.{V17}
use Rattle.hm_lane.specs.Lanes.{bytes_of, merged, word_of}
use Rattle.hm_lane.specs.Predicate.{first}
use Rattle.hm_state.specs.Store.{put, put_all}
use Rattle.hm_state.specs.State.{At, Cell, State, Value, at, cells, word}
use Rattle.hm_beat.specs.Rows.{active_at, advance_half, retired, word_place}
use Rattle.hm_kinds.specs.Row.{Row, ends_at, linked, numbers, outs_at, row_by_words}
use Rattle.hm_forms_elements.specs.Forms.{begins, carry_places, carry_row, flags_before, shift_of, shift_row, subtracts}
use Rattle.hm_lane_fns.specs.Registers.{advancing}
use Rattle.hm_forms_elements.specs.Registers.{bits_after, carry_writes, flags_after, shift_writes, sum_with}
use Rattle.hm_lane_fns.proofs.Handed.{active_any, put_twice}
use Rattle.hm_lane_fns.proofs.Lanewise.{advances}

-- A CARRY
-- the flags that a word finds
pub flags_found : (name : CarryName) (b : ℕ) (u : State)
    → flags_before name (numbers (map u.cell (map At (carry_places name b)))) ≡ cond (begins name && eqb b 0) (cond (subtracts name) 2 0) (at Carry u)
flags_found name b u = go (begins name && eqb b 0)
  where
    go : (q : Bool) → flags_before name (numbers (map u.cell (map At (cond q [] (Carry ∷ []))))) ≡ cond q (cond (subtracts name) 2 0) (at Carry u)
    go q = grind arith

pub at_first : (q : Bool) (a c : ℕ) → cond (q && true) a c ≡ cond q a c
at_first q a c = grind arith

pub later : (q : Bool) (a c : ℕ) → cond (q && false) a c ≡ c
later q a c = grind arith

-- four bits of the flags stand in their place, of which the next word takes one
pub bit_kept : (f : ℕ) → f % 2 ^ 4 / 2 % 2 ≡ f / 2 % 2
bit_kept f = omega arith

pub kept_twice : (f : ℕ) → f % 2 ^ 4 % 2 ^ 4 ≡ f % 2 ^ 4
kept_twice f = omega arith

pub sum_kept : (name : CarryName) (f x y : ℕ) → sum_with name (f % 2 ^ 4) x y ≡ sum_with name f x y
sum_kept name f x y = ap (λ c. x + cond (subtracts name) (0xffffffff - y) y + c) (bit_kept f)

pub flags_kept : (name : CarryName) (active : Bool) (f x y : ℕ) → flags_after name active (f % 2 ^ 4) x y % 2 ^ 4 ≡ flags_after name active f x y % 2 ^ 4
flags_kept name true f x y = ap (λ u. 2 * (u / 2 ^ 32) % 2 ^ 4) (sum_kept name f x y)
flags_kept name false f x y = kept_twice f

module _ (r : V8) (s : State) where
  abbrev carry : Row
  carry = carry_row r

  abbrev x : ℕ → ℕ
  x b = at (word_place r.n.value b) s

  abbrev y : ℕ → ℕ
  y b = at (word_place r.m.value b) s

  -- the state with flags in their place
  abbrev with_flags : ℕ → State
  with_flags f = put cells (At Carry) (word (f % 2 ^ 4)) s

  abbrev next : ℕ → ℕ → ℕ
  next b f = flags_after r.name (first (active_at b s)) f (x b) (y b)

  abbrev start : ℕ
  start = cond (begins r.name) (cond (subtracts r.name) 2 0) (at Carry s)

  abbrev f0 : ℕ
  f0 = next 0 start

  abbrev f1 : ℕ
  f1 = next 1 f0

  abbrev f2 : ℕ
  f2 = next 2 f1

  abbrev f3 : ℕ
  f3 = next 3 f2

  found_0 : flags_before r.name (numbers (map s.cell (map At (carry_places r.name 0)))) ≡ start
  found_0 = flags_found r.name 0 s ∙ at_first (begins r.name) (cond (subtracts r.name) 2 0) (at Carry s)

  found_1 : (f : ℕ) → flags_before r.name (numbers (map (with_flags f).cell (map At (carry_places r.name 1)))) ≡ f % 2 ^ 4
  found_1 f = flags_found r.name 1 (with_flags f) ∙ later (begins r.name) (cond (subtracts r.name) 2 0) (f % 2 ^ 4)

  found_2 : (f : ℕ) → flags_before r.name (numbers (map (with_flags f).cell (map At (carry_places r.name 2)))) ≡ f % 2 ^ 4
  found_2 f = flags_found r.name 2 (with_flags f) ∙ later (begins r.name) (cond (subtracts r.name) 2 0) (f % 2 ^ 4)

  found_3 : (f : ℕ) → flags_before r.name (numbers (map (with_flags f).cell (map At (carry_places r.name 3)))) ≡ f % 2 ^ 4
  found_3 f = flags_found r.name 3 (with_flags f) ∙ later (begins r.name) (cond (subtracts r.name) 2 0) (f % 2 ^ 4)

  abbrev found : ℕ → ℕ → ℕ
  found b f = flags_before r.name (numbers (map (with_flags f).cell (map At (carry_places r.name b))))

  step : (b f : ℕ) → found b f ≡ f % 2 ^ 4
      → put cells (At Carry) (word (flags_after r.name (first (active_at b s)) (found b f) (x b) (y b) % 2 ^ 4)) (with_flags f) ≡ with_flags (next b f)
  step b f e = (λ j. put cells (At Carry) (word (flags_after r.name (first (active_at b s)) (e j) (x b) (y b) % 2 ^ 4)) (with_flags f))
      ∙ (λ j. put cells (At Carry) (word (flags_kept r.name (first (active_at b s)) f (x b) (y b) j)) (with_flags f))
      ∙ put_twice (At Carry) (word (f % 2 ^ 4)) (word (next b f % 2 ^ 4)) s

  after_0 : linked carry 0 s ≡ with_flags f0
  after_0 = λ j. put cells (At Carry) (word (flags_after r.name (first (active_at 0 s)) (found_0 j) (x 0) (y 0) % 2 ^ 4)) s

  after_1 : linked carry 1 (linked carry 0 s) ≡ with_flags f1
  after_1 = ap (linked carry 1) after_0 ∙ step 1 f0 (found_1 f0)

  after_2 : linked carry 2 (linked carry 1 (linked carry 0 s)) ≡ with_flags f2
  after_2 = ap (linked carry 2) after_1 ∙ step 2 f1 (found_2 f1)

  after_3 : linked carry 3 (linked carry 2 (linked carry 1 (linked carry 0 s))) ≡ with_flags f3
  after_3 = ap (linked carry 3) after_2 ∙ step 3 f2 (found_3 f2)

  abbrev over : State → State → State → State → State
  over a b c d = retired (put_all cells (ends_at carry 0 s ++ ends_at carry 1 a ++ ends_at carry 2 b ++ ends_at carry 3 c)
      (put_all cells (outs_at carry 0 s (carry.outs 0) ++ outs_at carry 1 a (carry.outs 1) ++ outs_at carry 2 b (carry.outs 2)
      ++ outs_at carry 3 c (carry.outs 3)) d))

  -- word b with a sum merged into it
  abbrev merged_sum : ℕ → ℕ → Cell × Value
  merged_sum b u = (At (word_place r.d.value b), word (word_of (merged (active_at b s) (bytes_of (at (word_place r.d.value b) s)) (bytes_of (u % 2 ^ 32)))))

  abbrev with_sums : ℕ → ℕ → ℕ → ℕ → State
  with_sums a b c d = put_all cells (merged_sum 0 a ∷ merged_sum 1 b ∷ merged_sum 2 c ∷ merged_sum 3 d ∷ []) (with_flags f3)

  abbrev sum_of : ℕ → ℕ → ℕ
  sum_of b f = sum_with r.name f (x b) (y b)

  sums : with_sums (sum_of 0 (flags_before r.name (numbers (map s.cell (map At (carry_places r.name 0)))))) (sum_of 1 (found 1 f0)) (sum_of 2 (found 2 f1))
      (sum_of 3 (found 3 f2))
      ≡ with_sums (sum_of 0 start) (sum_of 1 f0) (sum_of 2 f1) (sum_of 3 f2)
  sums = (λ j. with_sums (sum_of 0 (found_0 j)) (sum_of 1 (found_1 f0 j)) (sum_of 2 (found_2 f1 j)) (sum_of 3 (found_3 f2 j)))
      ∙ (λ j. with_sums (sum_of 0 start) (sum_kept r.name f0 (x 1) (y 1) j) (sum_kept r.name f1 (x 2) (y 2) j) (sum_kept r.name f2 (x 3) (y 3) j))

  pub carry_is : row_by_words carry s ≡ advancing (carry_writes r s) s
  carry_is = (λ j. over (after_0 j) (after_1 j) (after_2 j) (after_3 j))
      ∙ ap retired (advances carry s
      (with_sums (sum_of 0 (flags_before r.name (numbers (map s.cell (map At (carry_places r.name 0)))))) (sum_of 1 (found 1 f0)) (sum_of 2 (found 2 f1))
      (sum_of 3 (found 3 f2))) refl refl)
      ∙ ap (λ u. retired (put_all cells (advance_half 0 s ++ advance_half 2 s) u)) sums

-- A SHIFT
module _ (r : V17) (s : State) (runs : (ltb (at Ltp s) 4 ≡ false) ⊎ (eqb r.m.value 14 ≡ false)) where
  abbrev shift : Row
  shift = shift_row r

  abbrev place : Cell
  place = At (R r.m.value)

  abbrev c : ℕ → ℕ
  c b = at (word_place r.d.value b) s

  -- the state with bits in the register
  abbrev with_bits : ℕ → State
  with_bits m = put cells place (word m) s

  abbrev out : ℕ → ℕ → ℕ
  out b m = bits_after (shift_of r) (first (active_at b s)) m (c b)

  fit_is : (v : ℕ) → fit (R r.m.value) v ≡ v
  fit_is v = ap (λ q. cond q (v - v % 4) v) (ne_eqb r.m.value 13 r.not_sp)

  left : (v : ℕ) → (ltb (at Ltp s) 4 ≡ false) ⊎ (at (R 14) (with_bits v) ≡ at (R 14) s)
  left v = go runs
    where
      go : (ltb (at Ltp s) 4 ≡ false) ⊎ (eqb r.m.value 14 ≡ false) → (ltb (at Ltp s) 4 ≡ false) ⊎ (at (R 14) (with_bits v) ≡ at (R 14) s)
      go (inl e) = inl e
      go (inr e) = inr (ap (λ q. (cond q (word v) (s.cell (At (R 14)))).n) e)

  held : (v : ℕ) → at (R r.m.value) (with_bits v) ≡ v
  held v = ap (λ q. (cond q (word v) (s.cell place)).n) (eq-eqb r.m.value r.m.value refl)

  active_1 : (v : ℕ) → active_at 1 (with_bits v) ≡ active_at 1 s
  active_1 v = active_any 1 (at Mask01 s) (at Ltp s) (at (R 14) (with_bits v)) (at (R 14) s) (at (P0 1) s) (left v)

  active_2 : (v : ℕ) → active_at 2 (with_bits v) ≡ active_at 2 s
  active_2 v = active_any 2 (at Mask23 s) (at Ltp s) (at (R 14) (with_bits v)) (at (R 14) s) (at (P0 2) s) (left v)

  active_3 : (v : ℕ) → active_at 3 (with_bits v) ≡ active_at 3 s
  active_3 v = active_any 3 (at Mask23 s) (at Ltp s) (at (R 14) (with_bits v)) (at (R 14) s) (at (P0 3) s) (left v)

  shift_step : (b v : ℕ) → active_at b (with_bits v) ≡ active_at b s → linked shift b (with_bits v) ≡ with_bits (out b v)
  shift_step b v e = (λ j. put cells place (word (fit (R r.m.value) (bits_after (shift_of r) (first (e j)) (held v j) (c b)))) (with_bits v))
      ∙ (λ j. put cells place (word (fit_is (out b v) j)) (with_bits v))
      ∙ put_twice place (word v) (word (out b v)) s

  abbrev start_bits : ℕ
  start_bits = at (R r.m.value) s

  abbrev m0 : ℕ
  m0 = out 0 start_bits

  abbrev m1 : ℕ
  m1 = out 1 m0

  abbrev m2 : ℕ
  m2 = out 2 m1

  abbrev m3 : ℕ
  m3 = out 3 m2

  bits_0 : linked shift 0 s ≡ with_bits m0
  bits_0 = λ j. put cells place (word (fit_is m0 j)) s

  bits_1 : linked shift 1 (linked shift 0 s) ≡ with_bits m1
  bits_1 = ap (linked shift 1) bits_0 ∙ shift_step 1 m0 (active_1 m0)

  bits_2 : linked shift 2 (linked shift 1 (linked shift 0 s)) ≡ with_bits m2
  bits_2 = ap (linked shift 2) bits_1 ∙ shift_step 2 m1 (active_2 m1)

  bits_3 : linked shift 3 (linked shift 2 (linked shift 1 (linked shift 0 s))) ≡ with_bits m3
  bits_3 = ap (linked shift 3) bits_2 ∙ shift_step 3 m2 (active_3 m2)

  abbrev shift_over : State → State → State → State → State
  shift_over a b d e = retired (put_all cells (ends_at shift 0 s ++ ends_at shift 1 a ++ ends_at shift 2 b ++ ends_at shift 3 d)
      (put_all cells (outs_at shift 0 s (shift.outs 0) ++ outs_at shift 1 a (shift.outs 1) ++ outs_at shift 2 b (shift.outs 2)
      ++ outs_at shift 3 d (shift.outs 3)) e))

  -- word b, where it is active, with bits shifted in
  abbrev merged_bits : ℕ → List Bool → ℕ → Cell × Value
  merged_bits b active m = (
    At (word_place r.d.value b),
    word (word_of (merged active (bytes_of (c b)) (bytes_of (c b * 2 ^ shift_of r % 2 ^ 32 + m % 2 ^ shift_of r)))),
  )

  abbrev with_words : State → Cell × Value → Cell × Value → Cell × Value → State
  with_words u k l n = put_all cells (merged_bits 0 (active_at 0 s) start_bits ∷ k ∷ l ∷ n ∷ []) u

  pub shift_is : row_by_words shift s ≡ advancing (shift_writes r s) s
  shift_is = (λ j. shift_over (bits_0 j) (bits_1 j) (bits_2 j) (bits_3 j))
      ∙ ap retired (advances shift s
      (with_words (with_bits m3) (merged_bits 1 (active_at 1 (with_bits m0)) (at (R r.m.value) (with_bits m0)))
      (merged_bits 2 (active_at 2 (with_bits m1)) (at (R r.m.value) (with_bits m1)))
      (merged_bits 3 (active_at 3 (with_bits m2)) (at (R r.m.value) (with_bits m2)))) refl refl)
      ∙ (λ j. retired (put_all cells (advance_half 0 s ++ advance_half 2 s)
      (with_words (with_bits m3) (merged_bits 1 (active_1 m0 j) (held m0 j)) (merged_bits 2 (active_2 m1 j) (held m1 j))
      (merged_bits 3 (active_3 m2 j) (held m2 j)))))
      ∙ (λ j. retired (put_all cells (advance_half 0 s ++ advance_half 2 s)
      (with_words (put cells place (word (sym (fit_is m3) j)) s) (merged_bits 1 (active_at 1 s) m0) (merged_bits 2 (active_at 2 s) m1)
      (merged_bits 3 (active_at 3 s) m2))))
