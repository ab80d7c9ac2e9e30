-- The best of a whole register is that of its words, one after another.
use Rattle.std.proofs.Common.{◌≡◌, ℕ, ◌+◌, ◌-◌, ◌%◌, ◌^◌, ◌<◌, ◌≤◌, Bool, true, false, ◌||◌, ◌⊎◌, inl, inr, cond, eqb, ltb, nat_eq, length, List, [], ◌∷◌, ◌++◌}
use Rattle.std.proofs.Common.{map, refl, sym, ◌∙◌, ap, arith, ne_eqb, eq-eqb, ℤ, pos, ◌-ℤ◌, int_lt, unsigned_abs}
use Rattle.std.proofs.lemmas.Int.{int_rem_euclid_is, ints}
use Rattle.std.specs.Int.{int_rem_euclid}
use Rattle.hm_base.specs.Place.{fit}
use Rattle.hm_base.specs.declared.Place.TheVariants.{R, Mask01, Mask23, P0, Ltp}
use Rattle.hm_isa.specs.declared.vectors.V23.{V23}
use Rattle.hm_isa.specs.declared.vectors.ExtremeName.{ExtremeName}
use Rattle.hm_isa.specs.declared.vectors.ExtremeName.TheVariants.{Max, Min}
use Rattle.hm_lane.specs.declared.lanes.Size.{Size}
use Rattle.hm_lane.specs.declared.lanes.Size.TheVariants.{Byte, Half, Word}
use Rattle.hm_lane.specs.Lanes.{bytes_of, firsts, lanes, modulus}
use Rattle.hm_state.specs.Store.{put, put_all}
use Rattle.hm_state.specs.State.{At, Cell, State, at, cells, word}
use Rattle.hm_beat.specs.Rows.{Each, active_at, advance_half, predicate_at, retired, word_place}
use Rattle.hm_kinds.specs.Row.{Row, ends_at, linked, row_by_words}
use Rattle.hm_lane_fns.specs.LaneFns.{cut, half, lane_value}
use Rattle.hm_lane_fns.specs.Words.{size_of}
use Rattle.hm_forms_across.specs.Forms.{best, better, extreme_row}
use Rattle.hm_lane_fns.specs.Registers.{advancing}
use Rattle.hm_forms_across.specs.Registers.{extreme_writes}
use Rattle.hm_lane_fns.proofs.Lanewise.{advances, four}
use Rattle.hm_lane_fns.proofs.Handed.{active_any, put_twice}

-- A NUMBER THAT A LANE HOLDS COMES BACK FROM A REGISTER
negative : (M x : ℕ) → x < M → M ≤ 2 ^ 32 → int_rem_euclid (pos x -ℤ pos M) (pos (2 ^ 32)) ≡ pos ((x + (2 ^ 32 - M)) % 2 ^ 32)
negative M x h k = int_rem_euclid_is (pos x -ℤ pos M) (pos (2 ^ 32)) (2 ^ 32) 1 (x + (2 ^ 32 - M)) (omega arith) refl (omega (arith, ints))

back : (z : Size) (b : Bool) (x : ℕ) → x < modulus z → cut Word (cond b (pos x) (pos x -ℤ pos (modulus z))) % modulus z ≡ x
back Byte true x h = omega arith
back Half true x h = omega arith
back Word true x h = omega arith
back Byte false x h = ap (λ v. unsigned_abs v % 2 ^ 8) (negative (2 ^ 8) x h (omega arith))
    ∙ (let e : (x + (2 ^ 32 - 2 ^ 8)) % 2 ^ 32 % 2 ^ 8 ≡ x = omega arith in e)
back Half false x h = ap (λ v. unsigned_abs v % 2 ^ 16) (negative (2 ^ 16) x h (omega arith))
    ∙ (let e : (x + (2 ^ 32 - 2 ^ 16)) % 2 ^ 32 % 2 ^ 16 ≡ x = omega arith in e)
back Word false x h = ap (λ v. unsigned_abs v % 2 ^ 32) (negative (2 ^ 32) x h (omega arith))
    ∙ (let e : (x + (2 ^ 32 - 2 ^ 32)) % 2 ^ 32 % 2 ^ 32 ≡ x = omega arith in e)

-- a number that a lane holds
record Held (u : Bool) (z : Size) (v : ℤ) : Type 0 where
  lane : ℕ
  below : lane < modulus z
  is : v ≡ lane_value u z lane

held_back : (u : Bool) (z : Size) (v : ℤ) → Held u z v → lane_value u z (cut Word v % modulus z) ≡ v
held_back u z v h = ap (λ w. lane_value u z (cut Word w % modulus z)) h.is ∙ ap (lane_value u z) (back z (u || ltb h.lane (half z)) h.lane h.below) ∙ sym h.is

module _ (name : ExtremeName) (u : Bool) (z : Size) where
  chosen : (n : ExtremeName) (v w : ℤ) → Held u z v → Held u z w → Held u z (better n v w)
  chosen Max v w h k = go (int_lt w v)
    where
      go : (b : Bool) → Held u z (cond b v w)
      go true = h
      go false = k
  chosen Min v w h k = go (int_lt w v)
    where
      go : (b : Bool) → Held u z (cond b w v)
      go true = k
      go false = h

  best_held : (ps : List Bool) (xs : List ℕ) (v : ℤ) → Each (λ x. x < modulus z) xs → Held u z v → Held u z (best name ps (map (lane_value u z) xs) v)
  best_held [] xs v b h = h
  best_held (p ∷ ps) [] v b h = h
  best_held (p ∷ ps) (x ∷ xs) v b h = best_held ps xs (cond p (better name v (lane_value u z x)) v) b.1 (go p)
    where
      go : (q : Bool) → Held u z (cond q (better name v (lane_value u z x)) v)
      go true = chosen name v (lane_value u z x) h (record { lane = x; below = b.0; is = refl })
      go false = h

  best-append : (ps qs : List Bool) (xs us : List ℤ) (v : ℤ) → length xs ≡ length ps → best name (ps ++ qs) (xs ++ us) v ≡ best name qs us (best name ps xs v)
  best-append [] qs [] us v e = refl
  best-append [] qs (x ∷ xs) us v e = cc
  best-append (p ∷ ps) qs [] us v e = cc
  best-append (p ∷ ps) qs (x ∷ xs) us v e = best-append ps qs xs us (cond p (better name v x) v) (omega arith)

-- THE BEST OF FOUR WORDS
module _ (name : ExtremeName) (u : Bool) (s : State) (x : ℕ → ℕ) where
  abbrev word_best : Size → ℕ → ℤ → ℤ
  word_best z b v = best name (firsts z (active_at b s)) (map (lane_value u z) (lanes z (bytes_of (x b)))) v

  whole_best : (z : Size) (v : ℤ)
      → (let B = word_best z in best name (firsts z (predicate_at s)) (map (lane_value u z) (lanes z (four x))) v ≡ B 3 (B 2 (B 1 (B 0 v))))
  whole_best Byte v =
      let B = word_best Byte in
      let F : ℕ → List Bool = λ b. firsts Byte (active_at b s) in
      let L : ℕ → List ℤ = λ b. map (lane_value u Byte) (lanes Byte (bytes_of (x b))) in
      best-append name u Byte (F 0) (F 1 ++ F 2 ++ F 3) (L 0) (L 1 ++ L 2 ++ L 3) v refl
      ∙ best-append name u Byte (F 1) (F 2 ++ F 3) (L 1) (L 2 ++ L 3) (B 0 v) refl
      ∙ best-append name u Byte (F 2) (F 3) (L 2) (L 3) (B 1 (B 0 v)) refl
  whole_best Half v =
      let B = word_best Half in
      let F : ℕ → List Bool = λ b. firsts Half (active_at b s) in
      let L : ℕ → List ℤ = λ b. map (lane_value u Half) (lanes Half (bytes_of (x b))) in
      best-append name u Half (F 0) (F 1 ++ F 2 ++ F 3) (L 0) (L 1 ++ L 2 ++ L 3) v refl
      ∙ best-append name u Half (F 1) (F 2 ++ F 3) (L 1) (L 2 ++ L 3) (B 0 v) refl
      ∙ best-append name u Half (F 2) (F 3) (L 2) (L 3) (B 1 (B 0 v)) refl
  whole_best Word v =
      let B = word_best Word in
      let F : ℕ → List Bool = λ b. firsts Word (active_at b s) in
      let L : ℕ → List ℤ = λ b. map (lane_value u Word) (lanes Word (bytes_of (x b))) in
      best-append name u Word (F 0) (F 1 ++ F 2 ++ F 3) (L 0) (L 1 ++ L 2 ++ L 3) v refl
      ∙ best-append name u Word (F 1) (F 2 ++ F 3) (L 1) (L 2 ++ L 3) (B 0 v) refl
      ∙ best-append name u Word (F 2) (F 3) (L 2) (L 3) (B 1 (B 0 v)) refl

  lanes_below : (z : Size) (y : ℕ) → Each (λ l. l < modulus z) (lanes z (bytes_of y))
  lanes_below Byte y = (omega arith, (omega arith, (omega arith, (omega arith, tt))))
  lanes_below Half y = (omega arith, (omega arith, tt))
  lanes_below Word y = (omega arith, tt)

  word_held : (z : Size) (b : ℕ) (v : ℤ) → Held u z v → Held u z (word_best z b v)
  word_held z b v h = best_held name u z (firsts z (active_at b s)) (lanes z (bytes_of (x b))) v (lanes_below z (x b)) h

cut_below : (z : Size) (t : ℕ) → t % modulus z < modulus z
cut_below z t = grind arith

module _ (r : V23) (s : State) (runs : (ltb (at Ltp s) 4 ≡ false) ⊎ (eqb r.t.value 14 ≡ false)) where
  abbrev this_row : Row
  this_row = extreme_row r

  abbrev z : Size
  z = size_of r.z.value

  abbrev u : Bool
  u = nat_eq r.u.value 1

  abbrev place : Cell
  place = At (R r.t.value)

  abbrev x : ℕ → ℕ
  x b = at (word_place r.m.value b) s

  abbrev B : ℕ → ℤ → ℤ
  B b v = word_best r.name u s x z b v

  -- the state with an extreme in its register
  abbrev with_value : ℤ → State
  with_value v = put cells place (word (cut Word v)) s

  fit_is : (v : ℕ) → fit (R r.t.value) v ≡ v
  fit_is v = ap (λ q. cond q (v - v % 4) v) (ne_eqb r.t.value 13 r.not_sp)

  left : (v : ℤ) → (ltb (at Ltp s) 4 ≡ false) ⊎ (at (R 14) (with_value v) ≡ at (R 14) s)
  left v = go runs
    where
      go : (ltb (at Ltp s) 4 ≡ false) ⊎ (eqb r.t.value 14 ≡ false) → (ltb (at Ltp s) 4 ≡ false) ⊎ (at (R 14) (with_value v) ≡ at (R 14) s)
      go (inl e) = inl e
      go (inr e) = inr (ap (λ q. (cond q (word (cut Word v)) (s.cell (At (R 14)))).n) e)

  read_back : (v : ℤ) → Held u z v → lane_value u z (at (R r.t.value) (with_value v) % modulus z) ≡ v
  read_back v h = ap (λ q. lane_value u z ((cond q (word (cut Word v)) (s.cell place)).n % modulus z)) (eq-eqb r.t.value r.t.value refl) ∙ held_back u z v h

  active_1 : (v : ℤ) → active_at 1 (with_value v) ≡ active_at 1 s
  active_1 v = active_any 1 (at Mask01 s) (at Ltp s) (at (R 14) (with_value v)) (at (R 14) s) (at (P0 1) s) (left v)

  active_2 : (v : ℤ) → active_at 2 (with_value v) ≡ active_at 2 s
  active_2 v = active_any 2 (at Mask23 s) (at Ltp s) (at (R 14) (with_value v)) (at (R 14) s) (at (P0 2) s) (left v)

  active_3 : (v : ℤ) → active_at 3 (with_value v) ≡ active_at 3 s
  active_3 v = active_any 3 (at Mask23 s) (at Ltp s) (at (R 14) (with_value v)) (at (R 14) s) (at (P0 3) s) (left v)

  abbrev after : ℕ → List Bool → ℤ → ℤ
  after b active v = best r.name (firsts z active) (map (lane_value u z) (lanes z (bytes_of (x b)))) v

  step : (b : ℕ) (v : ℤ) → Held u z v → active_at b (with_value v) ≡ active_at b s → linked this_row b (with_value v) ≡ with_value (B b v)
  step b v h e = (λ j. put cells place (word (fit (R r.t.value) (cut Word (after b (e j) (read_back v h j))))) (with_value v))
      ∙ (λ j. put cells place (word (fit_is (cut Word (B b v)) j)) (with_value v))
      ∙ put_twice place (word (cut Word v)) (word (cut Word (B b v))) s

  abbrev start : ℤ
  start = lane_value u z (at (R r.t.value) s % modulus z)

  abbrev v0 : ℤ
  v0 = B 0 start

  abbrev v1 : ℤ
  v1 = B 1 v0

  abbrev v2 : ℤ
  v2 = B 2 v1

  abbrev v3 : ℤ
  v3 = B 3 v2

  held_0 : Held u z v0
  held_0 = word_held r.name u s x z 0 start (record { lane = at (R r.t.value) s % modulus z; below = cut_below z (at (R r.t.value) s); is = refl })

  held_1 : Held u z v1
  held_1 = word_held r.name u s x z 1 v0 held_0

  held_2 : Held u z v2
  held_2 = word_held r.name u s x z 2 v1 held_1

  after_0 : linked this_row 0 s ≡ with_value v0
  after_0 = λ j. put cells place (word (fit_is (cut Word v0) j)) s

  after_1 : linked this_row 1 (linked this_row 0 s) ≡ with_value v1
  after_1 = ap (linked this_row 1) after_0 ∙ step 1 v0 held_0 (active_1 v0)

  after_2 : linked this_row 2 (linked this_row 1 (linked this_row 0 s)) ≡ with_value v2
  after_2 = ap (linked this_row 2) after_1 ∙ step 2 v1 held_1 (active_2 v1)

  after_3 : linked this_row 3 (linked this_row 2 (linked this_row 1 (linked this_row 0 s))) ≡ with_value v3
  after_3 = ap (linked this_row 3) after_2 ∙ step 3 v2 held_2 (active_3 v2)

  abbrev over : State → State → State → State → State
  over a b c d = retired (put_all cells (ends_at this_row 0 s ++ ends_at this_row 1 a ++ ends_at this_row 2 b ++ ends_at this_row 3 c) d)

  pub extreme_is : row_by_words this_row s ≡ advancing (extreme_writes r s) s
  extreme_is = (λ j. over (after_0 j) (after_1 j) (after_2 j) (after_3 j))
      ∙ ap retired (advances this_row s (with_value v3) refl refl)
      ∙ (λ j. retired (put_all cells (advance_half 0 s ++ advance_half 2 s) (put cells place (word (sym (fit_is (cut Word v3)) j)) s)))
      ∙ (λ j. retired (put_all cells (advance_half 0 s ++ advance_half 2 s)
      (put cells place (word (fit (R r.t.value) (cut Word (sym (whole_best r.name u s x z start) j)))) s)))
