-- Narrow elements of whole registers are those of their words.
use Rattle.std.proofs.Common.{◌≡◌, ℕ, suc, ◌+◌, ◌-◌, ◌*◌, ◌/◌, ◌%◌, ◌^◌, ◌<◌, ◌≤◌, Bool, true, false, ◌&&◌, ◌||◌, cond, nat_eq, get_or, List, [], ◌∷◌, ◌++◌}
use Rattle.std.proofs.Common.{map, refl, sym, ◌∙◌, ap, arith, subst, ℤ, unsigned_abs}
use Rattle.std.proofs.Math.IntN.{pos, negsuc}
use Rattle.std.proofs.lemmas.Int.{int_rem_euclid_is, ints}
use Rattle.std.proofs.lemmas.Nat.{mod_below, mul-le}
use Rattle.std.specs.Int.{int_rem_euclid}
use Rattle.hm_isa.specs.declared.vectors.V16.{V16}
use Rattle.hm_isa.specs.declared.vectors.NarrowingName.{NarrowingName}
use Rattle.hm_lane.specs.declared.lanes.Size.{Size}
use Rattle.hm_lane.specs.declared.lanes.Size.TheVariants.{Byte, Half, Word}
use Rattle.hm_lane.specs.Lanes.{bytes_of, lanes, merged, modulus, spread, unlanes, word_of}
use Rattle.hm_state.specs.Store.{flagged, put_all}
use Rattle.hm_state.specs.State.{State, at, cells}
use Rattle.hm_beat.specs.Rows.{active_at, advance_half, predicate_at, register_at, retired, word_place, write_register}
use Rattle.hm_kinds.specs.Row.{Row, ends_at, mark_at, outs_at, row_by_words, values_at}
use Rattle.hm_lane_fns.specs.LaneFns.{cut}
use Rattle.hm_lane_fns.specs.Words.{any_both}
use Rattle.hm_forms_elements.specs.Forms.{narrowed, narrowing_bytes, narrowing_mark, narrowing_outside, narrowing_row, narrowing_saturates, narrowing_tests}
use Rattle.hm_forms_elements.specs.Registers.{narrowing_result, narrowing_saturated, narrowing_whole, placed, placed_tests}
use Rattle.hm_lane_fns.proofs.Lanewise.{active_byte, advances, and_four, any_words, four, marked_where}

-- A NUMBER CUT to its lane fits it
rem_below : (v : ℤ) (m : ℕ) → 0 < m → unsigned_abs (int_rem_euclid v (pos m)) < m
rem_below (pos a) m p = subst (λ (z : ℤ). unsigned_abs z < m) (sym (int_rem_euclid_is (pos a) (pos m) m 0 a p refl (omega (arith, ints)))) (mod_below a m p)
rem_below (negsuc a) m p =
    let most : suc a * 1 ≤ suc a * m = mul-le (suc a) 1 (suc a) m (omega arith) p in
    subst (λ (z : ℤ). unsigned_abs z < m) (sym (int_rem_euclid_is (negsuc a) (pos m) m (suc a) (suc a * m - suc a) p refl (omega (arith, ints))))
    (mod_below (suc a * m - suc a) m p)

cut_below : (z : Size) (v : ℤ) → cut z v < modulus z
cut_below Byte v = rem_below v (2 ^ 8) (omega arith)
cut_below Half v = rem_below v (2 ^ 16) (omega arith)
cut_below Word v = rem_below v (2 ^ 32) (omega arith)

-- BYTES OF A WORD
as_bytes : (a b c d : ℕ) → a < 256 → b < 256 → c < 256 → d < 256
    → bytes_of (a + 256 * b + 65536 * c + 16777216 * d) ≡ a % 256 ∷ b % 256 ∷ c % 256 ∷ d % 256 ∷ []
as_bytes a b c d h i j k =
    let e : (a + 256 * b + 65536 * c + 16777216 * d) % 256 ≡ a % 256 = omega arith in
    let f : (a + 256 * b + 65536 * c + 16777216 * d) / 256 % 256 ≡ b % 256 = omega arith in
    let g : (a + 256 * b + 65536 * c + 16777216 * d) / 65536 % 256 ≡ c % 256 = omega arith in
    let l : (a + 256 * b + 65536 * c + 16777216 * d) / 16777216 % 256 ≡ d % 256 = omega arith in
    cc (e, f, g, l)

-- of two halves, of which one is new
lower_half : (n c d : ℕ) → n < 65536 → c < 256 → d < 256
    → bytes_of (n % 256 + 256 * (n / 256) + 65536 * c + 16777216 * d) ≡ n % 256 ∷ n / 256 % 256 ∷ (c + 256 * d) % 256 ∷ (c + 256 * d) / 256 % 256 ∷ []
lower_half n c d h i j =
    let e : (n % 256 + 256 * (n / 256) + 65536 * c + 16777216 * d) % 256 ≡ n % 256 = omega arith in
    let f : (n % 256 + 256 * (n / 256) + 65536 * c + 16777216 * d) / 256 % 256 ≡ n / 256 % 256 = omega arith in
    let g : (n % 256 + 256 * (n / 256) + 65536 * c + 16777216 * d) / 65536 % 256 ≡ (c + 256 * d) % 256 = omega arith in
    let l : (n % 256 + 256 * (n / 256) + 65536 * c + 16777216 * d) / 16777216 % 256 ≡ (c + 256 * d) / 256 % 256 = omega arith in
    cc (e, f, g, l)

upper_half : (a b n : ℕ) → a < 256 → b < 256 → n < 65536
    → bytes_of (a + 256 * b + 65536 * (n % 256) + 16777216 * (n / 256)) ≡ (a + 256 * b) % 256 ∷ (a + 256 * b) / 256 % 256 ∷ n % 256 ∷ n / 256 % 256 ∷ []
upper_half a b n h i j =
    let e : (a + 256 * b + 65536 * (n % 256) + 16777216 * (n / 256)) % 256 ≡ (a + 256 * b) % 256 = omega arith in
    let f : (a + 256 * b + 65536 * (n % 256) + 16777216 * (n / 256)) / 256 % 256 ≡ (a + 256 * b) / 256 % 256 = omega arith in
    let g : (a + 256 * b + 65536 * (n % 256) + 16777216 * (n / 256)) / 65536 % 256 ≡ n % 256 = omega arith in
    let l : (a + 256 * b + 65536 * (n % 256) + 16777216 * (n / 256)) / 16777216 % 256 ≡ n / 256 % 256 = omega arith in
    cc (e, f, g, l)

-- THE NARROW ELEMENTS of one word
abbrev narrowing_word : Bool → Bool → NarrowingName → ℕ → ℕ → List ℕ
narrowing_word z odd f o x = bytes_of (word_of (narrowing_bytes z odd f (bytes_of o) (bytes_of x)))

abbrev from_words : Bool → NarrowingName → ℕ → ℕ → List ℕ
from_words odd f o x = unlanes Half (placed odd (lanes Half (bytes_of o)) (map (narrowed f Word Half) (lanes Word (bytes_of x))))

abbrev from_halves : Bool → NarrowingName → ℕ → ℕ → List ℕ
from_halves odd f o x = unlanes Byte (placed odd (bytes_of o) (map (narrowed f Half Byte) (lanes Half (bytes_of x))))

one_word : (z odd : Bool) (f : NarrowingName) (o x : ℕ) → narrowing_word z odd f o x ≡ cond z (from_words odd f o x) (from_halves odd f o x)
one_word false false f o x = as_bytes _ _ _ _ (cut_below Byte _) (omega arith) (cut_below Byte _) (omega arith)
one_word false true f o x = as_bytes _ _ _ _ (omega arith) (cut_below Byte _) (omega arith) (cut_below Byte _)
one_word true false f o x = lower_half _ _ _ (cut_below Half _) (omega arith) (omega arith)
one_word true true f o x = upper_half _ _ _ (omega arith) (omega arith) (cut_below Half _)

-- of four
pub four_words : (z odd : Bool) (f : NarrowingName) (o x : ℕ → ℕ) →
    four (λ b. word_of (narrowing_bytes z odd f (bytes_of (o b)) (bytes_of (x b))))
    ≡ cond z (unlanes Half (placed odd (lanes Half (four o)) (map (narrowed f Word Half) (lanes Word (four x)))))
    (unlanes Byte (placed odd (lanes Byte (four o)) (map (narrowed f Half Byte) (lanes Half (four x)))))
four_words false odd f o x = λ j. one_word false odd f (o 0) (x 0) j ++ one_word false odd f (o 1) (x 1) j ++ one_word false odd f (o 2) (x 2) j
    ++ one_word false odd f (o 3) (x 3) j
four_words true odd f o x = λ j. one_word true odd f (o 0) (x 0) j ++ one_word true odd f (o 1) (x 1) j ++ one_word true odd f (o 2) (x 2) j
    ++ one_word true odd f (o 3) (x 3) j

-- THE TESTS of four words
pub four_tests : (z odd : Bool) (f : NarrowingName) (x : ℕ → ℕ) (s : State)
    → (let A : ℕ → Bool = λ b. any_both (active_at b s) (narrowing_tests z odd f (bytes_of (x b))) in
    any_both (predicate_at s)
    (cond z (spread Half (placed_tests odd (map (narrowing_outside f Word Half) (lanes Word (four x)))))
    (spread Byte (placed_tests odd (map (narrowing_outside f Half Byte) (lanes Half (four x))))))
    ≡ (A 0 || A 1 || A 2 || A 3))
four_tests false false f x s = any_words (active_byte s) (λ b j. get_or (narrowing_tests false false f (bytes_of (x b))) j false)
four_tests false true f x s = any_words (active_byte s) (λ b j. get_or (narrowing_tests false true f (bytes_of (x b))) j false)
four_tests true false f x s = any_words (active_byte s) (λ b j. get_or (narrowing_tests true false f (bytes_of (x b))) j false)
four_tests true true f x s = any_words (active_byte s) (λ b j. get_or (narrowing_tests true true f (bytes_of (x b))) j false)

module _ (r : V16) (s : State) where
  abbrev this_row : Row
  this_row = narrowing_row r

  abbrev z : Bool
  z = nat_eq r.z.value 1

  abbrev odd : Bool
  odd = nat_eq r.t.value 1

  abbrev old : ℕ → ℕ
  old b = at (word_place r.d.value b) s

  abbrev x : ℕ → ℕ
  x b = at (word_place r.m.value b) s

  marks : (mark_at this_row 0 s || mark_at this_row 1 s || mark_at this_row 2 s || mark_at this_row 3 s)
      ≡ (narrowing_saturates r.name && any_both (predicate_at s) (narrowing_saturated r s))
  marks =
      let t = narrowing_saturates r.name in
      let A : ℕ → Bool = λ b. any_both (active_at b s) (narrowing_tests z odd r.name (bytes_of (x b))) in
      let e : (b : ℕ) → mark_at this_row b s ≡ (t && A b) = λ b. marked_where t b (active_at b s) (values_at this_row b s) (λ k. narrowing_mark r) in
      (λ j. e 0 j || e 1 j || e 2 j || e 3 j) ∙ and_four t (A 0) (A 1) (A 2) (A 3) ∙ ap (λ y. t && y) (sym (four_tests z odd r.name x s))

  abbrev merged_with : List ℕ → State
  merged_with u = put_all cells (write_register r.d.value (merged (predicate_at s) (register_at r.d.value s) u) ++ advance_half 0 s ++ advance_half 2 s) s

  abbrev ends : State → State
  ends u = put_all cells (ends_at this_row 0 s ++ ends_at this_row 1 s ++ ends_at this_row 2 s ++ ends_at this_row 3 s) u

  merged_is : ends (put_all cells
      (outs_at this_row 0 s (this_row.outs 0) ++ outs_at this_row 1 s (this_row.outs 1) ++ outs_at this_row 2 s (this_row.outs 2)
      ++ outs_at this_row 3 s (this_row.outs 3)) s)
      ≡ merged_with (narrowing_result r s)
  merged_is = advances this_row s
      (put_all cells (outs_at this_row 0 s (this_row.outs 0) ++ outs_at this_row 1 s (this_row.outs 1) ++ outs_at this_row 2 s (this_row.outs 2)
      ++ outs_at this_row 3 s (this_row.outs 3)) s) refl refl
      ∙ ap merged_with (four_words z odd r.name old x)

  pub narrowing_is : row_by_words this_row s ≡ narrowing_whole r s
  narrowing_is = λ j. retired (flagged (marks j) (merged_is j))
