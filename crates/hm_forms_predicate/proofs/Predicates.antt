-- What forms make of P0, word by word, is what they make of its halves.
use Rattle.std.proofs.Common.{◌≡◌, ℕ, ◌+◌, ◌-◌, ◌*◌, Bool, true, false, not, cond, eqb, ltb, List, [], ◌∷◌, ◌++◌, drop, get_or, map, Option, Some, None, refl}
use Rattle.std.proofs.Common.{sym, ◌∙◌, ap, arith, append_assoc}
use Rattle.hm_base.specs.declared.Place.{Place}
use Rattle.hm_base.specs.declared.Place.TheVariants.{R, P0, Mask01, Mask23}
use Rattle.hm_regs.specs.Writes.{write}
use Rattle.hm_isa.specs.declared.vectors.Tail.{Tail}
use Rattle.hm_lane.specs.declared.lanes.Size.{Size}
use Rattle.hm_lane.specs.declared.lanes.Size.TheVariants.{Byte, Half, Word}
use Rattle.hm_lane.specs.Lanes.{bytes_of, lanes, paired_tests}
use Rattle.hm_lane.specs.Predicate.{mask_place}
use Rattle.hm_state.specs.Store.{put_all}
use Rattle.hm_state.specs.State.{Cell, State, Value, at, bit, cells, into}
use Rattle.hm_beat.specs.Rows.{active_at, predicate_at, register_at, retired, word_place}
use Rattle.hm_kinds.specs.Row.{mask_writes, row_by_words, slice_at, inverted_by, values_at}
use Rattle.hm_lane_fns.specs.Words.{both, filled, nibble, operand_places, truths}
use Rattle.hm_forms_predicate.specs.declared.compare.Comparison.{Comparison}
use Rattle.hm_forms_predicate.specs.Forms.{block_mask, compare_row, compare_slice, compares, count_row, count_slice, counted, invert_row, negated, slice_row}
use Rattle.hm_forms_predicate.specs.Predicates.{compare_result, count_result, invert_result, mask_after, predicate_whole, inverted_half}
use Rattle.hm_lane_fns.proofs.Lanewise.{four, operand_at, operand_four, operand_is, quad}

-- FOUR SLICES
-- word b gets a slice, which is inverted where the mask of its half is greater than 8; after each half its mask gets a new one, or shifts
abbrev slice_ends : ℕ → ℕ → Option ℕ → State → List (Cell × Value)
slice_ends b x new s = into (write (P0 b) (inverted_by (at (mask_place b) s) x)) ∷ map into (mask_writes b (at (mask_place b) s) new)

abbrev slices_whole : (ℕ → ℕ) → Option ℕ → State → State
slices_whole x new s = retired (put_all cells (slice_ends 0 (x 0) new s ++ slice_ends 1 (x 1) new s ++ slice_ends 2 (x 2) new s ++ slice_ends 3 (x 3) new s) s)

-- a row that makes slices of P0 makes the four
slices : (w : Bool) (reads : ℕ → List Place) (f : ℕ → ℕ → List Bool → List ℕ → ℕ) (new : Option ℕ) (s : State)
    → (let row = slice_row w reads f new in row_by_words row s ≡ slices_whole (λ b. f b (slice_at row b s) (active_at b s) (values_at row b s)) new s)
slices w reads f new s = refl

-- four truth values inverted are their bits inverted
one_bit : (p : Bool) → bit (not p) + bit p ≡ 1
one_bit p = grind arith

pub inverted_low : (mask : ℕ) (p q r t : Bool) (l : List Bool)
    → inverted_by mask (nibble (p ∷ q ∷ r ∷ t ∷ [])) ≡ nibble (inverted_half mask (p ∷ q ∷ r ∷ t ∷ l))
inverted_low mask p q r t l = go (ltb 8 mask)
  where
    go : (x : Bool) → (let n = nibble (p ∷ q ∷ r ∷ t ∷ []) in cond x (15 - n) n ≡ nibble (cond x (negated (p ∷ q ∷ r ∷ t ∷ l)) (p ∷ q ∷ r ∷ t ∷ l)))
    go true = omega (arith, one_bit p, one_bit q, one_bit r, one_bit t)
    go false = refl

pub inverted_high : (mask : ℕ) (a b c d p q r t : Bool)
    → inverted_by mask (nibble (p ∷ q ∷ r ∷ t ∷ [])) ≡ nibble (drop 4 (inverted_half mask (a ∷ b ∷ c ∷ d ∷ p ∷ q ∷ r ∷ t ∷ [])))
inverted_high mask a b c d p q r t = go (ltb 8 mask)
  where
    go : (x : Bool) → (let n = nibble (p ∷ q ∷ r ∷ t ∷ []) in
        cond x (15 - n) n ≡ nibble (drop 4 (cond x (negated (a ∷ b ∷ c ∷ d ∷ p ∷ q ∷ r ∷ t ∷ [])) (a ∷ b ∷ c ∷ d ∷ p ∷ q ∷ r ∷ t ∷ []))))
    go true = omega (arith, one_bit p, one_bit q, one_bit r, one_bit t)
    go false = refl

-- a mask moves behind the second word of its half
pub early : (new : Option ℕ) (s : State) → (map into (mask_writes 0 (at Mask01 s) new) ≡ []) × (map into (mask_writes 2 (at Mask23 s) new) ≡ [])
early new s = grind arith

pub shifts : (p : Place) (x : Bool) (n : ℕ) → map into (cond x (write p n ∷ []) []) ≡ cond x (into (write p n) ∷ []) []
shifts p x n = grind arith

pub late : (new : Option ℕ) (s : State)
    → (map into (mask_writes 1 (at Mask01 s) new) ≡ mask_after Mask01 (at Mask01 s) new)
    × (map into (mask_writes 3 (at Mask23 s) new) ≡ mask_after Mask23 (at Mask23 s) new)
late None s = (shifts Mask01 (not (eqb (at Mask01 s) 0)) (2 * at Mask01 s), shifts Mask23 (not (eqb (at Mask23 s) 0)) (2 * at Mask23 s))
late (Some k) s = (refl, refl)

-- four slices are two halves
by_halves : (p : ℕ → ℕ → Bool) (new : Option ℕ) (s : State)
    → slices_whole (λ b. nibble (quad p b)) new s ≡ predicate_whole (quad p 0 ++ quad p 1 ++ quad p 2 ++ quad p 3) new s
by_halves p new s =
    let m = at Mask01 s in
    let n = at Mask23 s in
    let W : ℕ → ℕ → Cell × Value = λ b x. into (write (P0 b) x) in
    let x : ℕ → ℕ → ℕ = λ k b. inverted_by k (nibble (quad p b)) in
    (λ j. retired (put_all cells ((W 0 (x m 0) ∷ (early new s).0 j) ++ (W 1 (x m 1) ∷ (late new s).0 j) ++ (W 2 (x n 2) ∷ (early new s).1 j)
    ++ (W 3 (x n 3) ∷ (late new s).1 j)) s))
    ∙ ap (λ ws. retired (put_all cells (W 0 (x m 0) ∷ W 1 (x m 1) ∷ ws) s))
    (append_assoc (mask_after Mask01 m new) (W 2 (x n 2) ∷ []) (W 3 (x n 3) ∷ mask_after Mask23 n new))
    ∙ (λ j. retired (put_all cells
    ((W 0 (inverted_low m (p 0 0) (p 0 1) (p 0 2) (p 0 3) (quad p 1) j)
    ∷ W 1 (inverted_high m (p 0 0) (p 0 1) (p 0 2) (p 0 3) (p 1 0) (p 1 1) (p 1 2) (p 1 3) j) ∷ mask_after Mask01 m new)
    ++ (W 2 (inverted_low n (p 2 0) (p 2 1) (p 2 2) (p 2 3) (quad p 3) j)
    ∷ W 3 (inverted_high n (p 2 0) (p 2 1) (p 2 2) (p 2 3) (p 3 0) (p 3 1) (p 3 2) (p 3 3) j) ∷ mask_after Mask23 n new)) s))

-- COMPARISONS
abbrev pub tested : Size → (ℕ → ℕ → Bool) → List ℕ → List ℕ → List Bool → List Bool
tested z g v w active = both (filled z (paired_tests g (lanes z v) (lanes z w))) active

module _ (g : ℕ → ℕ → Bool) (s : State) (x y : ℕ → ℕ) where
  abbrev word_tested : Size → ℕ → List Bool
  word_tested z b = tested z g (bytes_of (x b)) (bytes_of (y b)) (active_at b s)

  -- the truth values of four words are those of their registers
  pub four_tested : (z : Size) (new : Option ℕ)
      → slices_whole (λ b. nibble (word_tested z b)) new s ≡ predicate_whole (tested z g (four x) (four y) (predicate_at s)) new s
  four_tested Byte new = by_halves (λ b j. get_or (word_tested Byte b) j false) new s
  four_tested Half new = by_halves (λ b j. get_or (word_tested Half b) j false) new s
  four_tested Word new = by_halves (λ b j. get_or (word_tested Word b) j false) new s

module _ (r : Comparison) (s : State) where
  abbrev first : ℕ → ℕ
  first b = at (word_place r.n.value b) s

  abbrev second : ℕ → ℕ
  second b = operand_at r.z r.by b s

  abbrev g : ℕ → ℕ → Bool
  g = compares r.c.value r.z

  seen : (b : ℕ) → compare_slice r (active_at b s) (values_at (compare_row r) b s) ≡ nibble (word_tested g s first second r.z b)
  seen b = ap (λ y. nibble (tested r.z g (bytes_of (first b)) (bytes_of y) (active_at b s))) (operand_is r.z r.by b s)

  pub compare_is : row_by_words (compare_row r) s ≡ predicate_whole (compare_result r s) (block_mask r.k.value) s
  compare_is =
      slices false (λ b. word_place r.n.value b ∷ operand_places r.by b) (λ b slice. compare_slice r) (block_mask r.k.value) s
      ∙ (λ j. slices_whole (λ b. seen b j) (block_mask r.k.value) s)
      ∙ four_tested g s first second r.z (block_mask r.k.value)
      ∙ sym (λ j. predicate_whole (tested r.z g (register_at r.n.value s) (operand_four r.z r.by s j) (predicate_at s)) (block_mask r.k.value) s)

-- THE FIRST ELEMENTS, AND P0 INVERTED
pub count_is : (r : Tail) (s : State) → row_by_words (count_row r) s ≡ predicate_whole (count_result r s) None s
count_is r s = slices false (λ b. R r.n.value ∷ []) (λ b slice. count_slice r b) None s
    ∙ by_halves (λ b j. get_or (both (counted r.z.value (at (R r.n.value) s) b) (active_at b s)) j false) None s

pub invert_is : (s : State) → row_by_words invert_row s ≡ predicate_whole (invert_result s) None s
invert_is s = slices true (λ b. []) (λ b slice active vs. nibble (both (negated (truths slice)) active)) None s
    ∙ by_halves (λ b j. get_or (both (negated (truths (at (P0 b) s))) (active_at b s)) j false) None s
