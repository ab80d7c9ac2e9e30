-- What forms do to whole registers is what they do word by word.
use Rattle.std.proofs.Common.{◌≡◌, ℕ, zero, suc, ◌+◌, ◌*◌, ◌/◌, ◌%◌, ◌^◌, ◌<◌, Bool, true, false, not, ◌||◌, cond, eqb, nat_eq, List, [], ◌∷◌, ◌++◌, map}
use Rattle.std.proofs.Common.{reverse, Option, None, refl, sym, ◌∙◌, ap, arith, ltb-true, eqb-true}
use Rattle.hm_base.specs.declared.Place.{Place}
use Rattle.hm_base.specs.declared.Place.TheVariants.{R, P0}
use Rattle.hm_isa.specs.declared.fields.Below.{Below}
use Rattle.hm_isa.specs.declared.vectors.V6.{V6}
use Rattle.hm_isa.specs.declared.vectors.V9.{V9}
use Rattle.hm_isa.specs.declared.vectors.V14.{V14}
use Rattle.hm_isa.specs.declared.vectors.V15.{V15}
use Rattle.hm_isa.specs.declared.vectors.Select.{Select}
use Rattle.hm_isa.specs.declared.vectors.ReverseName.{ReverseName}
use Rattle.hm_isa.specs.declared.vectors.ReverseName.TheVariants as rev
use Rattle.hm_isa.specs.Rules.{is_reversed}
use Rattle.hm_lane.specs.declared.lanes.Size.{Size}
use Rattle.hm_lane.specs.declared.lanes.Size.TheVariants.{Byte, Half, Word}
use Rattle.hm_lane.specs.Lanes.{bytes_of, lanes, merged, paired, per_word, unlanes, word_of}
use Rattle.hm_regs.specs.Writes.{write}
use Rattle.hm_state.specs.Store.{put_all}
use Rattle.hm_state.specs.State.{At, Cell, State, Value, at, cells, into}
use Rattle.hm_beat.specs.Rows.{advance_half, predicate_at, register_at, retired, word_place, write_register}
use Rattle.hm_beat.proofs.Whole.{put_all-append}
use Rattle.hm_kinds.specs.Row.{Row, numbers, outs_at, row_by_words, slice_at, values_at}
use Rattle.hm_lane_fns.specs.Words.{size_of, truths}
use Rattle.hm_forms_elements.specs.declared.widening.Widening.{Widening}
use Rattle.hm_forms_elements.specs.declared.offsets.Steps.{Steps}
use Rattle.hm_forms_elements.specs.Forms.{constant_new, constant_row, every_second, exchanged, in_turn, widened, widening_new, widening_row, offset_after}
use Rattle.hm_forms_elements.specs.Forms.{offsets_from, offsets_row, other_word, reversed_at, reversed_new, reversed_row, reversed_word, select_new, select_row}
use Rattle.hm_forms_elements.specs.Forms.{round_of, round_places, product, complex_sum_at, complex_sum_lane, complex_sum_new, complex_sum_row, long_product_at}
use Rattle.hm_forms_elements.specs.Forms.{long_product_new, long_product_row, long_product_word, words_row}
use Rattle.hm_lane_fns.specs.Registers.{advancing, merges}
use Rattle.hm_forms_elements.specs.Registers.{constant_result, in_groups, long_bytes, widening_result, offsets_writes, reversed_result}
use Rattle.hm_forms_elements.specs.Registers.{round_at, select_result, complex_sum_result, long_product_result}
use Rattle.hm_lane_fns.proofs.Lanewise.{advances, bytes_of-word, four}

-- the four words of a row that merges a word on each beat
abbrev words_result : Bool → ℕ → (ℕ → List Place) → (ℕ → ℕ → List ℕ → ℕ) → State → List ℕ
words_result w d sources f s = let row = words_row w d sources f None in four (λ b. f b (slice_at row b s) (values_at row b s))

-- a register merges 16 bytes, and the masks advance
abbrev merged_whole : ℕ → List ℕ → State → State
merged_whole d result s = advancing (merges d result s) s

module _ (w : Bool) (d : ℕ) (sources : ℕ → List Place) (f : ℕ → ℕ → List ℕ → ℕ) (s : State) where
  abbrev this_row : Row
  this_row = words_row w d sources f None

  -- a row that merges words merges the bytes of the four
  pub words_whole : row_by_words this_row s ≡ merged_whole d (words_result w d sources f s) s
  words_whole = λ j. retired (advances this_row s
      (put_all cells (outs_at this_row 0 s (this_row.outs 0) ++ outs_at this_row 1 s (this_row.outs 1) ++ outs_at this_row 2 s (this_row.outs 2)
      ++ outs_at this_row 3 s (this_row.outs 3)) s) refl refl j)

-- NEIGHBOURS
abbrev pub complex_sum_list : (Bool → ℕ → ℕ → ℕ) → Size → Bool → List ℕ → List ℕ → List ℕ
complex_sum_list f z even v w = unlanes z (in_turn f even (lanes z v) (exchanged (lanes z w)))

-- the bytes of one word are those of the word that they make
complex_sum_back : (f : Bool → ℕ → ℕ → ℕ) (z : Size) (even : Bool) (x y : ℕ)
    → complex_sum_list f z even (bytes_of x) (bytes_of y) ≡ bytes_of (word_of (complex_sum_list f z even (bytes_of x) (bytes_of y)))
complex_sum_back f Byte even x y = bytes_of-word _ _ _ _ (omega arith) (omega arith) (omega arith) (omega arith)
complex_sum_back f z even x y = bytes_of-word _ _ _ _ (omega arith) (omega arith) (omega arith) (omega arith)

pub complex_sum_words : (z : ℕ) → z < 3 → (f : Bool → ℕ → ℕ → ℕ) (x y : ℕ → ℕ) → complex_sum_list f (size_of z) true (four x) (four y)
    ≡ four (λ b. word_of (complex_sum_list f (size_of z) (not (nat_eq z 2) || eqb (b % 2) 0) (bytes_of (x b))
    (bytes_of (y (cond (nat_eq z 2) (other_word b) b)))))
complex_sum_words zero h f x y =
    λ j. complex_sum_back f Byte true (x 0) (y 0) j ++ complex_sum_back f Byte true (x 1) (y 1) j ++ complex_sum_back f Byte true (x 2) (y 2) j
    ++ complex_sum_back f Byte true (x 3) (y 3) j
complex_sum_words (suc zero) h f x y =
    λ j. complex_sum_back f Half true (x 0) (y 0) j ++ complex_sum_back f Half true (x 1) (y 1) j ++ complex_sum_back f Half true (x 2) (y 2) j
    ++ complex_sum_back f Half true (x 3) (y 3) j
complex_sum_words (suc (suc zero)) h f x y =
    λ j. complex_sum_back f Word true (x 0) (y 1) j ++ complex_sum_back f Word false (x 1) (y 0) j ++ complex_sum_back f Word true (x 2) (y 3) j
    ++ complex_sum_back f Word false (x 3) (y 2) j
complex_sum_words (suc (suc (suc z))) h f x y = absurd (omega arith)

pub complex_sum_is : (r : V9) (s : State) → row_by_words (complex_sum_row r) s ≡ merged_whole r.d.value (complex_sum_result r s) s
complex_sum_is r s = words_whole false r.d.value (λ b. word_place r.n.value b ∷ word_place r.m.value (complex_sum_at r b) ∷ []) (λ b slice. complex_sum_new r b)
    s
    ∙ ap (λ u. merged_whole r.d.value u s)
    (sym (complex_sum_words r.z.value r.z.in_range (complex_sum_lane r (size_of r.z.value)) (λ b. at (word_place r.n.value b) s)
    (λ b. at (word_place r.m.value b) s)))

-- ELEMENTS IN REVERSE
abbrev pub reverse_word : ReverseName → Size → ℕ → List ℕ
reverse_word name z x = unlanes z (reverse (lanes z (bytes_of x)))

reverse_back : (name : ReverseName) (z : Size) (x : ℕ) → reverse_word name z x ≡ bytes_of (word_of (reverse_word name z x))
reverse_back name Byte x = bytes_of-word _ _ _ _ (omega arith) (omega arith) (omega arith) (omega arith)
reverse_back name z x = bytes_of-word _ _ _ _ (omega arith) (omega arith) (omega arith) (omega arith)

mod_mod : (a : ℕ) → a % 256 % 256 ≡ a % 256
mod_mod a = omega arith

swapped_back : (x : ℕ) → unlanes Byte (exchanged (bytes_of x)) ≡ bytes_of (word_of (exchanged (bytes_of x)))
swapped_back x = (λ j. mod_mod (x / 256) j ∷ mod_mod x j ∷ mod_mod (x / 16777216) j ∷ mod_mod (x / 65536) j ∷ [])
    ∙ bytes_of-word _ _ _ _ (omega arith) (omega arith) (omega arith) (omega arith)

pub reversed_words : (name : ReverseName) (z d m : ℕ) → z < 3 → is_reversed name z d m ≡ true → (x : ℕ → ℕ)
    → unlanes (size_of z) (in_groups name (size_of z) (lanes (size_of z) (four x))) ≡ four (λ b. reversed_word name (size_of z) (x (reversed_at name b)))
reversed_words rev.Rev64 zero d m h rule x =
    λ j. reverse_back rev.Rev64 Byte (x 1) j ++ reverse_back rev.Rev64 Byte (x 0) j ++ reverse_back rev.Rev64 Byte (x 3) j
    ++ reverse_back rev.Rev64 Byte (x 2) j
reversed_words rev.Rev64 (suc zero) d m h rule x =
    λ j. reverse_back rev.Rev64 Half (x 1) j ++ reverse_back rev.Rev64 Half (x 0) j ++ reverse_back rev.Rev64 Half (x 3) j
    ++ reverse_back rev.Rev64 Half (x 2) j
reversed_words rev.Rev64 (suc (suc zero)) d m h rule x =
    λ j. reverse_back rev.Rev64 Word (x 1) j ++ reverse_back rev.Rev64 Word (x 0) j ++ reverse_back rev.Rev64 Word (x 3) j
    ++ reverse_back rev.Rev64 Word (x 2) j
reversed_words rev.Rev32 zero d m h rule x =
    λ j. reverse_back rev.Rev32 Byte (x 0) j ++ reverse_back rev.Rev32 Byte (x 1) j ++ reverse_back rev.Rev32 Byte (x 2) j
    ++ reverse_back rev.Rev32 Byte (x 3) j
reversed_words rev.Rev32 (suc zero) d m h rule x =
    λ j. reverse_back rev.Rev32 Half (x 0) j ++ reverse_back rev.Rev32 Half (x 1) j ++ reverse_back rev.Rev32 Half (x 2) j
    ++ reverse_back rev.Rev32 Half (x 3) j
reversed_words rev.Rev32 (suc (suc z)) d m h rule x = let low = ltb-true (suc (suc z)) 2 rule in absurd (omega arith)
reversed_words rev.Rev16 zero d m h rule x = λ j. swapped_back (x 0) j ++ swapped_back (x 1) j ++ swapped_back (x 2) j ++ swapped_back (x 3) j
reversed_words rev.Rev16 (suc z) d m h rule x = let none = eqb-true (suc z) 0 rule in absurd (omega arith)
reversed_words rev.Rev64 (suc (suc (suc z))) d m h rule x = absurd (omega arith)

pub reversed_is : (r : V14) (s : State) → row_by_words (reversed_row r) s ≡ merged_whole r.d.value (reversed_result r s) s
reversed_is r s = words_whole false r.d.value (λ b. word_place r.m.value (reversed_at r.name b) ∷ []) (λ b slice. reversed_new r) s
    ∙ ap (λ u. merged_whole r.d.value u s) (sym (reversed_words r.name r.z.value r.d.value r.m.value r.z.in_range r.rule (λ b. at (word_place r.m.value b) s)))

-- LANES WIDENED
abbrev pub every : (ℕ → ℕ) → Bool → Size → Size → List ℕ → List ℕ
every f odd z wide v = unlanes wide (map f (every_second odd (lanes z v)))

every_byte : (f : ℕ → ℕ) (odd : Bool) (x : ℕ) → every f odd Byte Half (bytes_of x) ≡ bytes_of (word_of (every f odd Byte Half (bytes_of x)))
every_byte f odd x = bytes_of-word _ _ _ _ (omega arith) (omega arith) (omega arith) (omega arith)

every_half : (f : ℕ → ℕ) (odd : Bool) (x : ℕ) → every f odd Half Word (bytes_of x) ≡ bytes_of (word_of (every f odd Half Word (bytes_of x)))
every_half f odd x = bytes_of-word _ _ _ _ (omega arith) (omega arith) (omega arith) (omega arith)

pub widening_words : (halves : Bool) (f : Size → ℕ → ℕ) (odd : Bool) (x : ℕ → ℕ)
    → cond halves (every (f Half) odd Half Word (four x)) (every (f Byte) odd Byte Half (four x))
    ≡ four (λ b. cond halves (word_of (every (f Half) odd Half Word (bytes_of (x b)))) (word_of (every (f Byte) odd Byte Half (bytes_of (x b)))))
widening_words true f odd x = λ j. every_half (f Half) odd (x 0) j ++ every_half (f Half) odd (x 1) j ++ every_half (f Half) odd (x 2) j
    ++ every_half (f Half) odd (x 3) j
widening_words false f odd x =
    λ j. every_byte (f Byte) odd (x 0) j ++ every_byte (f Byte) odd (x 1) j ++ every_byte (f Byte) odd (x 2) j ++ every_byte (f Byte) odd (x 3) j

pub widening_is : (r : Widening) (s : State) → row_by_words (widening_row r) s ≡ merged_whole r.d.value (widening_result r s) s
widening_is r s = words_whole false r.d.value (λ b. word_place r.m.value b ∷ []) (λ b slice. widening_new r) s
    ∙ ap (λ u. merged_whole r.d.value u s) (sym (widening_words r.halves (widened r) r.odd (λ b. at (word_place r.m.value b) s)))

-- PRODUCTS
abbrev pub pairs : (ℕ → ℕ → ℕ) → Bool → Size → Size → List ℕ → List ℕ → List ℕ
pairs f odd z wide v w = unlanes wide (paired f (every_second odd (lanes z v)) (every_second odd (lanes z w)))

pub pairs_byte : (f : ℕ → ℕ → ℕ) (odd : Bool) (x y : ℕ)
    → pairs f odd Byte Half (bytes_of x) (bytes_of y) ≡ bytes_of (word_of (pairs f odd Byte Half (bytes_of x) (bytes_of y)))
pairs_byte f odd x y = bytes_of-word _ _ _ _ (omega arith) (omega arith) (omega arith) (omega arith)

pub pairs_half : (f : ℕ → ℕ → ℕ) (odd : Bool) (x y : ℕ)
    → pairs f odd Half Word (bytes_of x) (bytes_of y) ≡ bytes_of (word_of (pairs f odd Half Word (bytes_of x) (bytes_of y)))
pairs_half f odd x y = bytes_of-word _ _ _ _ (omega arith) (omega arith) (omega arith) (omega arith)

module _ (r : V6) (s : State) where
  -- the new word of beat b, if this were the size
  abbrev pub long_product_of : ℕ → ℕ → ℕ
  long_product_of z b =
      let k = cond (nat_eq z 2) (2 * (b / 2) + r.t.value) b in
      long_product_word r (size_of z) b (at (word_place r.n.value k) s) (at (word_place r.m.value k) s)

  by_size : row_by_words (long_product_row r) s ≡ merged_whole r.d.value (four (long_product_of r.z.value)) s
  by_size = words_whole false r.d.value (λ b. word_place r.n.value (long_product_at r b) ∷ word_place r.m.value (long_product_at r b) ∷ [])
      (λ b slice. long_product_new r b) s

  abbrev pub first : ℕ → ℕ
  first b = at (word_place r.n.value b) s

  abbrev pub second : ℕ → ℕ
  second b = at (word_place r.m.value b) s

  long_product_bytes : r.z.value ≡ 0 → row_by_words (long_product_row r) s ≡ merged_whole r.d.value (long_product_result r Byte s) s
  long_product_bytes e =
      let odd = nat_eq r.t.value 1 in
      by_size ∙ (λ j. merged_whole r.d.value (four (long_product_of (e j))) s)
      ∙ ap (λ u. merged_whole r.d.value u s) (sym (λ j. pairs_byte (product r) odd (first 0) (second 0) j ++ pairs_byte (product r) odd (first 1) (second 1) j
      ++ pairs_byte (product r) odd (first 2) (second 2) j ++ pairs_byte (product r) odd (first 3) (second 3) j))

  long_product_halves : r.z.value ≡ 1 → row_by_words (long_product_row r) s ≡ merged_whole r.d.value (long_product_result r Half s) s
  long_product_halves e =
      let odd = nat_eq r.t.value 1 in
      by_size ∙ (λ j. merged_whole r.d.value (four (long_product_of (e j))) s)
      ∙ ap (λ u. merged_whole r.d.value u s) (sym (λ j. pairs_half (product r) odd (first 0) (second 0) j ++ pairs_half (product r) odd (first 1) (second 1) j
      ++ pairs_half (product r) odd (first 2) (second 2) j ++ pairs_half (product r) odd (first 3) (second 3) j))

-- products of words
low : (v : ℕ) → bytes_of (v % 2 ^ 32) ≡ bytes_of v
low v =
    let a : v % 2 ^ 32 % 256 ≡ v % 256 = omega arith in
    let b : v % 2 ^ 32 / 256 % 256 ≡ v / 256 % 256 = omega arith in
    let c : v % 2 ^ 32 / 65536 % 256 ≡ v / 65536 % 256 = omega arith in
    let d : v % 2 ^ 32 / 16777216 % 256 ≡ v / 16777216 % 256 = omega arith in
    cc (a, b, c, d)

pub long_words : (t : ℕ) → t < 2 → (p : ℕ → ℕ → ℕ) (x y : ℕ → ℕ) → (let v : ℕ → ℕ = λ b. p (x (2 * (b / 2) + t)) (y (2 * (b / 2) + t)) in
    four (λ b. cond (eqb (b % 2) 0) (v b % 2 ^ 32) (v b / 2 ^ 32))
    ≡ long_bytes (paired p (every_second (nat_eq t 1) (x 0 ∷ x 1 ∷ x 2 ∷ x 3 ∷ [])) (every_second (nat_eq t 1) (y 0 ∷ y 1 ∷ y 2 ∷ y 3 ∷ []))))
long_words zero h p x y = λ j. low (p (x 0) (y 0)) j ++ bytes_of (p (x 0) (y 0) / 2 ^ 32) ++ low (p (x 2) (y 2)) j ++ bytes_of (p (x 2) (y 2) / 2 ^ 32)
long_words (suc zero) h p x y = λ j. low (p (x 1) (y 1)) j ++ bytes_of (p (x 1) (y 1) / 2 ^ 32) ++ low (p (x 3) (y 3)) j ++ bytes_of (p (x 3) (y 3) / 2 ^ 32)
long_words (suc (suc t)) h p x y = absurd (omega arith)

long_product_words : (r : V6) (s : State) → r.z.value ≡ 2 → row_by_words (long_product_row r) s ≡ merged_whole r.d.value (long_product_result r Word s) s
long_product_words r s e =
    by_size r s ∙ (λ j. merged_whole r.d.value (four (long_product_of r s (e j))) s)
    ∙ ap (λ u. merged_whole r.d.value u s)
    (long_words r.t.value r.t.in_range (product r) (λ b. at (word_place r.n.value b) s) (λ b. at (word_place r.m.value b) s))

pub long_product_is : (r : V6) (s : State) → row_by_words (long_product_row r) s ≡ merged_whole r.d.value (long_product_result r (size_of r.z.value) s) s
long_product_is r s = by_value r.z.value r.z.in_range refl
  where
    by_value : (z : ℕ) → z < 3 → r.z.value ≡ z → row_by_words (long_product_row r) s ≡ merged_whole r.d.value (long_product_result r (size_of r.z.value) s) s
    by_value zero h e = long_product_bytes r s e ∙ ap (λ z. merged_whole r.d.value (long_product_result r (size_of z) s) s) (sym e)
    by_value (suc zero) h e = long_product_halves r s e ∙ ap (λ z. merged_whole r.d.value (long_product_result r (size_of z) s) s) (sym e)
    by_value (suc (suc zero)) h e = long_product_words r s e ∙ ap (λ z. merged_whole r.d.value (long_product_result r (size_of z) s) s) (sym e)
    by_value (suc (suc (suc z))) h e = absurd (omega arith)

-- CONSTANTS
pub constant_is : (r : V15) (s : State) → row_by_words (constant_row r) s ≡ merged_whole r.d.value (constant_result r s) s
constant_is r s = words_whole false r.d.value (λ b. []) (λ b slice. constant_new r b) s

-- A CHOICE
pub one_of : (p : Bool) (a b : ℕ) → a < 256 → b < 256 → cond p a b < 256
one_of true a b h i = h
one_of false a b h i = i

pub chosen_back : (p q r t : Bool) (x y : ℕ) → (let l = merged (p ∷ q ∷ r ∷ t ∷ []) (bytes_of y) (bytes_of x) in bytes_of (word_of l) ≡ l)
chosen_back p q r t x y = sym (bytes_of-word _ _ _ _ (one_of p _ _ (omega arith) (omega arith)) (one_of q _ _ (omega arith) (omega arith))
    (one_of r _ _ (omega arith) (omega arith)) (one_of t _ _ (omega arith) (omega arith)))

pub select_is : (r : Select) (s : State) → row_by_words (select_row r) s ≡ merged_whole r.d.value (select_result r s) s
select_is r s = words_whole true r.d.value (λ b. word_place r.n.value b ∷ word_place r.m.value b ∷ []) (λ b. select_new) s
    ∙ ap (λ u. merged_whole r.d.value u s) (λ j. word 0 j ++ word 1 j ++ word 2 j ++ word 3 j)
  where
    word : (b : ℕ) → (let l = merged (truths (at (P0 b) s)) (bytes_of (at (word_place r.m.value b) s)) (bytes_of (at (word_place r.n.value b) s)) in
        bytes_of (word_of l) ≡ l)
    word b = chosen_back _ _ _ _ (at (word_place r.n.value b) s) (at (word_place r.m.value b) s)

-- OFFSETS
-- the offsets of one word, and of four
abbrev pub run_from : Steps → Size → Option ℕ → ℕ → List ℕ
run_from r z m o = unlanes z (offsets_from r m (per_word z) o)

run_back : (r : Steps) (z : Size) (m : Option ℕ) (o : ℕ) → run_from r z m o ≡ bytes_of (word_of (run_from r z m o))
run_back r Byte m o = bytes_of-word _ _ _ _ (omega arith) (omega arith) (omega arith) (omega arith)
run_back r z m o = bytes_of-word _ _ _ _ (omega arith) (omega arith) (omega arith) (omega arith)

pub offsets_words : (r : Steps) (z : Size) (m : Option ℕ) (o : ℕ)
    → unlanes z (offsets_from r m (4 * per_word z) o) ≡ four (λ b. word_of (run_from r z m (offset_after r m (per_word z * b) o)))
offsets_words r Byte m o = λ j. run_back r Byte m o j ++ run_back r Byte m (offset_after r m 4 o) j ++ run_back r Byte m (offset_after r m 8 o) j
    ++ run_back r Byte m (offset_after r m 12 o) j
offsets_words r Half m o = λ j. run_back r Half m o j ++ run_back r Half m (offset_after r m 2 o) j ++ run_back r Half m (offset_after r m 4 o) j
    ++ run_back r Half m (offset_after r m 6 o) j
offsets_words r Word m o = λ j. run_back r Word m o j ++ run_back r Word m (offset_after r m 1 o) j ++ run_back r Word m (offset_after r m 2 o) j
    ++ run_back r Word m (offset_after r m 3 o) j

pub round_is : (o : Option (Below 6)) (s : State) → round_of (numbers (map s.cell (map At (round_places o)))) ≡ round_at o s
round_is o s = grind arith

module _ (r : Steps) (s : State) where
  abbrev steps : Row
  steps = offsets_row r

  abbrev base : ℕ
  base = at (R (2 * r.n.value)) s

  -- the four words and the register, where offsets go round at m, and the bytes that the words are made of
  abbrev offsets_put : Option ℕ → List ℕ → State
  offsets_put m result = put_all cells
      (write_register r.d.value (merged (predicate_at s) (register_at r.d.value s) result)
      ++ (into (write (R (2 * r.n.value)) (offset_after r m (4 * per_word r.z) base)) ∷ [])) s

  abbrev advanced_after : State → State
  advanced_after x = retired (put_all cells (advance_half 0 s ++ advance_half 2 s) x)

  by_words : row_by_words steps s
      ≡ advanced_after (put_all cells
      (outs_at steps 0 s (steps.outs 0) ++ outs_at steps 1 s (steps.outs 1) ++ outs_at steps 2 s (steps.outs 2) ++ outs_at steps 3 s (steps.outs 3)) s)
  by_words = λ j. retired (advances steps s
      (put_all cells (outs_at steps 0 s (steps.outs 0) ++ outs_at steps 1 s (steps.outs 1) ++ outs_at steps 2 s (steps.outs 2)
      ++ outs_at steps 3 s (steps.outs 3)) s) refl refl j)

  abbrev limit : Option ℕ
  limit = round_of (numbers (map s.cell (map At (round_places r.round))))

  as_put : put_all cells (outs_at steps 0 s (steps.outs 0) ++ outs_at steps 1 s (steps.outs 1) ++ outs_at steps 2 s (steps.outs 2)
      ++ outs_at steps 3 s (steps.outs 3)) s
      ≡ offsets_put limit (four (λ b. word_of (run_from r r.z limit (offset_after r limit (per_word r.z * b) base))))
  as_put = refl

  pub offsets_is : row_by_words steps s ≡ advancing (offsets_writes r s) s
  offsets_is = by_words ∙ ap advanced_after as_put
      ∙ (λ j. advanced_after (offsets_put (round_is r.round s j)
      (four (λ b. word_of (run_from r r.z (round_is r.round s j) (offset_after r (round_is r.round s j) (per_word r.z * b) base))))))
      ∙ ap (λ u. advanced_after (put_all cells
      (merges r.d.value u s ++ (into (write (R (2 * r.n.value)) (offset_after r (round_at r.round s) (4 * per_word r.z) base)) ∷ [])) s))
      (sym (offsets_words r r.z (round_at r.round s) base))
      ∙ ap retired (put_all-append first second (put_all cells ws s)
      ∙ sym (put_all-append (ws ++ first) second s ∙ ap (put_all cells second) (put_all-append ws first s)))
    where
      ws : List (Cell × Value)
      ws = offsets_writes r s

      first : List (Cell × Value)
      first = advance_half 0 s

      second : List (Cell × Value)
      second = advance_half 2 s
