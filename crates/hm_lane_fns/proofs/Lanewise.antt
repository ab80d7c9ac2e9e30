-- Lanes of whole registers are those of their words.
use Rattle.std.proofs.Common.{◌≡◌, ℕ, ◌+◌, ◌*◌, ◌/◌, ◌%◌, ◌<◌, Bool, true, false, cond, ◌&&◌, ◌||◌, eqb, get_or, List, [], ◌∷◌, ◌++◌, map, Some, None, refl}
use Rattle.std.proofs.Common.{sym, ◌∙◌, ap, arith}
use Rattle.std.proofs.Math.Bool.{or_assoc}
use Rattle.std.proofs.lemmas.List.{map-append}
use Rattle.hm_base.specs.declared.Place.TheVariants.{P0, R, Ltp}
use Rattle.hm_lane_fns.specs.declared.words.Operand.{Operand}
use Rattle.hm_lane_fns.specs.declared.words.Operand.TheVariants.{Vector, Scalar, Constant}
use Rattle.hm_lane.specs.declared.lanes.Size.{Size}
use Rattle.hm_lane.specs.declared.lanes.Size.TheVariants.{Byte, Half, Word}
use Rattle.hm_lane.specs.Lanes.{bytes_of, word_of}
use Rattle.hm_lane.specs.Predicate.{allowed, mask_place, remains}
use Rattle.hm_state.specs.Store.{put_all}
use Rattle.hm_state.specs.State.{At, Cell, State, Value, at, cells, into}
use Rattle.hm_beat.specs.Rows.{active_at, advance_half, predicate_at, word_place}
use Rattle.hm_beat.proofs.Predicated.{advance_at}
use Rattle.hm_beat.proofs.Whole.{advanced, put_all-append}
use Rattle.hm_kinds.specs.Row.{Row, ends_at, inverted_slice, marked, mask_writes, numbers, slice_at, slice_end, values_at}
use Rattle.hm_lane_fns.specs.Words.{any_both, lane_tests3, lanewise3, operand_of, operand_places, splat}
use Rattle.hm_lane_fns.specs.Registers.{in_each_lane, operand_register}

-- the bytes of four words
abbrev pub four : (ℕ → ℕ) → List ℕ
four x = bytes_of (x 0) ++ bytes_of (x 1) ++ bytes_of (x 2) ++ bytes_of (x 3)

-- four bytes are those of their word
pub bytes_of-word : (a b c d : ℕ) → a < 256 → b < 256 → c < 256 → d < 256 → a ∷ b ∷ c ∷ d ∷ [] ≡ bytes_of (a + 256 * b + 65536 * c + 16777216 * d)
bytes_of-word a b c d h i j k =
    let e : a ≡ (a + 256 * b + 65536 * c + 16777216 * d) % 256 = omega arith in
    let f : b ≡ (a + 256 * b + 65536 * c + 16777216 * d) / 256 % 256 = omega arith in
    let g : c ≡ (a + 256 * b + 65536 * c + 16777216 * d) / 65536 % 256 = omega arith in
    let l : d ≡ (a + 256 * b + 65536 * c + 16777216 * d) / 16777216 % 256 = omega arith in
    cc (e, f, g, l)

-- the lanes of one word make the bytes of a word
pub one_word : (z : Size) (f : ℕ → ℕ → ℕ → ℕ) (u x y : ℕ)
    → lanewise3 z f (bytes_of u) (bytes_of x) (bytes_of y) ≡ bytes_of (word_of (lanewise3 z f (bytes_of u) (bytes_of x) (bytes_of y)))
one_word Byte f u x y = bytes_of-word _ _ _ _ (omega arith) (omega arith) (omega arith) (omega arith)
one_word z f u x y = bytes_of-word _ _ _ _ (omega arith) (omega arith) (omega arith) (omega arith)

pub four_words : (z : Size) (f : ℕ → ℕ → ℕ → ℕ) (u v w : ℕ → ℕ) →
    lanewise3 z f (bytes_of (u 0) ++ bytes_of (u 1) ++ bytes_of (u 2) ++ bytes_of (u 3)) (bytes_of (v 0) ++ bytes_of (v 1) ++ bytes_of (v 2) ++ bytes_of (v 3))
    (bytes_of (w 0) ++ bytes_of (w 1) ++ bytes_of (w 2) ++ bytes_of (w 3))
    ≡ lanewise3 z f (bytes_of (u 0)) (bytes_of (v 0)) (bytes_of (w 0)) ++ lanewise3 z f (bytes_of (u 1)) (bytes_of (v 1)) (bytes_of (w 1))
    ++ lanewise3 z f (bytes_of (u 2)) (bytes_of (v 2)) (bytes_of (w 2)) ++ lanewise3 z f (bytes_of (u 3)) (bytes_of (v 3)) (bytes_of (w 3))
four_words Byte f u v w = refl
four_words Half f u v w = refl
four_words Word f u v w = refl

-- so are the tests of them
any_four : (p q r s a b c d : Bool) (ps ts : List Bool)
    → any_both (p ∷ q ∷ r ∷ s ∷ ps) (a ∷ b ∷ c ∷ d ∷ ts) ≡ (any_both (p ∷ q ∷ r ∷ s ∷ []) (a ∷ b ∷ c ∷ d ∷ []) || any_both ps ts)
any_four p q r s a b c d ps ts = go (p && a) (q && b) (r && c) (s && d) (any_both ps ts)
  where
    go : (w x y z v : Bool) → (w || (x || (y || (z || v)))) ≡ ((w || (x || (y || (z || false)))) || v)
    go w x y z v = grind arith

abbrev pub quad : (ℕ → ℕ → Bool) → ℕ → List Bool
quad p b = p b 0 ∷ p b 1 ∷ p b 2 ∷ p b 3 ∷ []

pub any_words : (p t : ℕ → ℕ → Bool) → any_both (quad p 0 ++ quad p 1 ++ quad p 2 ++ quad p 3) (quad t 0 ++ quad t 1 ++ quad t 2 ++ quad t 3)
    ≡ (any_both (quad p 0) (quad t 0) || any_both (quad p 1) (quad t 1) || any_both (quad p 2) (quad t 2) || any_both (quad p 3) (quad t 3))
any_words p t =
    let A : ℕ → Bool = λ b. any_both (quad p b) (quad t b) in
    any_four (p 0 0) (p 0 1) (p 0 2) (p 0 3) (t 0 0) (t 0 1) (t 0 2) (t 0 3) (quad p 1 ++ quad p 2 ++ quad p 3) (quad t 1 ++ quad t 2 ++ quad t 3)
    ∙ ap (λ v. A 0 || v) (any_four (p 1 0) (p 1 1) (p 1 2) (p 1 3) (t 1 0) (t 1 1) (t 1 2) (t 1 3) (quad p 2 ++ quad p 3) (quad t 2 ++ quad t 3)
    ∙ ap (λ v. A 1 || v) (any_four (p 2 0) (p 2 1) (p 2 2) (p 2 3) (t 2 0) (t 2 1) (t 2 2) (t 2 3) (quad p 3) (quad t 3)))
    ∙ sym (or_assoc (A 0) (A 1) (A 2 || A 3)) ∙ sym (or_assoc (A 0 || A 1) (A 2) (A 3))

-- whether byte j of word b is active
abbrev pub active_byte : State → ℕ → ℕ → Bool
active_byte s b j = allowed (at (mask_place b) s) (at (P0 b) s) j && remains (at Ltp s) (at (R 14) s) (4 * b + j)

pub tests_words : (z : Size) (g : ℕ → ℕ → ℕ → Bool) (u v w : ℕ → ℕ) (s : State) →
    any_both (predicate_at s) (lane_tests3 z g (bytes_of (u 0) ++ bytes_of (u 1) ++ bytes_of (u 2) ++ bytes_of (u 3))
    (bytes_of (v 0) ++ bytes_of (v 1) ++ bytes_of (v 2) ++ bytes_of (v 3))
    (bytes_of (w 0) ++ bytes_of (w 1) ++ bytes_of (w 2) ++ bytes_of (w 3)))
    ≡ (any_both (active_at 0 s) (lane_tests3 z g (bytes_of (u 0)) (bytes_of (v 0)) (bytes_of (w 0)))
    || any_both (active_at 1 s) (lane_tests3 z g (bytes_of (u 1)) (bytes_of (v 1)) (bytes_of (w 1)))
    || any_both (active_at 2 s) (lane_tests3 z g (bytes_of (u 2)) (bytes_of (v 2)) (bytes_of (w 2)))
    || any_both (active_at 3 s) (lane_tests3 z g (bytes_of (u 3)) (bytes_of (v 3)) (bytes_of (w 3))))
tests_words Byte g u v w s = any_words (active_byte s) (λ b j. get_or (lane_tests3 Byte g (bytes_of (u b)) (bytes_of (v b)) (bytes_of (w b))) j false)
tests_words Half g u v w s = any_words (active_byte s) (λ b j. get_or (lane_tests3 Half g (bytes_of (u b)) (bytes_of (v b)) (bytes_of (w b))) j false)
tests_words Word g u v w s = any_words (active_byte s) (λ b j. get_or (lane_tests3 Word g (bytes_of (u b)) (bytes_of (v b)) (bytes_of (w b))) j false)

pub marked_where : (x : Bool) (b : ℕ) (active : List Bool) (vs : List ℕ) (g : ℕ → List Bool → List ℕ → Bool)
    → marked b active vs (cond x (Some g) None) ≡ (x && g b active vs)
marked_where x b active vs g = grind arith

pub and_four : (x a b c d : Bool) → ((x && a) || (x && b) || (x && c) || (x && d)) ≡ (x && (a || b || c || d))
and_four x a b c d = grind arith

-- word b of the second operand
abbrev pub operand_at : Size → Operand → ℕ → State → ℕ
operand_at z (Vector q) b s = at (word_place q.value b) s
operand_at z (Scalar m) b s = cond (eqb m.value 15) 0 (splat z (at (R m.value) s))
operand_at z (Constant k) b s = splat z k

pub operand_is : (z : Size) (by : Operand) (b : ℕ) (s : State) → operand_of z by (numbers (map s.cell (map At (operand_places by b)))) ≡ operand_at z by b s
operand_is z (Vector q) b s = refl
operand_is z (Scalar m) b s = go (eqb m.value 15)
  where
    go : (x : Bool) → operand_of z (Scalar m) (numbers (map s.cell (map At (cond x [] (R m.value ∷ []))))) ≡ cond x 0 (splat z (at (R m.value) s))
    go x = grind arith
operand_is z (Constant k) b s = refl

-- a number in each lane is a word of it four times
splat_bytes : (z : Size) (x : ℕ) → in_each_lane z x ≡ four (λ b. splat z x)
splat_bytes Byte x =
    let one : x % 256 ∷ x % 256 ∷ x % 256 ∷ x % 256 ∷ [] ≡ bytes_of (x % 256 * 0x01010101) =
    bytes_of-word (x % 256) (x % 256) (x % 256) (x % 256) (omega arith) (omega arith) (omega arith) (omega arith) ∙ ap bytes_of (omega arith) in
    λ j. one j ++ one j ++ one j ++ one j
splat_bytes Half x =
    let one : x % 256 ∷ x / 256 % 256 ∷ x % 256 ∷ x / 256 % 256 ∷ [] ≡ bytes_of (x % 65536 * 0x00010001)
    = bytes_of-word (x % 256) (x / 256 % 256) (x % 256) (x / 256 % 256) (omega arith) (omega arith) (omega arith) (omega arith) ∙ ap bytes_of (omega arith) in
    λ j. one j ++ one j ++ one j ++ one j
splat_bytes Word x = refl

pub operand_four : (z : Size) (by : Operand) (s : State) → operand_register z by s ≡ four (λ b. operand_at z by b s)
operand_four z (Vector q) s = refl
operand_four z (Scalar m) s = splat_bytes z _ ∙ go (eqb m.value 15)
  where
    none : (y : Size) → splat y 0 ≡ 0
    none y = grind arith

    go : (x : Bool) → four (λ b. splat z (cond x 0 (at (R m.value) s))) ≡ four (λ b. cond x 0 (splat z (at (R m.value) s)))
    go true = ap (λ n. four (λ b. n)) (none z)
    go false = refl
operand_four z (Constant k) s = splat_bytes z k

-- the advances of the four words are those of the two halves
pub advances : (i : Row) (s x : State) → i.slice ≡ None → i.mask ≡ None
    → put_all cells (ends_at i 0 s ++ ends_at i 1 s ++ ends_at i 2 s ++ ends_at i 3 s) x ≡ put_all cells (advance_half 0 s ++ advance_half 2 s) x
advances i s x e f =
    let E : ℕ → List (Cell × Value) = λ b. map into (advance_at b s) in
    let same : (b : ℕ) → ends_at i b s ≡ E b
    = λ b. (λ j. map into (slice_end b (at (mask_place b) s) (inverted_slice b (at (mask_place b) s) (at (P0 b) s)) (slice_at i b s) (active_at b s)
    (values_at i b s) (e j))
    ++ map into (mask_writes b (at (mask_place b) s) (f j)))
    ∙ sym (map-append into (inverted_slice b (at (mask_place b) s) (at (P0 b) s)) (mask_writes b (at (mask_place b) s) None)) in
    (λ j. put_all cells (same 0 j ++ same 1 j ++ same 2 j ++ same 3 j) x)
    ∙ put_all-append (E 0 ++ E 1 ++ E 2) (E 3) x
    ∙ ap (put_all cells (E 3)) (put_all-append (E 0 ++ E 1) (E 2) x ∙ ap (put_all cells (E 2)) (put_all-append (E 0) (E 1) x))
    ∙ advanced s x
