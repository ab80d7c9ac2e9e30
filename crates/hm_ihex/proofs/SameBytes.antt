-- Segments that touch made one are an image of the same bytes.
use Rattle.std.proofs.Common.{◌≡◌, ◌⊎◌, ℕ, ◌+◌, ◌-◌, ◌<◌, ◌≤◌, Bool, true, false, eqb, ltb, leb, cond, List, [], ◌∷◌, ◌++◌, All, length, length-append, get_or}
use Rattle.std.proofs.Common.{refl, sym, ap, ◌∙◌, inl, inr, arith}
use Rattle.std.specs.Prelude.{slice_index}
use Rattle.std.proofs.lemmas.List.{get_or-append-add, get_or_append_left}
use Rattle.std.proofs.lemmas.Bool.{and_from, and_left, and_right, cases_Bool, eqb-true, le-leb, lt-leb, lt-ltb, le-ltb}
use Rattle.std.proofs.lemmas.List.Elements.{All-cons, All-head, All-tail, All-weaker}
use Rattle.hm_base.specs.Image.{Before, IsImage, IsPlaced, Segment, covers, first_byte, flash_byte, flash_size, given, in_sram, segment, sram_size, sram_start}
use Rattle.hm_ihex.specs.Written.{joined, joined_to}

-- ---- the bytes

-- a segment covers an address from its first byte to its last
pub covered : (s : Segment) (a : ℕ) → s.addr ≤ a → a < s.addr + length s.bytes → covers s a ≡ true
covered s a low high = and_from (leb s.addr a) (ltb a (s.addr + length s.bytes)) (le-leb s.addr a low) (lt-ltb a (s.addr + length s.bytes) high)

pub early : (s : Segment) (a : ℕ) → a < s.addr → covers s a ≡ false
early s a low = and_left (leb s.addr a) (ltb a (s.addr + length s.bytes)) (lt-leb s.addr a low)

pub late : (s : Segment) (a : ℕ) → s.addr + length s.bytes ≤ a → covers s a ≡ false
late s a high = and_right (leb s.addr a) (ltb a (s.addr + length s.bytes)) (le-ltb a (s.addr + length s.bytes) high)

-- where an address lies by a segment
pub place : (s : Segment) (a : ℕ) → (a < s.addr) ⊎ ((s.addr ≤ a) × (a < s.addr + length s.bytes)) ⊎ (s.addr + length s.bytes ≤ a)
place s a = grind arith

given_in : (s : Segment) (ss : List Segment) (blank a : ℕ) → s.addr ≤ a → a < s.addr + length s.bytes
    → given (s ∷ ss) blank a ≡ slice_index s.bytes (a - s.addr)
given_in s ss blank a low high = rw (covered s a low high) refl

given_out : (s : Segment) (ss : List Segment) (blank a : ℕ) → covers s a ≡ false → given (s ∷ ss) blank a ≡ given ss blank a
given_out s ss blank a out = rw out refl

-- two segments that touch, and the one that they make
touching : (b c : ℕ) (xs ys : List ℕ) (ts : List Segment) (blank a : ℕ) → c ≡ b + length xs
    → given (segment b (xs ++ ys) ∷ ts) blank a ≡ given (segment b xs ∷ segment c ys ∷ ts) blank a
touching b c xs ys ts blank a is = elim (place (segment b xs) a) [
  | inl low ↦ given_out (segment b (xs ++ ys)) ts blank a (early (segment b (xs ++ ys)) a low)
      ∙ sym (given_out (segment b xs) (segment c ys ∷ ts) blank a (early (segment b xs) a low)
      ∙ given_out (segment c ys) ts blank a (early (segment c ys) a (omega arith)))
  | inr (inl mid) ↦
      let low : b ≤ a = mid.0 in
      let high : a < b + length xs = mid.1 in
      let count : length (xs ++ ys) ≡ length xs + length ys = length-append xs ys in
      given_in (segment b (xs ++ ys)) ts blank a low (omega arith) ∙ get_or_append_left xs ys 0 (a - b) (omega arith)
      ∙ sym (given_in (segment b xs) (segment c ys ∷ ts) blank a low high)
  | inr (inr past) ↦
      let front = given_out (segment b xs) (segment c ys ∷ ts) blank a (late (segment b xs) a past) in
      let count : length (xs ++ ys) ≡ length xs + length ys = length-append xs ys in
      elim (place (segment c ys) a) [
        | inl low ↦ absurd (omega arith)
        | inr (inl mid) ↦
            let low : c ≤ a = mid.0 in
            let high : a < c + length ys = mid.1 in
            let from : a - b ≡ length xs + (a - c) = omega arith in
            given_in (segment b (xs ++ ys)) ts blank a (omega arith) (omega arith) ∙ ap (λ (k : ℕ). get_or (xs ++ ys) k 0) from
            ∙ get_or-append-add xs ys (a - c) 0
            ∙ sym (front ∙ given_in (segment c ys) ts blank a low high)
        | inr (inr end) ↦
            let last : c + length ys ≤ a = end in
            given_out (segment b (xs ++ ys)) ts blank a (late (segment b (xs ++ ys)) a (omega arith))
            ∙ sym (front ∙ given_out (segment c ys) ts blank a (late (segment c ys) a last))
      ]
]

given_to : (s : Segment) (ss : List Segment) (blank a : ℕ) → given (joined_to s ss) blank a ≡ given (s ∷ ss) blank a
given_to s [] blank a = refl
given_to s (t ∷ ts) blank a = elim (cases_Bool (eqb t.addr (s.addr + length s.bytes))) [
  | inl e ↦ ap (λ (x : Bool). given (cond x (segment s.addr (s.bytes ++ t.bytes) ∷ ts) (s ∷ t ∷ ts)) blank a) e
      ∙ touching s.addr t.addr s.bytes t.bytes ts blank a (eqb-true t.addr (s.addr + length s.bytes) e)
  | inr e ↦ ap (λ (x : Bool). given (cond x (segment s.addr (s.bytes ++ t.bytes) ∷ ts) (s ∷ t ∷ ts)) blank a) e
]

pub given_joined : (image : List Segment) (blank a : ℕ) → given (joined image) blank a ≡ given image blank a
given_joined [] blank a = refl
given_joined (s ∷ ss) blank a = given_to s (joined ss) blank a
    ∙ ap (λ (n : ℕ). cond (covers s a) (slice_index s.bytes (a - s.addr)) n) (given_joined ss blank a)

pub same_bytes_is : (image : List Segment) → IsImage image → (a : ℕ)
    → (flash_byte (joined image) a ≡ flash_byte image a) × (first_byte (joined image) a ≡ first_byte image a)
same_bytes_is image is a = (
  ap (λ (n : ℕ). cond (ltb a flash_size) n 255) (given_joined image 255 a),
  (λ i. cond (ltb a flash_size) (given_joined image 255 a i) (cond (in_sram a) (given_joined image 0 a i) 0)),
)

-- ---- the image

-- one segment that touches the next does so in the same area
together : (s t : Segment) → IsPlaced s → IsPlaced t → t.addr ≡ s.addr + length s.bytes → IsPlaced (segment s.addr (s.bytes ++ t.bytes))
together s t (some, inl h) (more, inl g) is =
    let count : length (s.bytes ++ t.bytes) ≡ length s.bytes + length t.bytes = length-append s.bytes t.bytes in
    (omega arith, inl (omega arith))
together s t (some, inl h) (more, inr g) is = let low : sram_start ≤ t.addr = g.0 in absurd (omega arith)
together s t (some, inr h) (more, inl g) is = let low : sram_start ≤ s.addr = h.0 in absurd (omega arith)
together s t (some, inr h) (more, inr g) is =
    let count : length (s.bytes ++ t.bytes) ≡ length s.bytes + length t.bytes = length-append s.bytes t.bytes in
    let low : sram_start ≤ s.addr = h.0 in
    let high : t.addr + length t.bytes ≤ sram_start + sram_size = g.1 in
    (omega arith, inr (low, omega arith))

abbrev Behind : ℕ → Segment → Type 0
Behind p t = p ≤ t.addr

behind_to : (p : ℕ) (s : Segment) (ss : List Segment) → p ≤ s.addr → All (Behind p) ss → All (Behind p) (joined_to s ss)
behind_to p s [] low h = All-cons (Behind p) s [] low h
behind_to p s (t ∷ ts) low h =
    elim (eqb t.addr (s.addr + length s.bytes)) as (λ x. All (Behind p) (cond x (segment s.addr (s.bytes ++ t.bytes) ∷ ts) (s ∷ t ∷ ts))) [
      | true ↦ All-cons (Behind p) (segment s.addr (s.bytes ++ t.bytes)) ts low (All-tail (Behind p) t ts h)
      | false ↦ All-cons (Behind p) s (t ∷ ts) low h
    ]

behind_joined : (p : ℕ) (ss : List Segment) → All (Behind p) ss → All (Behind p) (joined ss)
behind_joined p [] h = h
behind_joined p (s ∷ ss) h = behind_to p s (joined ss) (All-head (Behind p) s ss h) (behind_joined p ss (All-tail (Behind p) s ss h))

image_to : (s : Segment) (ss : List Segment) → IsPlaced s → All (Before s) ss → IsImage ss → IsImage (joined_to s ss)
image_to s [] placed behind is = (placed, behind, is)
image_to s (t ∷ ts) placed behind is = elim (cases_Bool (eqb t.addr (s.addr + length s.bytes))) [
  | inl e ↦
      let touch = eqb-true t.addr (s.addr + length s.bytes) e in
      let count : length (s.bytes ++ t.bytes) ≡ length s.bytes + length t.bytes = length-append s.bytes t.bytes in
      let last : s.addr + length (s.bytes ++ t.bytes) ≡ t.addr + length t.bytes = omega arith in
      rw e (together s t placed is.0 touch, All-weaker (Before t) (Before (segment s.addr (s.bytes ++ t.bytes))) (λ u h. omega arith) ts is.1, is.2)
  | inr e ↦ rw e (placed, behind, is)
]

pub is_image_is : (image : List Segment) → IsImage image → IsImage (joined image)
is_image_is [] is = is
is_image_is (s ∷ ss) is = image_to s (joined ss) is.0 (behind_joined (s.addr + length s.bytes) ss is.1) (is_image_is ss is.2)
