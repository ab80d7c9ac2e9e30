-- An image that is joined from pieces is an image, and holds each byte of the pieces at its address.
use Rattle.std.proofs.Common.{◌≡◌, ◌⊎◌, ℕ, ◌+◌, ◌-◌, ◌<◌, ◌≤◌, true, false, cond, eqb, leb, ltb, List, [], ◌∷◌, ◌++◌, length, get_or, All, refl, ap, ◌∙◌, inl}
use Rattle.std.proofs.Common.{inr, arith}
use Rattle.std.specs.Prelude.{◌&&◌}
use Rattle.std.specs.List.{AllByRecursion}
use Rattle.std.proofs.lemmas.Bool.{cases_Bool, cases_lt, eqb-true, eqb-false}
use Rattle.std.proofs.lemmas.Bool.Decides.{nat_tests}
use Rattle.std.proofs.lemmas.List.{get_or_append_left, get_or-append_right, length-append}
use Rattle.std.proofs.lemmas.List.Elements.{All-nil, All-cons, All-head, All-tail, All-weaker}
use Rattle.hm_base.specs.Image.{Segment, segment, Before, IsImage, IsPlaced, covers, given}
use Rattle.hm_source.specs.Places.{HasRoom}
use Rattle.hm_asm.specs.Segments.{HasExactly, joined, with_piece}
use Rattle.hm_asm.proofs.Joined.{AreRising, joined_from, onto_apart, onto_next}
use Rattle.hm_asm.proofs.Made.{room_placed}

-- TESTS of an address against n bytes at a
within : (a n x : ℕ) → a ≤ x → x < a + n → (leb a x && ltb x (a + n)) ≡ true
within a n x h l = grind (arith, nat_tests)

below : (a n x : ℕ) → x < a → (leb a x && ltb x (a + n)) ≡ false
below a n x h = grind (arith, nat_tests)

above : (a n x : ℕ) → a + n ≤ x → (leb a x && ltb x (a + n)) ≡ false
above a n x h = grind (arith, nat_tests)

-- bytes, and those that follow them
both_given : (a c x r : ℕ) (bs cs : List ℕ) → a + length bs ≡ c
    → cond (leb a x && ltb x (a + length (bs ++ cs))) (get_or (bs ++ cs) (x - a) 0) r
    ≡ cond (leb a x && ltb x (a + length bs)) (get_or bs (x - a) 0) (cond (leb c x && ltb x (c + length cs)) (get_or cs (x - c) 0) r)
both_given a c x r bs cs e =
    let lengths = length-append bs cs in
    elim (cases_lt x a) [
      | inl l ↦ rw (below a (length (bs ++ cs)) x l, below a (length bs) x l, below c (length cs) x (omega (arith, l, e))) refl
      | inr h ↦ elim (cases_lt x c) [
        | inl l ↦ rw (within a (length (bs ++ cs)) x h (omega (arith, l, e, lengths)), within a (length bs) x h (omega (arith, l, e)))
            (get_or_append_left bs cs 0 (x - a) (omega (arith, l, h, e)))
        | inr g ↦ elim (cases_lt x (c + length cs)) [
          | inl l ↦ rw (
            within a (length (bs ++ cs)) x h (omega (arith, l, e, lengths)),
            above a (length bs) x (omega (arith, g, e)),
            within c (length cs) x g l,
          )
              (get_or-append_right bs cs (length bs) (x - a) 0 refl (omega (arith, g, e))
              ∙ ap (λ (n : ℕ). get_or cs n 0) (let f : x - a - length bs ≡ x - c = omega (arith, e, g) in f))
          | inr o ↦ rw (above a (length (bs ++ cs)) x (omega (arith, o, e, lengths)), above a (length bs) x (omega (arith, g, e)), above c (length cs) x o) refl
        ]
      ]
    ]

piece_given : (a : ℕ) (bs : List ℕ) (ss : List Segment) (blank x : ℕ) → given (with_piece a bs ss) blank x ≡ given (segment a bs ∷ ss) blank x
piece_given a [] ss blank x = rw (none_covered a x) refl
  where
    none_covered : (b y : ℕ) → (leb b y && ltb y (b + 0)) ≡ false
    none_covered b y = grind (arith, nat_tests)
piece_given a (b ∷ bs) [] blank x = refl
piece_given a (b ∷ bs) (s ∷ ss) blank x = elim (cases_Bool (eqb (a + length (b ∷ bs)) s.addr)) [
  | inl e ↦ ap (λ (is : List Segment). given is blank x) (onto_next a b bs s ss (eqb-true _ _ e))
      ∙ both_given a s.addr x (given ss blank x) (b ∷ bs) s.bytes (eqb-true _ _ e)
  | inr e ↦ ap (λ (is : List Segment). given is blank x) (onto_apart a b bs s ss (eqb-false _ _ e))
]

-- each address has the byte that the pieces give
pub joined_given : (ps : List Segment) (blank x : ℕ) → given (joined ps) blank x ≡ given ps blank x
joined_given [] blank x = refl
joined_given (p ∷ ps) blank x =
    piece_given p.addr p.bytes (joined ps) blank x ∙ ap (λ (r : ℕ). cond (covers p x) (get_or p.bytes (x - p.addr) 0) r) (joined_given ps blank x)

none_given : (ps : List Segment) (blank x : ℕ) → All (λ p. covers p x ≡ false) ps → given ps blank x ≡ blank
none_given [] blank x none = refl
none_given (p ∷ ps) blank x none = rw (All-head (λ q. covers q x ≡ false) p ps none) (none_given ps blank x (All-tail (λ q. covers q x ≡ false) p ps none))

-- a piece behind an address, with its bytes where they are given
abbrev Stands : List Segment → ℕ → Segment → Type 0
Stands ps a p = (a ≤ p.addr) × ((blank k : ℕ) → k < length p.bytes → given ps blank (p.addr + k) ≡ get_or p.bytes k 0)

each_given : (a : ℕ) (ps : List Segment) → AreRising a ps → All (Stands ps a) ps
each_given a [] rising = All-nil (Stands [] a)
each_given a (p ∷ ps) rising =
    All-cons (Stands (p ∷ ps) a) p ps (rising.0, first)
    (All-weaker (Stands ps (p.addr + length p.bytes)) (Stands (p ∷ ps) a) behind ps (each_given (p.addr + length p.bytes) ps rising.2))
  where
    first : (blank k : ℕ) → k < length p.bytes → given (p ∷ ps) blank (p.addr + k) ≡ get_or p.bytes k 0
    first blank k l =
        rw (within p.addr (length p.bytes) (p.addr + k) (omega arith) (omega (arith, l)))
        (ap (λ (n : ℕ). get_or p.bytes n 0) (let f : p.addr + k - p.addr ≡ k = omega arith in f))

    behind : (q : Segment) → Stands ps (p.addr + length p.bytes) q → Stands (p ∷ ps) a q
    behind q s =
        (omega (arith, s.0, rising.0), λ blank k l. rw (above p.addr (length p.bytes) (q.addr + k) (omega (arith, s.0))) (s.1 blank k l))

pub holds : (a : ℕ) (ps : List Segment) → AreRising a ps → HasExactly (joined ps) ps
holds a ps rising = record {
  each =
      All-weaker (Stands ps a) (λ p. (blank k : ℕ) → k < length p.bytes → given (joined ps) blank (p.addr + k) ≡ get_or p.bytes k 0)
      (λ p s blank k l. joined_given ps blank (p.addr + k) ∙ s.1 blank k l) ps (each_given a ps rising);
  nothing_else = λ blank x none. joined_given ps blank x ∙ none_given ps blank x none;
}

-- IMAGES
placed_both : (a : ℕ) (b : ℕ) (bs : List ℕ) (s : Segment) → a + length (b ∷ bs) ≡ s.addr → HasRoom a (length (b ∷ bs)) → IsPlaced s
    → IsPlaced (segment a ((b ∷ bs) ++ s.bytes))
placed_both a b bs s e room placed = go room placed.1
  where
    lengths : length ((b ∷ bs) ++ s.bytes) ≡ length (b ∷ bs) + length s.bytes
    lengths = length-append (b ∷ bs) s.bytes

    some : 0 < length ((b ∷ bs) ++ s.bytes)
    some = omega (arith, lengths)

    go : HasRoom a (length (b ∷ bs)) → (s.addr + length s.bytes ≤ 0x100000) ⊎ ((0x20000000 ≤ s.addr) × (s.addr + length s.bytes ≤ 0x20040000))
        → IsPlaced (segment a ((b ∷ bs) ++ s.bytes))
    go (inl z) p = absurd (omega (arith, z))
    go (inr (inl f)) (inl g) = (some, inl (omega (arith, lengths, e, g)))
    go (inr (inl f)) (inr g) = absurd (omega (arith, e, f, g.0))
    go (inr (inr r)) (inl g) = absurd (omega (arith, e, r.0, g))
    go (inr (inr r)) (inr g) = (some, inr (r.0, omega (arith, lengths, e, g.1)))

pub image_piece : (a : ℕ) (bs : List ℕ) (ss : List Segment) → HasRoom a (length bs) → AllByRecursion (λ s. a + length bs ≤ s.addr) ss → IsImage ss
    → IsImage (with_piece a bs ss)
image_piece a [] ss room all image = image
image_piece a (b ∷ bs) [] room all image = (room_placed a (b ∷ bs) (omega arith) room, All-nil (Before (segment a (b ∷ bs))), tt)
image_piece a (b ∷ bs) (s ∷ ss) room all image = elim (cases_Bool (eqb (a + length (b ∷ bs)) s.addr)) [
  | inl e ↦
      (let next = eqb-true _ _ e in
      let lengths = length-append (b ∷ bs) s.bytes in
      rw (onto_next a b bs s ss next) (
        placed_both a b bs s next room image.0,
        All-weaker (Before s) (Before (segment a ((b ∷ bs) ++ s.bytes))) (λ t h. omega (arith, lengths, next, h)) ss image.1,
        image.2,
      ))
  | inr e ↦
      rw (onto_apart a b bs s ss (eqb-false _ _ e)) (
        room_placed a (b ∷ bs) (omega arith) room,
        All-cons (Before (segment a (b ∷ bs))) s ss all.0 (All-weaker (Before s) (Before (segment a (b ∷ bs))) (λ t h. omega (arith, all.0, h)) ss image.1),
        image,
      )
]

pub joined_image : (a : ℕ) (ps : List Segment) → AreRising a ps → IsImage (joined ps)
joined_image a [] rising = tt
joined_image a (p ∷ ps) rising =
    image_piece p.addr p.bytes (joined ps) rising.1 (joined_from (p.addr + length p.bytes) ps rising.2) (joined_image (p.addr + length p.bytes) ps rising.2)
