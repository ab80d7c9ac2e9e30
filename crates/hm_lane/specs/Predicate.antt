-- Which bytes an instruction writes, and how the masks advance.
use Rattle.std.specs.Prelude.{ℕ, ◌+◌, ◌-◌, ◌*◌, ◌%◌, ◌^◌, Bool, true, false, ◌&&◌, ◌||◌, not, eqb, ltb, leb, cond, List, [], ◌∷◌, ◌++◌, map, if◌then◌else◌}
use Rattle.std.specs.Int.{bit_at}
use Rattle.hm_base.specs.declared.Place.{Place}
use Rattle.hm_base.specs.declared.Place.TheVariants.{R, QWord, P0, Mask01, Mask23, Ltp}
use Rattle.hm_regs.specs.declared.Regs.{Regs}
use Rattle.hm_regs.specs.Place.{value_at}
use Rattle.hm_regs.specs.Writes.{Write, write}
use Rattle.hm_lane.specs.Lanes.{bytes_of, word_of, merged}

-- the place of the mask for word b
abbrev pub mask_place : ℕ → Place
mask_place b = cond (ltb b 2) Mask01 Mask23

-- bit j of a slice of P0 lets its byte be written, where the half has a mask
abbrev pub allowed : ℕ → ℕ → ℕ → Bool
allowed mask slice j = eqb mask 0 || eqb (bit_at slice j) 1

-- byte k is within the elements that are left: `left` ones of the size that LTPSIZE says
abbrev pub remains : ℕ → ℕ → ℕ → Bool
remains size left k = cond (ltb size 4 && leb left (2 ^ (4 - size))) (ltb k (left * 2 ^ size)) true

-- the active bytes of word b, by the mask of its half, LTPSIZE, lr and the slice of P0
abbrev pub active_bytes : ℕ → ℕ → ℕ → ℕ → ℕ → List Bool
active_bytes b mask size left slice =
    (allowed mask slice 0 && remains size left (4 * b + 0)) ∷ (allowed mask slice 1 && remains size left (4 * b + 1))
    ∷ (allowed mask slice 2 && remains size left (4 * b + 2)) ∷ (allowed mask slice 3 && remains size left (4 * b + 3)) ∷ []

-- whether the lowest byte is active
abbrev pub first : List Bool → Bool
first [] = false
first (p ∷ ps) = p

-- what the advance after beat b writes: the slice of P0 inverted where the mask is greater than 8, and after
-- the second beat of a half its mask shifted left
abbrev pub advance_of : ℕ → ℕ → ℕ → List Write
advance_of b mask slice =
    cond (ltb 8 mask) (write (P0 b) (15 - slice) ∷ []) []
    ++ cond (eqb (b % 2) 1 && not (eqb mask 0)) (write (mask_place b) (2 * mask) ∷ []) []

-- THE SAME OF THE REGISTERS
-- the mask of the half that word b is in: MASK01 or MASK23 of VPR
abbrev pub mask_of : ℕ → Regs → ℕ
mask_of b s = value_at (mask_place b) s

-- whether VPR lets byte j of word b be written: its half has no mask, or its bit of P0 is set
abbrev pub mask_bit : Regs → ℕ → ℕ → Bool
mask_bit s b j = allowed (mask_of b s) (value_at (P0 b) s) j

-- whether byte k of a vector register is within the elements that are left, by LTPSIZE and lr
abbrev pub in_tail : Regs → ℕ → Bool
in_tail s k = remains (value_at Ltp s) (value_at (R 14) s) k

-- whether byte j of word b is active: VPR lets it be written, and it is within the elements that are left
abbrev pub active : Regs → ℕ → ℕ → Bool
active s b j = mask_bit s b j && in_tail s (4 * b + j)

-- of each of the four bytes of word b whether it is active, as the registers stand
abbrev pub active_word : Regs → ℕ → List Bool
active_word s b = active_bytes b (mask_of b s) (value_at Ltp s) (value_at (R 14) s) (value_at (P0 b) s)

-- what the advance after beat b writes, as the registers stand
abbrev pub advance_writes : ℕ → Regs → List Write
advance_writes b s = advance_of b (mask_of b s) (value_at (P0 b) s)

-- whether nothing is predicated: neither half has a mask, and no elements are counted
abbrev pub is_unpredicated : Regs → Bool
is_unpredicated s = eqb (mask_of 0 s) 0 && eqb (mask_of 2 s) 0 && leb 4 (value_at Ltp s)

-- the four truth values that a number of 16 bits has for word b
abbrev pub bits_of_word : ℕ → ℕ → List Bool
bits_of_word p b = eqb (bit_at p (4 * b)) 1 ∷ eqb (bit_at p (4 * b + 1)) 1 ∷ eqb (bit_at p (4 * b + 2)) 1 ∷ eqb (bit_at p (4 * b + 3)) 1 ∷ []

-- the truth values that a number of 16 bits has for all four words
abbrev pub truths_of : ℕ → List Bool
truths_of p = bits_of_word p 0 ++ bits_of_word p 1 ++ bits_of_word p 2 ++ bits_of_word p 3

-- THE PREDICATE OF A VECTOR REGISTER
-- byte k is active: its half has no mask or its bit of P0 is set, and it is within the elements that are left
abbrev pub byte_active : Regs → ℕ → Bool
byte_active s k = allowed (value_at (cond (ltb k 8) Mask01 Mask23) s) s.vpr k && in_tail s k

-- the predicate of a vector register: whether each of its 16 bytes is active
abbrev pub predicate_of : Regs → List Bool
predicate_of s = map (byte_active s) (0 ∷ 1 ∷ 2 ∷ 3 ∷ 4 ∷ 5 ∷ 6 ∷ 7 ∷ 8 ∷ 9 ∷ 10 ∷ 11 ∷ 12 ∷ 13 ∷ 14 ∷ 15 ∷ [])

-- WHAT THE END OF A BEAT WRITES
-- word b of vector register d merged with new bytes, and then the advance
abbrev pub finish_writes : ℕ → ℕ → ℕ → Regs → List Write
finish_writes d b new s = write (QWord (4 * d + b)) (word_of (merged (active_word s b) (bytes_of (value_at (QWord (4 * d + b)) s)) (bytes_of new)))
    ∷ advance_writes b s

-- the places that the predicate of word b is read from, as the registers stand
abbrev pub predicate_places : ℕ → Regs → List Place
predicate_places b s = mask_place b ∷ Ltp ∷ (cond (ltb (value_at Ltp s) 4) (R 14 ∷ []) [] ++ cond (not (eqb (mask_of b s) 0)) (P0 b ∷ []) [])

-- the places that the advance after beat b writes, as the registers stand
abbrev pub advance_places : ℕ → Regs → List Place
advance_places b s = cond (ltb 8 (mask_of b s)) (P0 b ∷ []) [] ++ cond (eqb (b % 2) 1 && not (eqb (mask_of b s) 0)) (mask_place b ∷ []) []

-- the context of the vector registers, made where there is none
abbrev pub with_context : Regs → Regs
with_context s = if s.fpca then s else record s { fpca = true; vpr = 0; fpscr = 0x00040000 }
