-- The segments that bytes make which stand at their addresses.
use Rattle.std.specs.Prelude.{◌≡◌, ◌<◌, ℕ, ◌+◌, false, List, [], ◌∷◌, ◌++◌, length, slice_index, All, ◌==◌, if◌then◌else◌}
use Rattle.hm_base.specs.Image.{Segment, segment, covers, given}

-- a piece in front of segments is one with the first, where that begins at its end
abbrev pub onto : Segment → List Segment → List Segment
onto p [] = p ∷ []
onto p (s ∷ ss) = if p.addr + length p.bytes == s.addr then segment p.addr (p.bytes ++ s.bytes) ∷ ss else p ∷ s ∷ ss

-- bytes at an address, in front of segments; none are left out
abbrev pub with_piece : ℕ → List ℕ → List Segment → List Segment
with_piece a [] ss = ss
with_piece a (b ∷ bs) ss = onto (segment a (b ∷ bs)) ss

-- pieces that follow each other make one segment
abbrev pub joined : List Segment → List Segment
joined [] = []
joined (p ∷ ps) = with_piece p.addr p.bytes (joined ps)

-- an image has each byte of the pieces at its address, and no byte where they have none
pub record HasExactly (image : List Segment) (pieces : List Segment) : Type 0 where
  pub each : All (λ p. (blank k : ℕ) → k < length p.bytes → given image blank (p.addr + k) ≡ slice_index p.bytes k) pieces
  pub nothing_else : (blank a : ℕ) → All (λ p. covers p a ≡ false) pieces → given image blank a ≡ blank
