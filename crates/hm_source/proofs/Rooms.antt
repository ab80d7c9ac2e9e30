-- Room for bytes in two parts.
use Rattle.std.proofs.Common.{ℕ, ◌+◌, ◌<◌, inl, inr, arith}
use Rattle.hm_source.specs.Places.{HasRoom}

pub room_front : (a n m : ℕ) → HasRoom a (n + m) → HasRoom a n
room_front a n m h = elim h [
  | inl e ↦ inl (omega (arith, e))
  | inr r ↦ elim r [ inl f ↦ inr (inl (omega (arith, f))) | inr s ↦ inr (inr (s.0, omega (arith, s.1))) ]
]

pub room_behind : (a n m : ℕ) → HasRoom a (n + m) → HasRoom (a + n) m
room_behind a n m h = elim h [
  | inl e ↦ inl (omega (arith, e))
  | inr r ↦ elim r [ inl f ↦ inr (inl (omega (arith, f))) | inr s ↦ inr (inr (omega (arith, s.0), omega (arith, s.1))) ]
]

-- and back
pub room_after_some : (a n m : ℕ) → 0 < n → HasRoom a n → HasRoom (a + n) m → HasRoom a (n + m)
room_after_some a n m some h k = elim h [
  | inl e ↦ absurd (omega (arith, e, some))
  | inr r ↦ elim r [
    | inl f ↦ elim k [
      | inl e ↦ inr (inl (omega (arith, f, e)))
      | inr t ↦ elim t [ inl g ↦ inr (inl (omega (arith, g))) | inr g ↦ absurd (omega (arith, f, g.0)) ]
    ]
    | inr s ↦ elim k [
      | inl e ↦ inr (inr (s.0, omega (arith, s.1, e)))
      | inr t ↦ elim t [ inl g ↦ absurd (omega (arith, s.0, g)) | inr g ↦ inr (inr (s.0, omega (arith, g.1))) ]
    ]
  ]
]
