-- Halfwords that stand at an address, as a line shows them.
use Rattle.std.proofs.Common.{◌≡◌, ℕ, ◌+◌, ◌*◌, ◌⊎◌, List, [], ◌∷◌, length, Some, None, arith, inl, inr, ◌∙◌}
use Rattle.hm_codes.specs.Listing.{half_at, HalvesStand, Stands}
use Rattle.hm_codes.proofs.Standing.{lengths}
use Rattle.hm_isa.specs.Code.{halfwords}
use Rattle.hm_isa.specs.declared.Instr.{Instr}
use Rattle.hm_listing.specs.Listings.{halves_from}

-- the one or two that stand at an address are those of the code
one_stands : (flash : ℕ → ℕ) (hs : List ℕ) (a : ℕ) → HalvesStand flash hs a → length hs ≡ 1 → halves_from (half_at flash a) None ≡ hs
one_stands flash [] a h n = absurd (omega (arith, n))
one_stands flash (k ∷ []) a h n = λ i. h.1 i ∷ []
one_stands flash (k ∷ l ∷ hs) a h n = absurd (omega (arith, n))

two_stand : (flash : ℕ → ℕ) (hs : List ℕ) (a second : ℕ) → HalvesStand flash hs a → length hs ≡ 2 → second ≡ half_at flash (a + 2)
    → halves_from (half_at flash a) (Some second) ≡ hs
two_stand flash [] a second h n is = absurd (omega (arith, n))
two_stand flash (k ∷ []) a second h n is = absurd (omega (arith, n))
two_stand flash (k ∷ l ∷ []) a second h n is = λ i. h.1 i ∷ (is ∙ h.2.1) i ∷ []
two_stand flash (k ∷ l ∷ m ∷ hs) a second h n is = absurd (omega (arith, n))

pub narrow_stands : (flash : ℕ → ℕ) (a : ℕ) (i : Instr) → Stands flash a i → 2 * length (halfwords i) ≡ 2 → halves_from (half_at flash a) None ≡ halfwords i
narrow_stands flash a i stands width = one_stands flash (halfwords i) a stands.code (omega (arith, width))

pub wide_stands : (flash : ℕ → ℕ) (a second : ℕ) (i : Instr) → Stands flash a i → (2 * length (halfwords i) ≡ 2 → ⊥) → second ≡ half_at flash (a + 2)
    → halves_from (half_at flash a) (Some second) ≡ halfwords i
wide_stands flash a second i stands not_two is = two_stand flash (halfwords i) a second stands.code (two (lengths i)) is
  where
    two : (length (halfwords i) ≡ 1) ⊎ (length (halfwords i) ≡ 2) → length (halfwords i) ≡ 2
    two (inl e) = absurd (not_two (omega (arith, e)))
    two (inr e) = e
