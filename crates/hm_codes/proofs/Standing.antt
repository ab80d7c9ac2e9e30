-- Halfwords that stand in flash, and that an instruction has one or two.
use Rattle.std.proofs.Common.{◌≡◌, ℕ, ◌+◌, ◌*◌, ◌≤◌, ◌⊎◌, List, [], ◌∷◌, ◌++◌, length, refl, subst, arith, inl, inr}
use Rattle.hm_base.specs.Image.{flash_size}
use Rattle.hm_isa.specs.Code.{halfwords, halves_by_width}
use Rattle.hm_isa.specs.Widths.{by_width}
use Rattle.hm_isa.specs.declared.Instr.{Instr}
use Rattle.hm_isa.specs.declared.widths.ByWidth.{ByWidth}
use Rattle.hm_isa.specs.declared.widths.ByWidth.TheVariants as by
use Rattle.hm_codes.specs.Listing.{HalvesStand}

-- the first of halfwords that stand, and the others
pub halves_front : (flash : ℕ → ℕ) (hs ks : List ℕ) (a : ℕ) → HalvesStand flash (hs ++ ks) a → HalvesStand flash hs a
halves_front flash [] ks a h = tt
halves_front flash (x ∷ hs) ks a h = (h.0, h.1, halves_front flash hs ks (a + 2) h.2)

pub halves_behind : (flash : ℕ → ℕ) (hs ks : List ℕ) (a : ℕ) → HalvesStand flash (hs ++ ks) a → HalvesStand flash ks (a + 2 * length hs)
halves_behind flash [] ks a h = let e : a ≡ a + 2 * 0 = omega arith in subst (HalvesStand flash ks) e h
halves_behind flash (x ∷ hs) ks a h =
    let e : a + 2 + 2 * length hs ≡ a + 2 * length (x ∷ hs) = omega arith in
    subst (HalvesStand flash ks) e (halves_behind flash hs ks (a + 2) h.2)

-- they lie in flash
pub halves_within : (flash : ℕ → ℕ) (hs : List ℕ) (a : ℕ) → HalvesStand flash hs a → 1 ≤ length hs → a + 2 * length hs ≤ flash_size
halves_within flash [] a h some = absurd (omega (arith, some))
halves_within flash (k ∷ []) a h some = let first = h.0 in omega (arith, first)
halves_within flash (k ∷ l ∷ hs) a h some = let rest = halves_within flash (l ∷ hs) (a + 2) h.2 (omega arith) in omega (arith, rest)

-- an instruction has one halfword or two
lengths_by : (w : ByWidth) → (length (halves_by_width w) ≡ 1) ⊎ (length (halves_by_width w) ≡ 2)
lengths_by (by.Narrow r) = inl refl
lengths_by w = inr refl

pub lengths : (i : Instr) → (length (halfwords i) ≡ 1) ⊎ (length (halfwords i) ≡ 2)
lengths i = lengths_by (by_width i)

pub some_halfword : (i : Instr) → 1 ≤ length (halfwords i)
some_halfword i = elim (lengths i) [ inl e ↦ omega (arith, e) | inr e ↦ omega (arith, e) ]
