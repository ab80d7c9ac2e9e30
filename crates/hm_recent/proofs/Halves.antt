-- What stands at an address, by the halfword there and the next one.
use Rattle.std.proofs.Common.{◌≡◌, ℕ, ◌+◌, ◌%◌, ◌≤◌, arith, Bool, cond, true, false, ap, subst, sym, ◌∙◌, List, [], ◌∷◌}
use Rattle.std.proofs.Common.{Option, Some, None, IfSome}
use Rattle.std.proofs.lemmas.Bool.Decides.{nat_tests}
use Rattle.hm_base.specs.Image.{flash_size}
use Rattle.hm_codes.proofs.Unique.{one_half, two_halves}
use Rattle.hm_codes.specs.Listing.{HalvesStand, Stands, half_at, is_long}
use Rattle.hm_recent.specs.Halves.{code_of}
use Rattle.hm_isa.specs.Code.{halfwords}
use Rattle.hm_isa.specs.declared.Instr.{Instr}
use Rattle.hm_mem.specs.Memory.{Memory, flash_at, half_told}

module _ (flash : ℕ → ℕ) (a first second : ℕ) (i : Instr) (here : HalvesStand flash (first ∷ second ∷ []) a) where
  coded : (b : Bool) → is_long (half_at flash a) ≡ b → Stands flash a i → halfwords i ≡ cond b (first ∷ second ∷ []) (first ∷ [])
  coded false short stands = one_half flash a i stands short ∙ (λ j. here.1 j ∷ [])
  coded true long stands = (two_halves flash a i stands long).1 ∙ (λ j. here.1 j ∷ here.2.1 j ∷ [])

  -- the code of what stands there
  pub stands_coded : Stands flash a i → halfwords i ≡ code_of first second
  stands_coded stands = coded (is_long first) (ap is_long here.1) stands

  standing : (b : Bool) → HalvesStand flash (cond b (first ∷ second ∷ []) (first ∷ [])) a
  standing false = (here.0, here.1, tt)
  standing true = here

  -- an instruction of this code stands there
  pub coded_stands : a % 2 ≡ 0 → halfwords i ≡ code_of first second → Stands flash a i
  coded_stands even code = record { even = even; code = subst (λ (hs : List ℕ). HalvesStand flash hs a) (sym code) (standing (is_long first)) }

-- WHAT FLASH TELLS of a halfword
told_here : (m : Memory) (a h : ℕ) → half_told m a ≡ Some h → (a % 2 ≡ 0) × (a + 2 ≤ flash_size)
told_here m a h told = (grind (arith, nat_tests, told), grind (arith, nat_tests, told))

module _ (m : Memory) (a : ℕ) where
  -- where it tells of one the address is even
  pub told_even : (r : Option (ℕ × ℕ)) → IfSome r (λ h. half_told m a ≡ Some h.0) → IfSome r (λ h. a % 2 ≡ 0)
  told_even (Some h) first = (told_here m a h.0 first).0
  told_even None first = tt

  -- it and the next one stand there
  pub told_stand : (r : Option (ℕ × ℕ)) → IfSome r (λ h. half_told m a ≡ Some h.0) → IfSome r (λ h. half_told m (a + 2) ≡ Some h.1)
      → IfSome r (λ h. (h.0 ≡ half_at (flash_at m) a) × (h.1 ≡ half_at (flash_at m) (a + 2))) → IfSome r (λ h. HalvesStand (flash_at m) (h.0 ∷ h.1 ∷ []) a)
  told_stand (Some h) first second flash =
      ((told_here m a h.0 first).1, sym flash.0, ((told_here m (a + 2) h.1 second).1, sym flash.1, tt))
  told_stand None first second flash = tt
