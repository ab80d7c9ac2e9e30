-- One byte of SRAM, and memories that are the same in every byte.
use Rattle.std.proofs.Common.{◌≡◌, ℕ, ◌+◌, ◌<◌, arith, Bool, true, false, sym, refl, ◌∙◌, [], length, get_or}
use Rattle.std.specs.Prelude.{nat_eq, if◌then◌else◌}
use Rattle.std.proofs.lemmas.Bool.Decides.{nat_tests}
use Rattle.std.proofs.lemmas.List.{get_or_default, same_lists}
use Rattle.hm_base.specs.Image.{in_sram, sram_size, sram_start}
use Rattle.hm_mem.specs.Memory.{Memory, byte_at, tainted_at}
use Rattle.hm_mem.specs.Seen.{Seen, after_store}
use Rattle.hm_undo.specs.Undo.{IsSameBut}

module _ (s : Seen) (t : Bool) (a x b : ℕ) (place : in_sram a ≡ true) where
  pub laid_byte : x < 256 → (after_store t 1 a x s).byte b ≡ (if nat_eq b a then x else s.byte b)
  laid_byte small = grind (arith, nat_tests, place, small)

  pub laid_taint : (after_store t 1 a x s).taint b ≡ (if nat_eq b a then t else s.taint b)
  laid_taint = grind (arith, nat_tests, place)

-- ONE MEMORY
sram_at : (m : Memory) (k : ℕ) → k < sram_size → byte_at m (sram_start + k) ≡ get_or m.sram k 0
sram_at m k h = grind (arith, nat_tests, h)

taint_at : (m : Memory) (k : ℕ) → k < sram_size → tainted_at m (sram_start + k) ≡ get_or m.taint k false
taint_at m k h = grind (arith, nat_tests, h)

pub one_memory : (m n : Memory) → length n.sram ≡ length m.sram → length n.taint ≡ length m.taint → length m.sram ≡ sram_size → length m.taint ≡ sram_size
    → IsSameBut [] m n → n ≡ m
one_memory m n sram taint bytes marks h =
    let one = same_lists n.sram m.sram sram (λ k d lt.
    let inside : k < sram_size = omega (arith, sram, bytes, lt) in
    get_or_default n.sram k d 0 lt ∙ sym (sram_at n k inside) ∙ h.bytes (sram_start + k) refl ∙ sram_at m k inside
    ∙ sym (get_or_default m.sram k d 0 (omega (arith, sram, lt)))) in
    let two = same_lists n.taint m.taint taint (λ k d lt.
    let inside : k < sram_size = omega (arith, taint, marks, lt) in
    get_or_default n.taint k d false lt ∙ sym (taint_at n k inside) ∙ h.taint (sram_start + k) refl ∙ taint_at m k inside
    ∙ sym (get_or_default m.taint k d false (omega (arith, taint, lt)))) in
    λ j. record { flash = h.elsewhere.flash j; sram = one j; taint = two j; devices = h.devices j; around = h.elsewhere.around j }
