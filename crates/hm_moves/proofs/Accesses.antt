-- Accesses to the memory, and the bytes of the state.
use Rattle.std.proofs.Common.{◌≡◌, ℕ, ◌+◌, ◌*◌, ◌/◌, ◌%◌, ◌^◌, ◌<◌, Bool, true, false, not, ◌||◌, ◌&&◌, Option, Some, None, refl, ◌∙◌, ap, arith}
use Rattle.std.specs.Prelude.{if◌then◌else◌}
use Rattle.std.proofs.lemmas.Bool.Decides.{nat_tests}
use Rattle.std.proofs.lemmas.Nat.{shr-shr}
use Rattle.hm_base.specs.declared.FaultKind.{FaultKind}
use Rattle.hm_base.specs.declared.FaultKind.TheVariants as kind
use Rattle.hm_lane.specs.declared.lanes.Size.{Size}
use Rattle.hm_mem.specs.declared.Access.TheVariants.{Vector}
use Rattle.hm_mem.specs.Devices.{byte_of, has_width, in_devices, device_word}
use Rattle.hm_mem.specs.Seen.{fault_kind, is_unaligned, lies_in_flash, lies_in_memory, lies_in_sram}
use Rattle.hm_mem.proofs.Stops.{no_word}
use Rattle.hm_moves.specs.Moves.{byte_count}

-- WHERE A VECTOR ACCESS LIES THAT HAS NO FAULT
some_none : {A P : Type 0} {x : A} → Some x ≡ None → P
some_none e = cc

-- tests one after another, none of which held
not_taken : (b : Bool) (k : FaultKind) (o : Option FaultKind) → (if b then Some k else o) ≡ None → (b ≡ false) × (o ≡ None)
not_taken true k o e = some_none e
not_taken false k o e = (refl, e)

pub in_memory : (thread store : Bool) (len a : ℕ) → fault_kind thread Vector store len a ≡ None
    → (lies_in_memory len a ≡ true) × ((store && lies_in_flash len a) ≡ false)
in_memory thread store len a h =
    let one = not_taken (is_unaligned Vector len a) kind.Unaligned _ h in
    let two = not_taken (true && in_devices a) kind.DeviceVector _ one.1 in
    let three = not_taken (not (lies_in_memory len a || has_width (device_word a) len)) kind.Bus _ two.1 in
    let four = not_taken (store && lies_in_flash len a) kind.FlashWrite _ three.1 in
    (lies (lies_in_memory len a) (has_width (device_word a) len) three.0 (ap (λ w. has_width w len) (no_word a two.0)), four.0)
  where
    lies : (p q : Bool) → not (p || q) ≡ false → q ≡ false → p ≡ true
    lies true q e f = refl
    lies false true e f = cc
    lies false false e f = cc

pub in_sram : (thread : Bool) (len a : ℕ) → fault_kind thread Vector true len a ≡ None → lies_in_sram len a ≡ true
in_sram thread len a h = let both = in_memory thread true len a h in right (lies_in_flash len a) (lies_in_sram len a) both.0 both.1
  where
    right : (p q : Bool) → (p || q) ≡ true → (true && p) ≡ false → q ≡ true
    right true q e f = cc
    right false q e f = e

-- addresses within the memory do not go past the last
pub within : (z : Size) (a k : ℕ) → lies_in_memory (byte_count z) a ≡ true → k < byte_count z → (a + k) % 2 ^ 32 ≡ a + k
within z a k h l = grind (arith, nat_tests)

-- a byte of a shifted word
pub shifted_byte : (w lane k : ℕ) → byte_of (w / 2 ^ (8 * lane)) k ≡ byte_of w (lane + k)
shifted_byte w lane k = ap (λ x. x % 256) (shr-shr w (8 * lane) (8 * k) ∙ ap (λ n. w / 2 ^ n) (omega arith))
