-- The memory while a frame is written, and after an entry.
use Rattle.std.proofs.Common.{◌≡◌, ◌≢◌, ℕ, ◌+◌, ◌-◌, ◌<◌, Bool, true, false, get_or, arith, refl, ◌∙◌, ap}
use Rattle.std.specs.Prelude.{if◌then◌else◌, ◌&&◌, nat_eq}
use Rattle.std.proofs.lemmas.Bool.Decides.{nat_tests}
use Rattle.hm_exc.specs.Entry.{entered_memory}
use Rattle.hm_exc.specs.Frame.{frame_size}
use Rattle.hm_exc.specs.Written.{written}
use Rattle.hm_exc.specs.declared.types.Activation.{Activation}
use Rattle.hm_mem.proofs.Numbers.{one_seen}
use Rattle.hm_mem.specs.Devices.{byte_of}
use Rattle.hm_mem.specs.Memory.{Memory}
use Rattle.hm_mem.specs.Seen.{Seen, after_store, covers, lies_in_sram, seen, with_actor, with_dev}
use Rattle.hm_mem.specs.declared.Actor.{Actor}
use Rattle.hm_sys.specs.Exceptions.{accepted}

devices_of : {A : Type 0} (q : Bool) (y z : A) → q ≡ true → (if q then y else z) ≡ y
devices_of true y z e = refl
devices_of false y z e = absurd (cc)

-- one byte more
here : {A : Type 0} (f k b : ℕ) (y z u v : A) → b ≡ f + k → y ≡ u → (if true && covers (f + k) 1 b then y else z) ≡ (if covers f (k + 1) b then u else v)
here f k b y z u v e h = grind (arith, nat_tests)

elsewhere : {A : Type 0} (f k b : ℕ) (y u v : A) → b ≢ f + k
    → (if true && covers (f + k) 1 b then y else (if covers f k b then u else v)) ≡ (if covers f (k + 1) b then u else v)
elsewhere f k b y u v e = grind (arith, nat_tests)

lies : (n f k : ℕ) → lies_in_sram n f ≡ true → k < n → lies_in_sram 1 (f + k) ≡ true
lies n f k h l = grind (arith, nat_tests)

byte_zero : (v k : ℕ) → v < 256 → k ≡ 0 → byte_of v k ≡ v
byte_zero v k l e = ap (byte_of v) e ∙ omega arith

module _ (x : Activation) (k v : ℕ) (s t first : Seen) (h : lies_in_sram (frame_size x.long) x.frame ≡ true) (l : k < frame_size x.long) (small : v < 256)
    (is : v ≡ get_or x.bytes k 0) where
  byte_at_one : (b : ℕ) (e : Bool) → nat_eq b (x.frame + k) ≡ e
      → (if true && covers (x.frame + k) 1 b then byte_of v (b - (x.frame + k)) else (written x k first).byte b) ≡ (written x (k + 1) first).byte b
  byte_at_one b true e =
      let m : b ≡ x.frame + k = grind (arith, nat_tests) in
      let z : b - (x.frame + k) ≡ 0 = omega arith in
      let i : k ≡ b - x.frame = omega arith in
      here x.frame k b (byte_of v (b - (x.frame + k))) ((written x k first).byte b) (get_or x.bytes (b - x.frame) 0) (first.byte b) m
      (byte_zero v (b - (x.frame + k)) small z ∙ is ∙ ap (λ (j : ℕ). get_or x.bytes j 0) i)
  byte_at_one b false e =
      let m : b ≢ x.frame + k = (λ q. grind (arith, nat_tests)) in
      elsewhere x.frame k b (byte_of v (b - (x.frame + k))) (get_or x.bytes (b - x.frame) 0) (first.byte b) m

  taint_at_one : (b : ℕ) (e : Bool) → nat_eq b (x.frame + k) ≡ e
      → (if true && covers (x.frame + k) 1 b then true else (written x k first).taint b) ≡ (written x (k + 1) first).taint b
  taint_at_one b true e = let m : b ≡ x.frame + k = grind (arith, nat_tests) in here x.frame k b true ((written x k first).taint b) true (first.taint b) m refl
  taint_at_one b false e = let m : b ≢ x.frame + k = (λ q. grind (arith, nat_tests)) in elsewhere x.frame k b true true (first.taint b) m

  stored_one : after_store true 1 (x.frame + k) v (written x k first) ≡ written x (k + 1) first
  stored_one =
      let z : lies_in_sram 1 (x.frame + k) ≡ true = lies (frame_size x.long) x.frame k h l in
      one_seen (after_store true 1 (x.frame + k) v (written x k first)) (written x (k + 1) first)
      (λ b. ap (λ (q : Bool). if q && covers (x.frame + k) 1 b then byte_of v (b - (x.frame + k)) else (written x k first).byte b) z
      ∙ byte_at_one b (nat_eq b (x.frame + k)) refl)
      (λ b. ap (λ (q : Bool). if q && covers (x.frame + k) 1 b then true else (written x k first).taint b) z ∙ taint_at_one b (nat_eq b (x.frame + k)) refl)
      (devices_of (lies_in_sram 1 (x.frame + k)) first.devices _ z)

  pub one_written : (marked : Bool) → marked ≡ true → s ≡ written x k first → t ≡ after_store marked 1 (x.frame + k) v s → t ≡ written x (k + 1) first
  one_written marked e f g = g ∙ (λ j. after_store (e j) 1 (x.frame + k) v (f j)) ∙ stored_one

-- AN ENTRY
pub entered_seen : (x : Activation) (a b : Actor) (m0 m1 m2 m3 m4 : Memory) → m1 ≡ with_actor a m0 → seen m2 ≡ written x (frame_size x.long) (seen m1)
    → m3 ≡ with_dev (accepted x.number m2.devices) m2 → m4 ≡ with_actor b m3 → seen m4 ≡ entered_memory x (seen m0)
entered_seen x a b m0 m1 m2 m3 m4 e f g h =
    ap seen h ∙ ap seen g ∙ ap (λ (s : Seen). record s { devices = accepted x.number s.devices }) f
    ∙ ap (λ (m : Memory). record (written x (frame_size x.long) (seen m)) { devices = accepted x.number (seen m).devices }) e
