-- The registers and the memory after a reset make the state at the start.
use Rattle.std.proofs.Common.{◌≡◌, ℕ, zero, suc, ◌-◌, ◌*◌, ◌%◌, ◌^◌, Bool, true, false, cond, eqb, ltb, List, [], get_or, arith, refl, ◌∙◌, ap}
use Rattle.std.proofs.Math.ListN.{replicate}
use Rattle.std.proofs.Math.Nat.{zero-div}
use Rattle.hm_base.specs.Bits.{field}
use Rattle.hm_base.specs.Image.{Segment, first_byte}
use Rattle.hm_base.specs.declared.Place.{Place}
use Rattle.hm_base.specs.declared.Place.TheVariants.{R, QWord, P0, Mask01, Mask23, Carry, Ltp, Sticky}
use Rattle.hm_regs.specs.Place.{value_at}
use Rattle.hm_regs.specs.Start.{start_regs}
use Rattle.hm_mem.specs.Memory.{Bounds, Memory, byte_at, tainted_at, first_devices, thread_under}
use Rattle.hm_state.specs.State.{Cell, At, Byte, word, is_cell, cell_of, state_of}
use Rattle.hm_state.specs.Start.{reset_sp, reset_pc, first_value, first_cell, first_rest, start_under}

zeros : (n k : ℕ) → get_or {A = ℕ} (replicate n 0) k 0 ≡ 0
zeros zero k = refl
zeros (suc n) zero = refl
zeros (suc n) (suc k) = zeros n k

no_bits : (lo n : ℕ) → field lo n 0 ≡ 0
unfolding field
no_bits lo n = ap (λ (x : ℕ). x % 2 ^ n) (zero-div (2 ^ lo)) ∙ omega arith

either_zero : (b : Bool) (x : ℕ) → x ≡ 0 → cond b x 0 ≡ 0
either_zero true x e = e
either_zero false x e = refl

-- what stands in each place
first_place : (image : List Segment) (p : Place)
    → cond (is_cell p) (value_at p (start_regs (reset_sp image - reset_sp image % 4) (reset_pc image - reset_pc image % 2))) 0 ≡ first_value image p
unfolding field
first_place image (R n) = ap (λ (x : ℕ). cond (eqb n 13) (reset_sp image - reset_sp image % 4) (cond (eqb n 14) 0xffffffff x)) (zeros 13 n)
first_place image (QWord k) = zeros 32 k
first_place image (P0 b) = either_zero (ltb b 4) (field (4 * b) 4 0) (no_bits (4 * b) 4)
first_place image Mask01 = refl
first_place image Mask23 = refl
first_place image Carry = refl
first_place image Ltp = refl
first_place image Sticky = refl

pub started : (image : List Segment) (m : Memory) (bounds : Bounds)
    → ((a : ℕ) → byte_at m a ≡ first_byte image a) → ((a : ℕ) → tainted_at m a ≡ false) → m.devices ≡ first_devices → m.around ≡ thread_under bounds
    → state_of (start_regs (reset_sp image - reset_sp image % 4) (reset_pc image - reset_pc image % 2)) m [] ≡ start_under bounds image
unfolding state_of start_under field
started image m bounds bytes clean devices around = λ j. record {
  cell = λ c. each c j;
  sticky = false;
  pc = reset_pc image - reset_pc image % 2;
  rest = record (first_rest (around j)) { devices = devices j };
}
  where
    each : (c : Cell) → cell_of (start_regs (reset_sp image - reset_sp image % 4) (reset_pc image - reset_pc image % 2)) m c ≡ first_cell image c
    each (At p) = ap word (first_place image p)
    each (Byte a) = λ j. record { n = bytes a j; taint = clean a j }
