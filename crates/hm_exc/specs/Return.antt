-- What a return compares with its entry, in this order, and the first difference: `return_rule`.
use Rattle.std.specs.Prelude.{ℕ, zero, suc, ◌≡◌, ◌+◌, ◌<◌, ◌≤◌, ◌==◌, if◌then◌else◌, slice_index, Option, Some, None}
use Rattle.std.specs.Option.{option_or}
use Rattle.hm_base.specs.declared.Place.TheVariants.{R, QWord}
use Rattle.hm_exc.specs.Entry.{main_after, process_after}
use Rattle.hm_exc.specs.Frame.{frame_size}
use Rattle.hm_state.specs.State.{bit}
use Rattle.hm_exc.specs.declared.types.Activation.{Activation}
use Rattle.hm_exc.specs.declared.types.Broken.{Broken}
use Rattle.hm_exc.specs.declared.types.Broken.TheVariants as broken
use Rattle.hm_exc.specs.declared.types.Slot.{Slot}
use Rattle.hm_exc.specs.declared.types.Slot.TheVariants.{Reg, Primask, Psp, Basepri}
use Rattle.hm_regs.specs.declared.Regs.{Regs}

-- the first difference that f tells of count numbers from one on
unfoldable pub first_from : (ℕ → Option Broken) → ℕ → ℕ → Option Broken
first_from f from zero = None
first_from f from (suc count) = option_or (f from) (first_from f (suc from) count)

-- the value of the return compared with the one that its entry gave
abbrev pub value_rule : ℕ → Activation → Option Broken
value_rule value x = if value == x.value then None else Some (broken.ExcReturn value)

-- one of the registers compared: as it has to be, and as it is now
abbrev pub differing : Slot → ℕ → ℕ → Option Broken
differing name entry now = if entry == now then None else Some (broken.Register name entry now)

-- the main and then the process stack pointer compared with what they were just after the entry
abbrev pub stack_rule : Regs → Activation → Option Broken
stack_rule r x = option_or (differing (Reg (R 13)) (main_after x) r.sp) (differing Psp (process_after x) r.other)

-- byte k of the frame in memory compared with the one that the entry stacked
abbrev pub frame_rule : (ℕ → ℕ) → Activation → ℕ → Option Broken
frame_rule byte x k = if byte (x.frame + k) == slice_index x.bytes k then None else Some (broken.Frame (x.frame + k))

-- core register k compared with what it was at the entry
abbrev pub core_rule : Regs → Activation → ℕ → Option Broken
core_rule r x k = differing (Reg (R k)) (slice_index x.regs.r k) (slice_index r.r k)

-- word k of the vector registers compared with what it was at the entry
abbrev pub vector_rule : Regs → Activation → ℕ → Option Broken
vector_rule r x k = differing (Reg (QWord k)) (slice_index x.regs.qw k) (slice_index r.qw k)

-- PRIMASK and then BASEPRI compared with what they were at the entry
abbrev pub mask_rule : Regs → Activation → Option Broken
mask_rule r x = option_or (differing Primask (bit x.regs.primask) (bit r.primask)) (differing Basepri x.regs.basepri r.basepri)

-- THE FIRST DIFFERENCE of a return to `value`, by the registers and the bytes of memory as they are: of the value, of the two stack pointers, of the bytes of
-- the frame from the lowest, of r4 to r11, of the words of Q4 to Q7, and of PRIMASK and BASEPRI
unfoldable pub return_rule : Regs → (ℕ → ℕ) → ℕ → Activation → Option Broken
return_rule r byte value x =
    option_or (value_rule value x)
    (option_or (stack_rule r x)
    (option_or (first_from (frame_rule byte x) 0 (frame_size x.long))
    (option_or (first_from (core_rule r x) 4 8)
    (option_or (first_from (vector_rule r x) 16 16)
    (mask_rule r x)))))

-- nothing differs
pub record Unbroken (r : Regs) (byte : ℕ → ℕ) (value : ℕ) (x : Activation) : Type 0 where
  pub same_value : value ≡ x.value
  pub stack : r.sp ≡ main_after x
  pub process : r.other ≡ process_after x
  pub frame : (k : ℕ) → k < frame_size x.long → byte (x.frame + k) ≡ slice_index x.bytes k
  pub core : (k : ℕ) → 4 ≤ k → k < 12 → slice_index r.r k ≡ slice_index x.regs.r k
  pub vectors : (k : ℕ) → 16 ≤ k → k < 32 → slice_index r.qw k ≡ slice_index x.regs.qw k
  pub primask : r.primask ≡ x.regs.primask
  pub basepri : r.basepri ≡ x.regs.basepri
