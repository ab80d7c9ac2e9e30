-- What an entry does: `entry_refusal`; `entered_registers`, to the vector `vector_of`; the `activation` that it puts away, and the position that is
-- seen in one, `window_in`; `entered_memory`. When it may be done, `CanEnter`, and what an activation is that an entry made, `FitsEntry`. The list of
-- activations, `newest_first`, and who accesses the memory under it, `actor_under`.
use Rattle.std.specs.Prelude.{ℕ, ◌≡◌, ◌-◌, ◌%◌, ◌<◌, Bool, true, false, not, ◌==◌, if◌then◌else◌, List, [], ◌∷◌, ◌++◌, reverse, take, slice_index, Option, Some}
use Rattle.std.specs.Prelude.{None}
use Rattle.std.proofs.Math.ListN.{replicate}
use Rattle.arrayvec.specs.ArrayVec.{ArrayVec}
use Rattle.hm_base.specs.Image.{word_at}
use Rattle.hm_exc.specs.Frame.{frame_base, frame_bytes, frame_size, has_room, is_between, is_vector, psr_window, vector_address}
use Rattle.hm_exc.specs.declared.types.Activation.{Activation}
use Rattle.hm_exc.specs.declared.types.EnterErr.{EnterErr}
use Rattle.hm_exc.specs.declared.types.EnterErr.TheVariants.{StackSpent, Vector}
use Rattle.hm_mem.specs.Memory.{Memory, Bounds}
use Rattle.hm_mem.specs.Seen.{Seen, covers, lies_in_sram}
use Rattle.hm_mem.specs.declared.Actor.{Actor}
use Rattle.hm_mem.specs.declared.Actor.TheVariants.{Thread, Handler}
use Rattle.hm_regs.specs.Stacks.{HandlerOnMain, uses_process}
use Rattle.hm_regs.specs.declared.Regs.{Regs}
use Rattle.hm_sys.specs.Exceptions.{accepted}
use Rattle.hm_window.specs.Positions.{may_end}
use Rattle.hm_window.specs.declared.rule.Window.{Window}

-- EXC_RETURN (DDI0553, "EXC_RETURN"): bits 2, 3 and 4 say that the frame lies on the process stack, that a thread was interrupted, and that the frame
-- has no context
abbrev pub return_value : Regs → ℕ
return_value r =
    if r.ipsr == 0 then (if r.spsel then (if r.fpca then 0xffffffac else 0xffffffbc) else (if r.fpca then 0xffffffa8 else 0xffffffb8))
    else (if r.fpca then 0xffffffa0 else 0xffffffb0)

-- the vector of an exception, in the memory as it is seen
abbrev pub vector_of : Seen → ℕ → ℕ
vector_of s e = word_at s.byte (vector_address s.devices e)

-- WHY EXCEPTION e DOES NOT ENTER, if it does not: its frame has no room, or there is no vector
abbrev pub entry_refusal : Bounds → Regs → Seen → ℕ → Option EnterErr
entry_refusal bounds r s e =
    if not (has_room bounds r) then Some (StackSpent r.sp)
    else (if not (is_vector s.byte (vector_address s.devices e)) then Some (Vector (vector_address s.devices e)) else None)

-- the main stack pointer, where the one that was in use comes to stand at a frame
abbrev pub main_above : Regs → ℕ → ℕ
main_above r frame = if uses_process r then r.other else frame

-- the process stack pointer, where the one that was in use comes to stand at a frame
abbrev pub process_above : Regs → ℕ → ℕ
process_above r frame = if uses_process r then frame else r.other

-- THE REGISTERS after the entry of exception e to this vector: the handler uses the main stack
abbrev pub entered_registers : Regs → ℕ → ℕ → Regs
entered_registers r e vector = record r {
  sp = main_above r (frame_base r);
  other = process_above r (frame_base r);
  lr = return_value r;
  pc = vector - vector % 2;
  it = 0;
  fpca = false;
  spsel = false;
  ipsr = e;
}

-- THE ACTIVATION that the entry of exception e puts away
abbrev pub activation : Regs → Window → ℕ → Activation
activation r w e = record {
  regs = r;
  frame = frame_base r;
  long = r.fpca;
  bytes = frame_bytes r w ++ replicate (104 - frame_size r.fpca) 0;
  number = e;
  value = return_value r;
}

-- the main stack pointer just after the entry that put an activation away; its handler may store below it
abbrev pub main_after : Activation → ℕ
main_after x = main_above x.regs x.frame

-- the process stack pointer just after that entry
abbrev pub process_after : Activation → ℕ
process_after x = process_above x.regs x.frame

-- THE MEMORY after the entry that put an activation away: the bytes of its frame are written and tainted, and its exception is no longer pending
-- whether an address lies in the frame of an activation
abbrev pub in_frame : Activation → ℕ → Bool
in_frame x a = covers x.frame (frame_size x.long) a

-- the bytes, the taint and the devices after the entry that put this activation away
abbrev pub entered_memory : Activation → Seen → Seen
entered_memory x s = record {
  byte = λ a. if in_frame x a then slice_index x.bytes (a - x.frame) else s.byte a;
  taint = λ a. if in_frame x a then true else s.taint a;
  devices = accepted x.number s.devices;
}

-- flash stays, and another accesses the memory
pub record Passes (actor : Actor) (m n : Memory) : Type 0 where
  pub flash : n.flash ≡ m.flash
  pub around : n.around ≡ record m.around { actor = actor }

-- the position that is seen in an activation: that in the xPSR of its frame, at 1c to 1f
abbrev pub window_in : Activation → Window
window_in x = psr_window (word_at (slice_index x.bytes) 28)

-- the registers and the position that an exception may enter at: a tick may end there; an IT block that is not over has a bit among the lowest
-- four of its byte, and none is inside an instruction; and a handler uses the main stack
pub record CanEnter (r : Regs) (w : Window) : Type 0 where
  pub position : may_end w.a w.b ≡ true
  pub number : r.ipsr < 512
  pub block : r.it % 16 ≡ 0 → r.it ≡ 0
  pub inside : is_between w ≡ false → r.it ≡ 0
  pub selects : HandlerOnMain r

-- an activation that an entry made
pub record FitsEntry (x : Activation) : Type 0 where
  pub in_sram : lies_in_sram (frame_size x.long) x.frame ≡ true
  pub form : x.long ≡ x.regs.fpca
  pub enters : CanEnter x.regs (window_in x)
  pub frame : x.frame ≡ frame_base x.regs
  pub value : x.value ≡ return_value x.regs
  pub bytes : take (frame_size x.long) x.bytes ≡ frame_bytes x.regs (window_in x)

-- the activations, the newest first
abbrev pub newest_first : ArrayVec Activation → List Activation
newest_first acts = reverse acts.items

-- who accesses the memory: the handler of the newest activation, which may store up to the main stack pointer just after its entry, or the thread
abbrev pub actor_under : List Activation → Actor
actor_under [] = Thread
actor_under (x ∷ acts) = Handler (main_after x)
