-- Which stack is in use, and the two stack pointers.
use Rattle.std.specs.Prelude.{◌≡◌, ◌≢◌, ℕ, Bool, false, ◌&&◌, cond, nat_eq}
use Rattle.hm_regs.specs.declared.Regs.{Regs}

-- the stack pointer in use is that of the process stack: in thread mode, where it was chosen
abbrev pub uses_process : Regs → Bool
uses_process r = nat_eq r.ipsr 0 && r.spsel

-- in a handler the main stack is in use
abbrev pub HandlerOnMain : Regs → Type 0
HandlerOnMain r = r.ipsr ≢ 0 → r.spsel ≡ false

-- the main stack pointer, in use or not
abbrev pub main_of : Regs → ℕ
main_of r = cond (uses_process r) r.other r.sp

-- the process stack pointer, in use or not
abbrev pub process_of : Regs → ℕ
process_of r = cond (uses_process r) r.sp r.other
