-- Which stack a frame lies on, as EXC_RETURN tells.
use Rattle.std.proofs.Common.{◌≡◌, ℕ, ◌/◌, ◌%◌, ◌^◌, Bool, true, false, refl, sym}
use Rattle.std.specs.Prelude.{◌&&◌, ◌==◌, if◌then◌else◌}
use Rattle.std.proofs.lemmas.Bool.{eqb-false}
use Rattle.hm_exc.specs.Entry.{return_value}
use Rattle.hm_regs.specs.Stacks.{HandlerOnMain, uses_process}
use Rattle.hm_regs.specs.declared.Regs.{Regs}

-- the process stack is in use exactly where it was chosen, since a handler has not chosen it
pub process_is : (r : Regs) → HandlerOnMain r → uses_process r ≡ r.spsel
process_is r h = go (r.ipsr == 0) refl
  where
    go : (t : Bool) → (r.ipsr == 0) ≡ t → (t && r.spsel) ≡ r.spsel
    go true e = refl
    go false e = sym (h (eqb-false r.ipsr 0 e))

-- EXC_RETURN by whether a thread was interrupted, the choice of its stack, and the context
abbrev return_by : Bool → Bool → Bool → ℕ
return_by t s f =
    if t then (if s then (if f then 0xffffffac else 0xffffffbc) else (if f then 0xffffffa8 else 0xffffffb8))
    else (if f then 0xffffffa0 else 0xffffffb0)

bit_2 : (t s f : Bool) → (return_by t s f / 2 ^ 2 % 2 == 1) ≡ (t && s)
bit_2 true true true = refl
bit_2 true true false = refl
bit_2 true false true = refl
bit_2 true false false = refl
bit_2 false s true = refl
bit_2 false s false = refl

pub process_told : (r : Regs) → (return_value r / 2 ^ 2 % 2 == 1) ≡ uses_process r
process_told r = bit_2 (r.ipsr == 0) r.spsel r.fpca
