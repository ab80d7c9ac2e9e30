-- A step leaves the exception number, a sound IT byte, and a handler on the main stack.
use Rattle.std.proofs.Common.{◌≡◌, ◌≢◌, ℕ, ◌+◌, ◌*◌, ◌/◌, ◌%◌, ◌<◌, Bool, true, false, length, refl, ◌∙◌, arith}
use Rattle.std.specs.Prelude.{Result, Ok, Err, IfOk, nat_eq, if◌then◌else◌}
use Rattle.std.proofs.lemmas.Bool.{eqb-false}
use Rattle.hm_isa.specs.declared.Instr.{Instr}
use Rattle.hm_mem.specs.Seen.{Seen}
use Rattle.hm_regs.specs.Stacks.{HandlerOnMain}
use Rattle.hm_regs.specs.declared.Regs.{Regs}
use Rattle.hm_thumb.specs.Blocks.{advanced_byte}
use Rattle.hm_thumb.specs.Does.{Does, Ends, Faults, Loads, Stores, Done, Runner, after_loads, after_stores, first_stop, run, words}
use Rattle.hm_isa.specs.Code.{width_of}
use Rattle.hm_thumb.specs.Rows.{in_block}
use Rattle.hm_thumb.specs.Steps.{finish, settled, step}
use Rattle.hm_thumb.specs.declared.Way.{Way}
use Rattle.hm_thumb.specs.declared.Way.TheVariants as way
use Rattle.hm_run_laws.specs.Blocks.{EndsKeep, IsBlockByte, KeepsBlock}
use Rattle.hm_run_laws.proofs.Choices.{if_done}
use Rattle.hm_run_laws.proofs.Instructions.{block-keep}

-- ITAdvance() doubles the lowest bits of a block that is not over
by_rest : (b : Bool) (it : ℕ) → it < 256 → nat_eq (it % 8) 0 ≡ b → IsBlockByte (if b then 0 else it / 32 * 32 + it * 2 % 32)
by_rest true it fits e = (omega arith, λ h. refl)
by_rest false it fits e = let some : it % 8 ≢ 0 = eqb-false (it % 8) 0 e in (omega arith, λ h. absurd (omega arith))

advanced-sound : (it : ℕ) → IsBlockByte it → IsBlockByte (advanced_byte it)
advanced-sound it h = by_rest (nat_eq (it % 8) 0) it h.0 refl

settled-number : (bytes : ℕ) (w : Way) (r q : Regs) → KeepsBlock w r q → (settled bytes w q).ipsr ≡ r.ipsr
settled-number bytes way.On r q h = h.0
settled-number bytes w r q h = h.0

-- where a handler was on the main stack, it is so still
kept-main : (r q : Regs) → HandlerOnMain r → q.ipsr ≡ r.ipsr → (r.ipsr ≢ 0 → q.spsel ≡ r.spsel) → HandlerOnMain q
kept-main r q m e h n = let some : r.ipsr ≢ 0 = (λ z. n (e ∙ z)) in h some ∙ m some

pub settled-main : (bytes : ℕ) (w : Way) (r q : Regs) → HandlerOnMain r → KeepsBlock w r q → HandlerOnMain (settled bytes w q)
settled-main bytes way.Opens r q m h = kept-main r q m h.0 h.3
settled-main bytes w r q m h = kept-main r q m h.0 h.2

pub settled-sound : (bytes : ℕ) (w : Way) (r q : Regs) → IsBlockByte r.it → KeepsBlock w r q → IsBlockByte (settled bytes w q).it
settled-sound bytes way.Opens r q s h = (h.1, λ z. absurd (h.2 z))
settled-sound bytes (way.Break k) r q s h = rw h.1 s
settled-sound bytes w r q s h = advanced-sound q.it (rw h.1 s)

module _ {E : Type 0} (R : Runner E) where
  -- what an instruction has come to
  abbrev Kept : Regs → Done → Type 0
  Kept r d = KeepsBlock d.way r d.regs

  run-keep : (r : Regs) (d : Does) (s : Seen) → EndsKeep r d → IfOk (run R d s) (Kept r)
  run-keep r (Ends w q) s h = h
  run-keep r (Faults k a) s h = tt
  run-keep r (Loads how len n a f) s h =
      let xs = words len n a s in
      let t = after_loads len n a s in
      if_done (Kept r) (first_stop R how false len n a s) (run R (f xs) t) (run-keep r (f xs) t (h xs))
  run-keep r (Stores how len a xs d) s h =
      let t = after_stores R.marks len a xs s in
      if_done (Kept r) (first_stop R how true len (length xs) a s) (run R d t) (run-keep r d t h.1)

  finish-number : (bytes : ℕ) (r : Regs) (x : Result Done E) → IfOk x (Kept r) → IfOk (finish bytes x) (λ y. y.regs.ipsr ≡ r.ipsr)
  finish-number bytes r (Ok d) h = settled-number bytes d.way r d.regs h
  finish-number bytes r (Err e) h = tt

  finish-sound : (bytes : ℕ) (r : Regs) (x : Result Done E) → IsBlockByte r.it → IfOk x (Kept r) → IfOk (finish bytes x) (λ y. IsBlockByte y.regs.it)
  finish-sound bytes r (Ok d) s h = settled-sound bytes d.way r d.regs s h
  finish-sound bytes r (Err e) s h = tt

  finish-main : (bytes : ℕ) (r : Regs) (x : Result Done E) → HandlerOnMain r → IfOk x (Kept r) → IfOk (finish bytes x) (λ y. HandlerOnMain y.regs)
  finish-main bytes r (Ok d) m h = settled-main bytes d.way r d.regs m h
  finish-main bytes r (Err e) m h = tt

  pub step-number : (i : Instr) (r : Regs) (s : Seen) → IfOk (step R i r s) (λ x. x.regs.ipsr ≡ r.ipsr)
  step-number i r s = finish-number (width_of i) r (run R (in_block i r) s) (run-keep r (in_block i r) s (block-keep i r))

  pub step-sound : (i : Instr) (r : Regs) (s : Seen) → IsBlockByte r.it → IfOk (step R i r s) (λ x. IsBlockByte x.regs.it)
  step-sound i r s b = finish-sound (width_of i) r (run R (in_block i r) s) b (run-keep r (in_block i r) s (block-keep i r))

  pub step-main : (i : Instr) (r : Regs) (s : Seen) → HandlerOnMain r → IfOk (step R i r s) (λ x. HandlerOnMain x.regs)
  step-main i r s m = finish-main (width_of i) r (run R (in_block i r) s) m (run-keep r (in_block i r) s (block-keep i r))
