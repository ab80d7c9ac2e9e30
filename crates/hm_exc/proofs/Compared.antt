-- The first of several differences.
use Rattle.std.proofs.Common.{◌≡◌, ℕ, zero, suc, ◌+◌, ◌<◌, Bool, get_or, arith, refl, sym, ◌∙◌, ap}
use Rattle.std.specs.Prelude.{Option, Some, None, if◌then◌else◌}
use Rattle.std.proofs.lemmas.Bool.{eq-eqb, ne_eqb}
use Rattle.hm_exc.specs.Frame.{frame_size}
use Rattle.std.specs.Option.{option_or}
use Rattle.hm_exc.specs.Return.{core_rule, differing, first_from, frame_rule, mask_rule, return_rule, stack_rule, value_rule, vector_rule}
use Rattle.hm_exc.specs.declared.types.Activation.{Activation}
use Rattle.hm_exc.specs.declared.types.Broken.{Broken}
use Rattle.hm_exc.specs.declared.types.Broken.TheVariants as broken
use Rattle.hm_exc.specs.declared.types.Slot.{Slot}
use Rattle.hm_regs.specs.declared.Regs.{Regs}

pub none_from : (f : ℕ → Option Broken) (from count : ℕ) → ((j : ℕ) → j < count → f (from + j) ≡ None) → first_from f from count ≡ None
unfolding first_from
none_from f from zero h = refl
none_from f from (suc count) h =
    let here : f from ≡ None = ap f (let e : from ≡ from + 0 = omega arith in e) ∙ h 0 (omega arith) in
    ap (λ (o : Option Broken). option_or o (first_from f (suc from) count)) here
    ∙ none_from f (suc from) count (λ j l. ap f (let e : suc from + j ≡ from + suc j = omega arith in e) ∙ h (suc j) (omega arith))

pub some_from : (f : ℕ → Option Broken) (from count k : ℕ) (b : Broken) → k < count → ((j : ℕ) → j < k → f (from + j) ≡ None) → f (from + k) ≡ Some b
    → first_from f from count ≡ Some b
unfolding first_from
some_from f from zero k b l h g = absurd (omega arith)
some_from f from (suc count) zero b l h g =
    let here : f from ≡ Some b = ap f (let e : from ≡ from + 0 = omega arith in e) ∙ g in
    ap (λ (o : Option Broken). option_or o (first_from f (suc from) count)) here
some_from f from (suc count) (suc k) b l h g =
    let here : f from ≡ None = ap f (let e : from ≡ from + 0 = omega arith in e) ∙ h 0 (omega arith) in
    ap (λ (o : Option Broken). option_or o (first_from f (suc from) count)) here
    ∙ some_from f (suc from) count k b (omega arith) (λ j m. ap f (let e : suc from + j ≡ from + suc j = omega arith in e) ∙ h (suc j) (omega arith))
    (ap f (let e : suc from + k ≡ from + suc k = omega arith in e) ∙ g)

pub not_differing : (name : Slot) (entry now : ℕ) → now ≡ entry → differing name entry now ≡ None
not_differing name entry now e = ap (λ (t : Bool). if t then None else Some (broken.Register name entry now)) (eq-eqb entry now (sym e))

pub frame_same : (byte : ℕ → ℕ) (x : Activation) (k : ℕ) → byte (x.frame + k) ≡ get_or x.bytes k 0 → frame_rule byte x k ≡ None
frame_same byte x k e = ap (λ (t : Bool). if t then None else Some (broken.Frame (x.frame + k))) (eq-eqb (byte (x.frame + k)) (get_or x.bytes k 0) e)

pub frame_differs : (byte : ℕ → ℕ) (x : Activation) (k : ℕ) → (byte (x.frame + k) ≡ get_or x.bytes k 0 → ⊥)
    → frame_rule byte x k ≡ Some (broken.Frame (x.frame + k))
frame_differs byte x k e = ap (λ (t : Bool). if t then None else Some (broken.Frame (x.frame + k))) (ne_eqb (byte (x.frame + k)) (get_or x.bytes k 0) e)

pub value_differs : (value : ℕ) (x : Activation) → (value ≡ x.value → ⊥) → value_rule value x ≡ Some (broken.ExcReturn value)
value_differs value x e = ap (λ (t : Bool). if t then None else Some (broken.ExcReturn value)) (ne_eqb value x.value e)

pub value_same : (value : ℕ) (x : Activation) → value ≡ x.value → value_rule value x ≡ None
value_same value x e = ap (λ (t : Bool). if t then None else Some (broken.ExcReturn value)) (eq-eqb value x.value e)

-- the rule by its parts
module _ (r : Regs) (byte : ℕ → ℕ) (value : ℕ) (x : Activation) where
  pub by_parts : (a b c d e : Option Broken) → value_rule value x ≡ a → stack_rule r x ≡ b → first_from (frame_rule byte x) 0 (frame_size x.long) ≡ c
      → first_from (core_rule r x) 4 8 ≡ d → first_from (vector_rule r x) 16 16 ≡ e
      → return_rule r byte value x ≡ option_or a (option_or b (option_or c (option_or d (option_or e (mask_rule r x)))))
  unfolding return_rule
  by_parts a b c d e p q s t u = λ j. option_or (p j) (option_or (q j) (option_or (s j) (option_or (t j) (option_or (u j) (mask_rule r x)))))

pub is_none : (o : Option Broken) → ((b : Broken) → o ≡ Some b → ⊥) → o ≡ None
is_none (Some b) h = absurd (h b refl)
is_none None h = refl
