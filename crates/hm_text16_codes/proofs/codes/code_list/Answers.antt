use Rattle.std.proofs.Common.{ℕ, Some, ap, sym, inl, inr, ◌∙◌}
use Rattle.hm_isa.specs.declared.narrow.ListName.TheVariants as list
use Rattle.hm_text16_codes.proofs.Lists.{code_of_list, no_name, same_name}
use Rattle.hm_text16_codes.proofs.codes.code_list.Goals as goal

pub returns-in_err-name : goal.returns-in_err-name
returns-in_err-name c i t asks = absurd (no_name i.name (c.in_err-name.ensures i t asks.0))

pub returns-in-Push : goal.returns-in-Push
returns-in-Push c i t asks =
    let is = sym (same_name _ _ (c.in_ok-name.ensures i t asks.0)) ∙ c.in-Push.is in
    ap (λ (w : ℕ). Some w)
    ((rw (c.base_of_list-base.ensures.value, c.in-Push.is) at c.of_byte.ensures) ∙ code_of_list list.Push i t c.args.o.now is asks.1)

pub returns-in-Pop : goal.returns-in-Pop
returns-in-Pop c i t asks =
    let is = sym (same_name _ _ (c.in_ok-name.ensures i t asks.0)) ∙ c.in-Pop.is in
    ap (λ (w : ℕ). Some w)
    ((rw (c.base_of_list-base.ensures.value, c.in-Pop.is) at c.of_byte-in-Pop.ensures) ∙ code_of_list list.Pop i t c.args.o.now is asks.1)

pub returns-in-Stm : goal.returns-in-Stm
returns-in-Stm c i t asks =
    let name = sym (same_name _ _ (c.in_ok-name.ensures i t asks.0)) in
    elim c.in-Stm.is [
      | inl e ↦
          ap (λ (w : ℕ). Some w)
          ((rw (c.base_of_list-base.ensures.value, e) at c.of_byte-in-Stm.ensures) ∙ code_of_list list.Stm i t c.args.o.now (name ∙ e) asks.1)
      | inr e ↦
          ap (λ (w : ℕ). Some w)
          ((rw (c.base_of_list-base.ensures.value, e) at c.of_byte-in-Stm.ensures) ∙ code_of_list list.Ldm i t c.args.o.now (name ∙ e) asks.1)
    ]
