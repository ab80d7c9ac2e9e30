use Rattle.std.proofs.Common.{◌∙◌, ap, sym, Bool, cond, Some, None}
use Rattle.hm_base.specs.declared.FaultKind.TheVariants.{InvState}
use Rattle.hm_exec.proofs.Refused.{refused_is}
use Rattle.hm_exec.proofs.vectors.refuse.Goals as goal

pub returns-then-is_refused : goal.returns-then-is_refused
returns-then-is_refused c = record {
  value = λ m output.
      ap (λ (q : Bool). cond q (Some (record { kind = InvState; addr = c.args.r.now.pc })) None) (sym c.if-is_refused.true)
      ∙ refused_is c.args.v.now c.args.r.now m output _ c.is_refused.ensures.value;
}

pub returns-else-is_refused : goal.returns-else-is_refused
returns-else-is_refused c = record {
  value = λ m output.
      ap (λ (q : Bool). cond q (Some (record { kind = InvState; addr = c.args.r.now.pc })) None) (sym c.if-is_refused.false)
      ∙ refused_is c.args.v.now c.args.r.now m output _ c.is_refused.ensures.value;
}
