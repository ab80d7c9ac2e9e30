use Rattle.std.proofs.Common.{◌≡◌}
use Rattle.hm_isa.specs.declared.vectors.V21.TheVariants as v21
use Rattle.hm_isa.specs.Code.{code_v21}
use Rattle.hm_encv_registers.proofs.predicate.decode_v21.Goals as goal

pub returns-clause-none : goal.returns-clause-none
returns-clause-none c v =
    elim v as (λ v. code_v21 v ≡ c.args.w → ⊥) [
      | v21.Block r ↦ c.in_default.ensures.none r
      | v21.Select r ↦ c.in_default-decode_select.ensures.none r
      | v21.Tail r ↦ c.in_default-decode_tail.ensures.none r
    ]
