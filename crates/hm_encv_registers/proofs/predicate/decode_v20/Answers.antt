use Rattle.std.proofs.Common.{◌≡◌}
use Rattle.hm_isa.specs.declared.vectors.V20.TheVariants as v20
use Rattle.hm_isa.specs.Code.{code_v20}
use Rattle.hm_encv_registers.proofs.predicate.decode_v20.Goals as goal

pub returns-clause-none : goal.returns-clause-none
returns-clause-none c v =
    elim v as (λ v. code_v20 v ≡ c.args.w → ⊥) [
      | v20.Vectors r ↦ c.in_default.ensures.none r
      | v20.Scalar r ↦ c.in_default-decode_compare_scalar.ensures.none r
    ]
