use Rattle.std.proofs.Common.{◌≡◌}
use Rattle.hm_isa.specs.declared.vectors.V13.TheVariants as v13
use Rattle.hm_isa.specs.Code.{code_v13}
use Rattle.hm_encv_vectors.proofs.ones.decode_v13.Goals as goal

pub returns-clause-none : goal.returns-clause-none
returns-clause-none c v =
    elim v as (λ v. code_v13 v ≡ c.args.w → ⊥) [
      | v13.Elements r ↦ c.in_default.ensures.none r
      | v13.Not r ↦ c.in_default-decode_invert.ensures.none r
    ]
