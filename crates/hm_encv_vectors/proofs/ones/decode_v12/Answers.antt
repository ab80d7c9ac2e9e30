use Rattle.std.proofs.Common.{◌≡◌}
use Rattle.hm_isa.specs.declared.vectors.V12.TheVariants as v12
use Rattle.hm_isa.specs.Code.{code_v12}
use Rattle.hm_encv_vectors.proofs.ones.decode_v12.Goals as goal

pub returns-clause-none : goal.returns-clause-none
returns-clause-none c v =
    elim v as (λ v. code_v12 v ≡ c.args.w → ⊥) [
      | v12.Bytes r ↦ c.in_default.ensures.none r
      | v12.Halves r ↦ c.in_default-decode_long_halves.ensures.none r
      | v12.Full r ↦ c.in_default-decode_long_full.ensures.none r
    ]
