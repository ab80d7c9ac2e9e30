use Rattle.std.proofs.Common.{◌≡◌}
use Rattle.hm_isa.specs.declared.vectors.V22.TheVariants as v22
use Rattle.hm_isa.specs.Code.{code_v22}
use Rattle.hm_encv_registers.proofs.sums.decode_v22.Goals as goal

pub returns-clause-none : goal.returns-clause-none
returns-clause-none c v =
    elim v as (λ v. code_v22 v ≡ c.args.w → ⊥) [
      | v22.Sum r ↦ c.in_default.ensures.none r
      | v22.Dot r ↦ c.in_default-decode_dot.ensures.none r
      | v22.LongSum r ↦ c.in_default-decode_long_sum.ensures.none r
      | v22.LongDot r ↦ c.in_default-decode_long_dot.ensures.none r
    ]
