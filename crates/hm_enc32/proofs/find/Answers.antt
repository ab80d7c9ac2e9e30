use Rattle.std.proofs.Common.{◌≡◌}
use Rattle.hm_isa.specs.declared.widths.WideRow.TheVariants as wide
use Rattle.hm_isa.specs.Code.{wide_code}
use Rattle.hm_enc32.proofs.find.Goals as goal

pub returns-clause-none : goal.returns-clause-none
returns-clause-none c r =
    elim r as (λ r. wide_code r ≡ c.args.w → ⊥) [
      | wide.T1 r ↦ c.in_default.ensures.none.t1 r
      | wide.T2 r ↦ c.in_default.ensures.none.t2 r
      | wide.T3 r ↦ c.in_default.ensures.none.t3 r
      | wide.T4 r ↦ c.in_default.ensures.none.t4 r
      | wide.T5 r ↦ c.in_default.ensures.none.t5 r
      | wide.T6 r ↦ c.in_default.ensures.none.t6 r
      | wide.T7 r ↦ c.in_default.ensures.none.t7 r
      | wide.T8 r ↦ c.in_default-find_arith.ensures.no_t8 r
      | wide.T9 r ↦ c.in_default-find_arith.ensures.no_t9 r
      | wide.T10 r ↦ c.in_default-find_arith.ensures.no_t10 r
      | wide.T11 r ↦ c.in_default-find_arith.ensures.no_t11 r
      | wide.T12 r ↦ c.in_default-find_memory.ensures.no_t12 r
      | wide.T13 r ↦ c.in_default-find_memory.ensures.no_t13 r
      | wide.T14 r ↦ c.in_default-find_memory.ensures.no_t14 r
      | wide.T15 r ↦ c.in_default-find_memory.ensures.no_t15 r
      | wide.T16 r ↦ c.in_default-find_branch.ensures.no_t16 r
      | wide.T17 r ↦ c.in_default-find_branch.ensures.no_t17 r
      | wide.T18 r ↦ c.in_default-find_system.ensures.no_t18 r
      | wide.T19 r ↦ c.in_default-find_system.ensures.no_t19 r
      | wide.T20 r ↦ c.in_default-find_arith.ensures.no_t20 r
      | wide.T21 r ↦ c.in_default-find_system.ensures.no_t21 r
      | wide.T22 r ↦ c.in_default-find_system.ensures.no_t22 r
      | wide.T23 r ↦ c.in_default-find_branch.ensures.no_t23 r
    ]
