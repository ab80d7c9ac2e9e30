use Rattle.std.proofs.Common.{◌≡◌}
use Rattle.hm_isa.specs.declared.Vector.TheVariants as vector
use Rattle.hm_isa.specs.Code.{vector_code}
use Rattle.hm_encv.proofs.find.Goals as goal

pub returns-clause-none : goal.returns-clause-none
returns-clause-none c v =
    let pairs = c.in_default.ensures in
    let ones = c.in_default-decode_one.ensures in
    let registers = c.in_default-decode_register.ensures in
    let sums = c.in_default-decode_total.ensures in
    let predicate = c.in_default-decode_predicate.ensures in
    let memory = c.in_default-decode_memory.ensures in
    elim v as (λ v. vector_code v ≡ c.args.w → ⊥) [
      | vector.V1 r ↦ pairs.no_v1 r
      | vector.V2 r ↦ pairs.no_v2 r
      | vector.V3 r ↦ pairs.no_v3 r
      | vector.V4 r ↦ pairs.no_v4 r
      | vector.V5 r ↦ pairs.no_v5 r
      | vector.V6 r ↦ pairs.no_v6 r
      | vector.V7 r ↦ pairs.no_v7 r
      | vector.V8 r ↦ pairs.no_v8 r
      | vector.V9 r ↦ pairs.no_v9 r
      | vector.V10 r ↦ registers.no_v10 r
      | vector.V11 r ↦ c.in_default-decode_v11.ensures.none r
      | vector.V12 r ↦ ones.no_v12 r
      | vector.V13 r ↦ ones.no_v13 r
      | vector.V14 r ↦ ones.no_v14 r
      | vector.V15 r ↦ ones.no_v15 r
      | vector.V16 r ↦ ones.no_v16 r
      | vector.V17 r ↦ registers.no_v17 r
      | vector.V18 r ↦ registers.no_v18 r
      | vector.V19 r ↦ registers.no_v19 r
      | vector.V20 r ↦ predicate.no_v20 r
      | vector.V21 r ↦ predicate.no_v21 r
      | vector.V22 r ↦ sums.no_v22 r
      | vector.V23 r ↦ sums.no_v23 r
      | vector.V24 r ↦ memory.no_v24 r
      | vector.V25 r ↦ memory.no_v25 r
      | vector.V26 r ↦ memory.no_v26 r
      | vector.V27 r ↦ memory.no_v27 r
      | vector.V28 r ↦ memory.no_v28 r
    ]
