use Rattle.std.proofs.Common.{arith}
use Rattle.hm_isa.specs.declared.Vector.TheVariants as vector
use Rattle.hm_isa.specs.declared.vectors.V12.TheVariants as v12
use Rattle.hm_isa.specs.declared.vectors.V13.TheVariants as v13
use Rattle.hm_isa.specs.declared.vectors.V19.TheVariants as v19
use Rattle.hm_isa.specs.declared.vectors.V20.TheVariants as v20
use Rattle.hm_isa.specs.declared.vectors.V21.TheVariants as v21
use Rattle.hm_isa.specs.declared.vectors.V22.TheVariants as v22
use Rattle.hm_textv_codes.proofs.codes.code_of.Goals as goal

pub returns-in-Vector-clause-rows : goal.returns-in-Vector-clause-rows
returns-in-Vector-clause-rows c (vector.V27 i) asks = c.code_at_addresses.ensures i asks
returns-in-Vector-clause-rows c v asks = absurd (grind (arith, asks.1))

pub returns-in-Word-clause-rows : goal.returns-in-Word-clause-rows
returns-in-Word-clause-rows c (vector.V24 i) asks = c.code_at_base.ensures.v24 i asks
returns-in-Word-clause-rows c (vector.V25 i) asks = c.code_at_base.ensures.v25 i asks
returns-in-Word-clause-rows c (vector.V26 i) asks = c.code_at_base.ensures.v26 i asks
returns-in-Word-clause-rows c (vector.V28 i) asks = c.code_at_base.ensures.v28 i asks
returns-in-Word-clause-rows c v asks = absurd (grind (arith, asks.1))

pub returns-in-Vector-third_kind-clause-rows : goal.returns-in-Vector-third_kind-clause-rows
returns-in-Vector-third_kind-clause-rows c (vector.V1 i) asks = c.code_of_vectors.ensures.v1 i asks
returns-in-Vector-third_kind-clause-rows c (vector.V2 i) asks = c.code_of_vectors.ensures.v2 i asks
returns-in-Vector-third_kind-clause-rows c (vector.V3 i) asks = c.code_of_vectors.ensures.v3 i asks
returns-in-Vector-third_kind-clause-rows c (vector.V4 i) asks = c.code_of_vectors.ensures.v4 i asks
returns-in-Vector-third_kind-clause-rows c (vector.V5 i) asks = c.code_of_vectors.ensures.v5 i asks
returns-in-Vector-third_kind-clause-rows c (vector.V6 i) asks = c.code_of_vectors.ensures.v6 i asks
returns-in-Vector-third_kind-clause-rows c (vector.V7 i) asks = c.code_of_vectors.ensures.v7 i asks
returns-in-Vector-third_kind-clause-rows c (vector.V8 i) asks = c.code_of_vectors.ensures.v8 i asks
returns-in-Vector-third_kind-clause-rows c (vector.V9 i) asks = c.code_of_vectors.ensures.v9 i asks
returns-in-Vector-third_kind-clause-rows c (vector.V20 (v20.Vectors i)) asks = c.code_of_vectors.ensures.compared i asks
returns-in-Vector-third_kind-clause-rows c (vector.V21 (v21.Select i)) asks = c.code_of_vectors.ensures.select i asks
returns-in-Vector-third_kind-clause-rows c (vector.V22 (v22.Dot i)) asks = c.code_of_vectors.ensures.dot i asks
returns-in-Vector-third_kind-clause-rows c (vector.V22 (v22.LongSum i)) asks = c.code_of_vectors.ensures.long_sum i asks
returns-in-Vector-third_kind-clause-rows c (vector.V22 (v22.LongDot i)) asks = c.code_of_vectors.ensures.long_dot i asks
returns-in-Vector-third_kind-clause-rows c v asks = absurd (grind (arith, asks.1))

pub returns-in-Number-third_kind-clause-rows : goal.returns-in-Number-third_kind-clause-rows
returns-in-Number-third_kind-clause-rows c (vector.V11 i) asks = c.code_of_number.ensures.v11 i asks
returns-in-Number-third_kind-clause-rows c (vector.V12 (v12.Bytes i)) asks = c.code_of_number.ensures.bytes i asks
returns-in-Number-third_kind-clause-rows c (vector.V12 (v12.Halves i)) asks = c.code_of_number.ensures.halves i asks
returns-in-Number-third_kind-clause-rows c (vector.V12 (v12.Full i)) asks = c.code_of_number.ensures.full i asks
returns-in-Number-third_kind-clause-rows c (vector.V17 i) asks = c.code_of_number.ensures.v17 i asks
returns-in-Number-third_kind-clause-rows c (vector.V19 (v19.Free i)) asks = c.code_of_number.ensures.free i asks
returns-in-Number-third_kind-clause-rows c v asks = absurd (grind (arith, asks.1))

pub returns-in-Word-third_kind-clause-rows : goal.returns-in-Word-third_kind-clause-rows
returns-in-Word-third_kind-clause-rows c (vector.V10 i) asks = c.code_of_word.ensures.v10 i asks
returns-in-Word-third_kind-clause-rows c (vector.V15 i) asks = c.code_of_word.ensures.v15 i asks
returns-in-Word-third_kind-clause-rows c (vector.V19 (v19.Wrapped i)) asks = c.code_of_word.ensures.wrapped i asks
returns-in-Word-third_kind-clause-rows c (vector.V20 (v20.Scalar i)) asks = c.code_of_word.ensures.compared i asks
returns-in-Word-third_kind-clause-rows c v asks = absurd (grind (arith, asks.1))

pub returns-in-Missing-clause-rows : goal.returns-in-Missing-clause-rows
returns-in-Missing-clause-rows c (vector.V13 (v13.Not i)) asks = c.code_bare.ensures.inverted i asks
returns-in-Missing-clause-rows c (vector.V21 (v21.Block i)) asks = c.code_bare.ensures.block i asks
returns-in-Missing-clause-rows c v asks = absurd (grind (arith, asks.1))

pub returns-in-Missing-2-clause-rows : goal.returns-in-Missing-2-clause-rows
returns-in-Missing-2-clause-rows c (vector.V12 (v12.Bytes i)) asks = c.code_of_two.ensures.bytes i asks
returns-in-Missing-2-clause-rows c (vector.V12 (v12.Halves i)) asks = c.code_of_two.ensures.halves i asks
returns-in-Missing-2-clause-rows c (vector.V13 (v13.Elements i)) asks = c.code_of_two.ensures.elements i asks
returns-in-Missing-2-clause-rows c (vector.V14 i) asks = c.code_of_two.ensures.v14 i asks
returns-in-Missing-2-clause-rows c (vector.V15 i) asks = c.code_of_two.ensures.v15 i asks
returns-in-Missing-2-clause-rows c (vector.V16 i) asks = c.code_of_two.ensures.v16 i asks
returns-in-Missing-2-clause-rows c (vector.V18 i) asks = c.code_of_two.ensures.v18 i asks
returns-in-Missing-2-clause-rows c (vector.V21 (v21.Tail i)) asks = c.code_of_two.ensures.tail i asks
returns-in-Missing-2-clause-rows c (vector.V22 (v22.Sum i)) asks = c.code_of_two.ensures.sum i asks
returns-in-Missing-2-clause-rows c (vector.V23 i) asks = c.code_of_two.ensures.v23 i asks
returns-in-Missing-2-clause-rows c v asks = absurd (grind (arith, asks.1))
