use Rattle.std.proofs.Common.{arith, sym, ◌∙◌, refl}
use Rattle.std.specs.Prelude.{None, Some}
use Rattle.hm_exc.proofs.Compared.{by_parts, value_differs, value_same, is_none}
use Rattle.hm_mem.specs.Memory.{byte_at, memory_of}
use Rattle.hm_exc.proofs.rules.difference.Goals as goal

pub returns-then-value-x-clause-value : goal.returns-then-value-x-clause-value
returns-then-value-x-clause-value c =
    sym (by_parts c.args.r.now (byte_at (memory_of c.args.m.now)) c.args.value c.args.x.now _ _ _ _ _
    (value_differs c.args.value c.args.x.now c.if-value-x.true) refl refl refl refl)

pub returns-in-Some-clause-value : goal.returns-in-Some-clause-value
returns-in-Some-clause-value c =
    sym (by_parts c.args.r.now (byte_at (memory_of c.args.m.now)) c.args.value c.args.x.now None (Some c.in-Some.b) _ _ _
    (value_same c.args.value c.args.x.now (omega arith)) (sym c.stack_difference.ensures.value ∙ c.in-Some.is) refl refl refl)

pub returns-in-Some-frame_difference-clause-value : goal.returns-in-Some-frame_difference-clause-value
returns-in-Some-frame_difference-clause-value c =
    let n = is_none c.stack_difference.result c.in_default.not-Some in
    sym (by_parts c.args.r.now (byte_at (memory_of c.args.m.now)) c.args.value c.args.x.now None None (Some c.in-Some-frame_difference.b) _ _
    (value_same c.args.value c.args.x.now (omega arith)) (sym c.stack_difference.ensures.value ∙ n)
    (sym c.frame_difference.ensures.value ∙ c.in-Some-frame_difference.is) refl refl)

pub returns-in-Some-core_difference-clause-value : goal.returns-in-Some-core_difference-clause-value
returns-in-Some-core_difference-clause-value c =
    let n = is_none c.stack_difference.result c.in_default.not-Some in
    let f = is_none c.frame_difference.result c.in_default-frame_difference.not-Some in
    sym (by_parts c.args.r.now (byte_at (memory_of c.args.m.now)) c.args.value c.args.x.now None None None (Some c.in-Some-core_difference.b) _
    (value_same c.args.value c.args.x.now (omega arith)) (sym c.stack_difference.ensures.value ∙ n)
    (sym c.frame_difference.ensures.value ∙ f) (sym c.core_difference.ensures.value ∙ c.in-Some-core_difference.is) refl)

pub returns-in-Some-vector_difference-clause-value : goal.returns-in-Some-vector_difference-clause-value
returns-in-Some-vector_difference-clause-value c =
    let n = is_none c.stack_difference.result c.in_default.not-Some in
    let f = is_none c.frame_difference.result c.in_default-frame_difference.not-Some in
    let k = is_none c.core_difference.result c.in_default-core_difference.not-Some in
    sym (by_parts c.args.r.now (byte_at (memory_of c.args.m.now)) c.args.value c.args.x.now None None None None (Some c.in-Some-vector_difference.b)
    (value_same c.args.value c.args.x.now (omega arith)) (sym c.stack_difference.ensures.value ∙ n)
    (sym c.frame_difference.ensures.value ∙ f) (sym c.core_difference.ensures.value ∙ k)
    (sym c.vector_difference.ensures.value ∙ c.in-Some-vector_difference.is))

pub returns-clause-value : goal.returns-clause-value
returns-clause-value c =
    let n = is_none c.stack_difference.result c.in_default.not-Some in
    let f = is_none c.frame_difference.result c.in_default-frame_difference.not-Some in
    let k = is_none c.core_difference.result c.in_default-core_difference.not-Some in
    let v = is_none c.vector_difference.result c.in_default-vector_difference.not-Some in
    c.mask_difference.ensures.value
    ∙ sym (by_parts c.args.r.now (byte_at (memory_of c.args.m.now)) c.args.value c.args.x.now None None None None None
    (value_same c.args.value c.args.x.now (omega arith)) (sym c.stack_difference.ensures.value ∙ n)
    (sym c.frame_difference.ensures.value ∙ f) (sym c.core_difference.ensures.value ∙ k) (sym c.vector_difference.ensures.value ∙ v))
