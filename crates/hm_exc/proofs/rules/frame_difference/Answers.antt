use Rattle.std.proofs.Common.{◌≡◌, ℕ, ◌+◌, ◌<◌, ◌≤◌, arith, ap, sym, ◌∙◌}
use Rattle.hm_exc.specs.Frame.{frame_size}
use Rattle.hm_exc.specs.Return.{frame_rule}
use Rattle.hm_exc.specs.declared.types.Broken.TheVariants.{Frame}
use Rattle.hm_exc.proofs.Compared.{none_from, some_from, frame_same, frame_differs}
use Rattle.hm_mem.specs.Memory.{byte_at, memory_of}
use Rattle.hm_exc.proofs.rules.frame_difference.Goals as goal

pub returns-then-byte-x-clause-value : goal.returns-then-byte-x-clause-value
returns-then-byte-x-clause-value c =
    let byte = byte_at (memory_of c.args.m.now) in
    let x = c.args.x.now in
    let z : (j : ℕ) → 0 + j ≡ j = (λ j. omega arith) in
    let lt : c.loop-k.k < frame_size x.long = omega (arith, c.frame_size-k-end.ensures.value) in
    sym (some_from (frame_rule byte x) 0 (frame_size x.long) c.loop-k.k (Frame (x.frame + c.loop-k.k)) lt
    (λ j l. ap (frame_rule byte x) (z j) ∙ frame_same byte x j (c.loop-k.invariant j l))
    (ap (frame_rule byte x) (z c.loop-k.k) ∙ frame_differs byte x c.loop-k.k (λ e. c.if-byte-x.true (c.byte.ensures.value ∙ e))))

pub returns-clause-value : goal.returns-clause-value
returns-clause-value c =
    let byte = byte_at (memory_of c.args.m.now) in
    let x = c.args.x.now in
    let z : (j : ℕ) → 0 + j ≡ j = (λ j. omega arith) in
    let le : frame_size x.long ≤ c.loop-k.k = omega (arith, c.frame_size-k-end.ensures.value) in
    sym (none_from (frame_rule byte x) 0 (frame_size x.long) (λ j l. ap (frame_rule byte x) (z j) ∙ frame_same byte x j (c.loop-k.invariant j (omega arith))))
