use Rattle.std.proofs.Common.{◌≡◌, ℕ, ◌<◌, ◌++◌, arith, subst, List, [], ◌∷◌, length}
use Rattle.std.proofs.lemmas.List.{nil_from_length}
use Rattle.hm_base.specs.declared.Span.{Span}
use Rattle.hm_beat.specs.Touches.{spanned, stores_in}
use Rattle.hm_exec.specs.Families.{row_of}
use Rattle.hm_cpu.proofs.Trials.{all_held, first_span, held_first, held_there, more_held, next_held, same_but}
use Rattle.hm_cpu.specs.Trials.{HoldsAll}
use Rattle.hm_mem.specs.Memory.{memory_of}
use Rattle.hm_rows.specs.Rows.{vector_tree}
use Rattle.hm_cpu.proofs.trial.+tried.Goals as goal

pub returns-then-len-gt0-clause-same : goal.returns-then-len-gt0-clause-same
returns-then-len-gt0-clause-same t c others h =
    let m = memory_of c.args.mem.now in
    let all = stores_in (vector_tree (row_of c.args.v.now) m.around 2) c.args.regs.now m [] in
    let held = c.of-held.result in
    let some : 0 < c.args.len = omega (arith, c.if-len-gt0.true) in
    c.put_back.ensures.same m others (held_there held m c.args.addr c.of-held.ensures.value)
    (held_first held m (memory_of c.tried-result.new.mem) c.args.addr others c.of-held.ensures.value
    (c.tried-result.ensures.same (c.args.addr ∷ others) (more_held all others (spanned c.args.rest.now) c.args.addr c.args.len some h)))

pub returns-in-len1-up-clause-same : goal.returns-in-len1-up-clause-same
returns-in-len1-up-clause-same t c others h =
    let m = memory_of c.args.mem.now in
    let all = stores_in (vector_tree (row_of c.args.v.now) m.around 2) c.args.regs.now m [] in
    let none : c.args.len ≡ 0 = omega (arith, c.if-len-gt0.false) in
    c.tried.ensures.same others
    (subst (λ (l : List ℕ). HoldsAll all (others ++ l)) (first_span c.args.rest.now _ c.in-len1-up.len_at_least)
    (next_held all others (spanned c.args.rest.now) c.args.addr c.args.len none h))

pub returns-in-empty-clause-same : goal.returns-in-empty-clause-same
returns-in-empty-clause-same t c others h =
    let m = memory_of c.args.mem.now in
    let all = stores_in (vector_tree (row_of c.args.v.now) m.around 2) c.args.regs.now m [] in
    let none : c.args.len ≡ 0 = omega (arith, c.if-len-gt0.false) in
    let short = c.in-empty.len_below in
    let size : length c.args.rest.now ≡ 0 = omega (arith, short) in
    let empty : c.args.rest.now ≡ [] = nil_from_length c.args.rest.now size in
    same_but all others m (memory_of c.goes.new.mem) c.goes.ensures.same
    (all_held all others (subst (λ (l : List Span). HoldsAll all (others ++ spanned l)) empty
    (next_held all others (spanned c.args.rest.now) c.args.addr c.args.len none h)))
