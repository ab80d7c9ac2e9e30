use Rattle.std.proofs.Common.{rules, ◌≡◌, ℕ, ◌+◌, ◌-◌, ap, arith, subst, ◌∙◌, List, [], ◌++◌}
use Rattle.hm_machine.specs.Shown.{Shows}
use Rattle.hm_trace.proofs.Traced.{traced}
use Rattle.hm_trace.specs.Traces.{head_in}
use Rattle.hm_trace.proofs.running.trace.Goals as goal

pub returns-clause-text : goal.returns-clause-text
returns-clause-text c = λ listing listed.
    let image = c.args.image.now in
    let s = c.args.schedule in
    let first = c.args.ticks.first in
    let none : 0 + (first - 1) ≡ first - 1 = omega arith in
    let begins = subst (λ (t : ℕ). Shows image s t c.pass.new.self) none (c.pass.ensures.shows image s 0 c.in_ok-machine.ensures.shows) in
    let empty : c.new-out.result.items ≡ [] = search rules in
    let head = c.in_ok-add_head.ensures.added ∙ ap (λ (out : List ℕ). out ++ head_in c.args.form) empty in
    traced c.args.form listing image s first c.args.ticks.last c.add_ticks.new.machine _ _ _ c.args.ticks.some c.args.ticks.order listed
    (c.in_ok-add_ticks.ensures.shows image s _ begins) head (c.in_ok-add_ticks.ensures.added image s _ listing listed begins) c.in_ok-add_tail.ensures.added
