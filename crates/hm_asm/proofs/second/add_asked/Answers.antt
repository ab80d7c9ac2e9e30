use Rattle.std.proofs.Common.{ℕ, ap, subst, ◌∙◌}
use Rattle.std.specs.FinMap.{get}
use Rattle.hm_source.specs.declared.directives.Directive.{Directive}
use Rattle.hm_source.specs.Directives.{multiple_of}
use Rattle.hm_source.specs.Places.{padding}
use Rattle.hm_source.specs.Shown.{ShowsDirected}
use Rattle.hm_asm.proofs.Steps.{given_align, given_space}
use Rattle.hm_asm.proofs.second.add_asked.Goals as goal

pub returns-in_ok-add_zeros-in-Align-clause-given : goal.returns-in_ok-add_zeros-in-Align-clause-given
returns-in_ok-add_zeros-in-Align-clause-given c =
    λ a e.
    (let count =
    c.padding-count.ensures.value ∙ ap (λ (x : ℕ). padding x c.place.result) c.bytes.ensures.value
    ∙ ap (λ (x : ℕ). padding (multiple_of c.in-Align.multiple) x) c.place.ensures.value in
    given_align (get c.args.labels.now) c.args.out.now c.add_zeros.new.self (multiple_of c.in-Align.multiple) c.padding-count.result a
    (subst (λ (d : Directive). ShowsDirected c.args.line.now.parts.instruction.now d a) c.in-Align.is e) count c.in_ok-add_zeros-in-Align.ensures.added)

pub returns-in_ok-add_zeros-in-Space-clause-given : goal.returns-in_ok-add_zeros-in-Space-clause-given
returns-in_ok-add_zeros-in-Space-clause-given c =
    λ a e.
    given_space (get c.args.labels.now) c.args.out.now c.add_zeros-in-Space.new.self c.in-Space.count a
    (subst (λ (d : Directive). ShowsDirected c.args.line.now.parts.instruction.now d a) c.in-Space.is e) c.in_ok-add_zeros-in-Space.ensures.added
