use Rattle.std.proofs.Common.{◌≡◌, ℕ, ap, ◌∙◌, subst, arith}
use Rattle.hm_base.specs.Draws.{drawn}
use Rattle.hm_soak_laws.specs.Soak.{fill}
use Rattle.hm_soak.specs.Adding.{AddsCodes}
use Rattle.hm_soak.proofs.Adding.{fills_next, fills_none}
use Rattle.hm_soak.proofs.code.add_fill.Goals as goal

pub loop-j-init : goal.loop-j-init
loop-j-init c = fills_none c.args.number c.args.out.now.items

pub loop-j-preserved : goal.loop-j-preserved
loop-j-preserved c = fills_next c.args.number c.args.out.now.items c.loop-j.j c.loop-j.x c.draw-x.result c.loop-j.out.items c.add_filled.new.out.items
    c.loop-j.invariant c.draw-x.ensures.value c.in_ok-add_filled.ensures.codes

pub returns-clause-codes : goal.returns-clause-codes
returns-clause-codes c =
    let e : c.loop-j.j ≡ 4 = omega arith in
    subst (λ (n : ℕ). AddsCodes (fill n 0 c.args.number) c.args.out.now.items c.loop-j.out.items) e c.loop-j.invariant.codes

pub returns-clause-last : goal.returns-clause-last
returns-clause-last c =
    let e : c.loop-j.j ≡ 4 = omega arith in
    c.loop-j.invariant.last ∙ ap (λ (n : ℕ). drawn n c.args.number) e
