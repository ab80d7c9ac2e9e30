use Rattle.std.proofs.Common.{◌≡◌, ℕ, subst, arith}
use Rattle.hm_soak_laws.specs.Soak.{operations}
use Rattle.hm_soak.specs.Adding.{AddsCodes}
use Rattle.hm_soak.proofs.Adding.{operates_next, operates_none}
use Rattle.hm_soak.proofs.code.add_operations.Goals as goal

pub loop-k-init : goal.loop-k-init
loop-k-init c = operates_none c.args.last c.args.out.now.items

pub loop-k-preserved : goal.loop-k-preserved
loop-k-preserved c =
    operates_next c.args.last c.args.out.now.items c.loop-k.k c.loop-k.x c.draw-x.result c.operation.result c.loop-k.out.items c.add_code.new.out.items
    c.loop-k.invariant c.draw-x.ensures.value c.operation.ensures.row
    c.in_ok-add_code.ensures.added

pub returns : goal.returns
returns c =
    let e : c.loop-k.k ≡ 4096 = omega arith in
    record { codes = subst (λ (n : ℕ). AddsCodes (operations n 0 c.args.last) c.args.out.now.items c.loop-k.out.items) e c.loop-k.invariant.codes }
