use Rattle.std.proofs.Common.{◌≡◌, ◌+◌, ◌-◌, arith, ap, sym, ◌∙◌, get_or}
use Rattle.hm_base.specs.declared.Place.TheVariants.{R}
use Rattle.hm_exc.specs.Return.{core_rule}
use Rattle.hm_exc.specs.declared.types.Slot.TheVariants.{Reg}
use Rattle.hm_exc.proofs.Compared.{none_from, some_from, not_differing}
use Rattle.hm_exc.proofs.rules.core_difference.Goals as goal

pub returns-in-Some-clause-value : goal.returns-in-Some-clause-value
returns-in-Some-clause-value c =
    let r = c.args.r.now in
    let x = c.args.x.now in
    let e : 4 + (c.loop-k.k - 4) ≡ c.loop-k.k = omega arith in
    sym (some_from (core_rule r x) 4 8 (c.loop-k.k - 4) c.in-Some.difference (omega arith)
    (λ j l. not_differing (Reg (R (4 + j))) (get_or x.regs.r (4 + j) 0) (get_or r.r (4 + j) 0) (c.loop-k.invariant (4 + j) (omega arith) (omega arith)))
    (ap (core_rule r x) e ∙ sym c.differing-found.ensures.value ∙ c.in-Some.is))

pub returns-clause-value : goal.returns-clause-value
returns-clause-value c =
    let r = c.args.r.now in
    let x = c.args.x.now in
    sym (none_from (core_rule r x) 4 8
    (λ j l. not_differing (Reg (R (4 + j))) (get_or x.regs.r (4 + j) 0) (get_or r.r (4 + j) 0) (c.loop-k.invariant (4 + j) (omega arith) (omega arith))))
