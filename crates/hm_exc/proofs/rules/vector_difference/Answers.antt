use Rattle.std.proofs.Common.{◌≡◌, ◌+◌, ◌-◌, arith, ap, sym, ◌∙◌, get_or}
use Rattle.hm_base.specs.declared.Place.TheVariants.{QWord}
use Rattle.hm_exc.specs.Return.{vector_rule}
use Rattle.hm_exc.specs.declared.types.Slot.TheVariants.{Reg}
use Rattle.hm_exc.proofs.Compared.{none_from, some_from, not_differing}
use Rattle.hm_exc.proofs.rules.vector_difference.Goals as goal

pub returns-in-Some-clause-value : goal.returns-in-Some-clause-value
returns-in-Some-clause-value c =
    let r = c.args.r.now in
    let x = c.args.x.now in
    let e : 16 + (c.loop-k.k - 16) ≡ c.loop-k.k = omega arith in
    sym (some_from (vector_rule r x) 16 16 (c.loop-k.k - 16) c.in-Some.difference (omega arith)
    (λ j l. not_differing (Reg (QWord (16 + j))) (get_or x.regs.qw (16 + j) 0) (get_or r.qw (16 + j) 0)
    (c.loop-k.invariant (16 + j) (omega arith) (omega arith)))
    (ap (vector_rule r x) e ∙ sym c.differing-found.ensures.value ∙ c.in-Some.is))

pub returns-clause-value : goal.returns-clause-value
returns-clause-value c =
    let r = c.args.r.now in
    let x = c.args.x.now in
    sym (none_from (vector_rule r x) 16 16
    (λ j l. not_differing (Reg (QWord (16 + j))) (get_or x.regs.qw (16 + j) 0) (get_or r.qw (16 + j) 0)
    (c.loop-k.invariant (16 + j) (omega arith) (omega arith))))
