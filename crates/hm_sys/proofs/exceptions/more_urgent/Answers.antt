use Rattle.std.proofs.Common.{sym, ◌∙◌, subst, ap, ℕ}
use Rattle.std.specs.Prelude.{Option}
use Rattle.hm_sys.proofs.Picked.{more_urgent_first, still_first}
use Rattle.hm_sys.specs.Best.{IsBest}
use Rattle.hm_sys.specs.Exceptions.{is_eligible}
use Rattle.hm_sys.proofs.exceptions.more_urgent.Goals as goal

pub returns-then-is_eligible-2 : goal.returns-then-is_eligible-2
returns-then-is_eligible-2 c =
    let d = c.args.d.now in
    let so = subst (λ (b : Option ℕ). IsBest d c.args.current c.args.e b) c.in-Some.is c.requires.so_far in
    let e = ap (λ (p : ℕ). is_eligible d p c.args.e) c.priority.ensures.value in
    record { next = more_urgent_first d c.args.current c.args.e c.in-Some.f so (sym e ∙ sym c.is_eligible-in-Some.ensures.value ∙ c.if-is_eligible-2.true) }

pub returns-else-is_eligible-2 : goal.returns-else-is_eligible-2
returns-else-is_eligible-2 c =
    let d = c.args.d.now in
    let so = subst (λ (b : Option ℕ). IsBest d c.args.current c.args.e b) c.in-Some.is c.requires.so_far in
    let e = ap (λ (p : ℕ). is_eligible d p c.args.e) c.priority.ensures.value in
    record { next = still_first d c.args.current c.args.e c.in-Some.f so (sym e ∙ sym c.is_eligible-in-Some.ensures.value ∙ c.if-is_eligible-2.false) }
