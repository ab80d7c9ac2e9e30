use Rattle.std.proofs.Common.{◌≡◌, ◌∙◌, List, ap, arith, get_or, set, subst, sym}
use Rattle.hm_shake_runs.specs.Found.{IsNoted, counted}
use Rattle.hm_shake_runs.specs.declared.found.Found.{Found}
use Rattle.hm_shake_runs.proofs.Counting.{noted_at, noted_last}
use Rattle.hm_shake_runs.proofs.found.Tally.note.Goals as goal

pub returns-in-Some-clause-noted : goal.returns-in-Some-clause-noted
returns-in-Some-clause-noted c =
    let e = c.args.ended in
    let xs = c.args.self.now.kinds.items in
    let k = c.in-Some.k in
    let x = c.index.result.now in
    let is : c.with_one.result ≡ counted (get_or xs k x) e c.args.run = c.with_one.ensures.value ∙ ap (λ (y : Found). counted y e c.args.run) c.index.ensures in
    subst (λ (y : Found). IsNoted e c.args.run xs (set xs k y)) (sym is)
    (noted_at e c.args.run xs k x c.in-Some.ensures.within (c.in-Some.ensures.there x) (λ j lt. c.in-Some.ensures.first j x (omega arith) lt))

pub returns-in_ok-push-in-None-clause-noted : goal.returns-in_ok-push-in-None-clause-noted
returns-in_ok-push-in-None-clause-noted c =
    subst (λ (ys : List Found). IsNoted c.args.ended c.args.run c.args.self.now.kinds.items ys) (sym c.in_ok-push-in-None.ensures.items)
    (noted_last c.args.ended c.args.run c.args.self.now.kinds.items (c.place.ensures.none c.in-None.is))
