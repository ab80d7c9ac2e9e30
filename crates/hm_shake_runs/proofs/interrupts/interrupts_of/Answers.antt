use Rattle.std.proofs.Common.{◌≡◌, ◌<◌, ◌∙◌, ℕ, List, ap, arith, length, subst, sym}
use Rattle.std.proofs.lemmas.Grind.{common_steps}
use Rattle.std.proofs.lemmas.List.Elements.{All-same}
use Rattle.std.proofs.lemmas.Result.{IfOk-weaker}
use Rattle.hm_sched.specs.Schedule.{most_irq}
use Rattle.hm_shake_runs.specs.Heads.{named, numbers_from}
use Rattle.hm_shake_runs.proofs.Turns.{few_named, length-numbers_from, most_irq_240, named_below, numbers_below, some_named}
use Rattle.hm_shake_runs.proofs.interrupts.interrupts_of.Goals as goal

pub returns-then-is_empty-clause-each : goal.returns-then-is_empty-clause-each
returns-then-is_empty-clause-each c =
    let most = most_irq c.args.s.now.format in
    let same : most_irq c.format.result ≡ most = ap most_irq c.format.ensures.value in
    IfOk-weaker c.all.result (λ irqs. irqs.items ≡ numbers_from (most_irq c.format.result) 0) _
    (λ irqs e. All-same (λ n. n < most) irqs.items (numbers_from (most_irq c.format.result) 0) e
    (numbers_below (most_irq c.format.result) 0 most (omega arith)))
    c.all.ensures.value

pub returns-clause-value : goal.returns-clause-value
returns-clause-value c =
    let some : 0 < length c.in_ok-irqs.irqs.items = grind (arith, common_steps) in
    let is = c.in_ok-irqs.ensures.value in
    is ∙ sym (some_named c.args.s.now.format (named c.args.s.now) (subst (λ (xs : List ℕ). 0 < length xs) is some))

pub returns-clause-each : goal.returns-clause-each
returns-clause-each c =
    let most = most_irq c.args.s.now.format in
    All-same (λ n. n < most) c.in_ok-irqs.irqs.items (named c.args.s.now) c.in_ok-irqs.ensures.value (named_below c.args.s.now.lines most 0 most (omega arith))

pub returns-then-is_empty-clause-few : goal.returns-then-is_empty-clause-few
returns-then-is_empty-clause-few c =
    let few = most_irq_240 c.format.result in
    IfOk-weaker c.all.result (λ irqs. irqs.items ≡ numbers_from (most_irq c.format.result) 0) _
    (λ irqs e. let same = ap length e ∙ length-numbers_from (most_irq c.format.result) 0 in omega arith)
    c.all.ensures.value

pub returns-clause-few : goal.returns-clause-few
returns-clause-few c =
    let same = ap length c.in_ok-irqs.ensures.value in
    let few = few_named c.args.s.now.lines (most_irq c.args.s.now.format) 0 in
    let most = most_irq_240 c.args.s.now.format in
    omega arith
