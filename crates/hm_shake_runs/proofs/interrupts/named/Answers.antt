use Rattle.std.proofs.Common.{◌≡◌, ◌-◌, ◌+◌, ◌<◌, ◌∙◌, ap, arith, sym}
use Rattle.hm_sched.specs.Schedule.{most_irq}
use Rattle.hm_shake_runs.specs.Heads.{named_from}
use Rattle.hm_shake_runs.proofs.Turns.{moved, named_turn, unnamed_turn}
use Rattle.hm_shake_runs.proofs.interrupts.named.Goals.{then-is_named+in_ok-push, else-is_named}
use Rattle.hm_shake_runs.proofs.interrupts.named.Goals as goal

pub loop-n-preserved : goal.loop-n-preserved
loop-n-preserved c =
    let most = most_irq c.args.s.now.format in
    let n = c.loop-n.n in
    let end : c.most_irq-n-end.result ≡ most = c.most_irq-n-end.ensures.value ∙ ap most_irq c.format.ensures.value in
    let lt : n < most = omega arith in
    elim c.if-is_named.branch [
      | then-is_named+in_ok-push w ↦
          moved c.loop-n.irqs.items c.if-is_named.irqs.items (named_from c.args.s.now.lines (most - (n + 1)) (n + 1)) _ _ n
          (ap (λ v. v.items) w.irqs-is ∙ w.in_ok-push.ensures.items)
          (named_turn c.args.s.now.lines most n lt (sym c.is_named.ensures.value ∙ w.if-is_named.true)) c.loop-n.invariant
      | else-is_named w ↦
          let same = unnamed_turn c.args.s.now.lines most n lt (sym c.is_named.ensures.value ∙ w.if-is_named.false) in
          let before = c.loop-n.invariant in
          cc
    ]
