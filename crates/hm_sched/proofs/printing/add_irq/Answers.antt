use Rattle.std.proofs.Common.{◌<◌, ◌^◌, ◌/◌, ◌∙◌, sym, refl, arith}
use Rattle.std.proofs.lemmas.List.Elements.{All-from_get_or}
use Rattle.hm_sched.specs.Words.{number_of}
use Rattle.hm_sched.proofs.WordLaws.{IsWord, number_fits, is_clear, not_clear}
use Rattle.hm_sched.proofs.PrintLaws.{ones_step, zeros_step, irq_done, no_irq, none_printed}
use Rattle.hm_sched.proofs.printing.add_irq.Goals as goal
use Rattle.hm_sched.proofs.printing.add_irq.Goals.{then-has_irq+in_ok-text-2+in_ok-decimal, else-has_irq}

pub returns-then-is_empty : goal.returns-then-is_empty
returns-then-is_empty c = no_irq c.args.out.now.items (number_of c.args.irq.now)
    (is_clear c.args.irq.now c.is_empty.result c.is_empty.ensures.value c.if-is_empty.true)

pub loop-n-init : goal.loop-n-init
loop-n-init c = rw (none_printed (number_of c.args.irq.now)) refl

pub loop-n-preserved : goal.loop-n-preserved
loop-n-preserved c =
    elim c.if-has_irq.branch [
      | then-has_irq+in_ok-text-2+in_ok-decimal w ↦
          rw (w.out-is, w.in_ok-decimal.ensures, w.in_ok-text-2.ensures)
          (ones_step c.loop-n.out.items c.loop-n.n (number_of c.args.irq.now) _ c.loop-n-test.true (sym c.has_irq.ensures.value ∙ w.if-has_irq.true)
          c.loop-n.invariant)
      | else-has_irq w ↦ rw w.out-is
          (zeros_step c.loop-n.out.items c.loop-n.n (number_of c.args.irq.now) _ c.loop-n-test.true (sym c.has_irq.ensures.value ∙ w.if-has_irq.false)
          c.loop-n.invariant)
    ]

pub returns : goal.returns
returns c =
    let fits : number_of c.args.irq.now < 2 ^ 256 = number_fits 8 c.args.irq.now c.told-irq (All-from_get_or IsWord c.args.irq.now 0 (λ i _. c.fits-irq i)) in
    irq_done c.args.out.now.items c.loop-n.out.items (number_of c.args.irq.now) (number_of c.args.irq.now / 2 ^ c.loop-n.n) c.loop-n.n
    (not_clear c.args.irq.now c.is_empty.result c.is_empty.ensures.value c.if-is_empty.false) fits (omega arith)
    (rw c.in_ok-text.ensures at c.loop-n.invariant)
