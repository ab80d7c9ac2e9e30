use Rattle.std.proofs.Common.{◌≡◌, ℕ, ◌+◌, ◌-◌, ◌++◌, ◌∙◌, ap}
use Rattle.hm_base.specs.Draws.{draw, drawn}
use Rattle.hm_shake_runs.specs.Shaken.{interrupt_part, pairs}
use Rattle.hm_shake_runs.proofs.Turns.{pairs_turn}
use Rattle.hm_shake_runs.proofs.making.add_pairs.Goals as goal

pub loop-k-preserved : goal.loop-k-preserved
loop-k-preserved c =
    let x = c.loop-k.x in
    let irqs = c.args.irqs.now in
    let two : c.draw-x.result ≡ drawn 2 x = c.draw-x.ensures.value ∙ ap draw c.draw.ensures.value in
    let four : c.draw-x-in-loop-k.result ≡ drawn 4 x = c.draw-x-in-loop-k.ensures.value ∙ ap draw (c.draw-in-loop-k.ensures.value ∙ ap draw two) in
    ap (λ (y : ℕ). c.add_interrupt.new.out.items ++ pairs (c.args.count - (c.loop-k._k + 1)) c.args.gap irqs y) four
    ∙ pairs_turn c.loop-k.out.items c.add_gap.new.out.items c.add_interrupt.new.out.items c.args.count c.loop-k._k c.args.gap irqs x c.loop-k-test.true
    c.in_ok-add_gap.ensures.added (c.in_ok-add_interrupt.ensures.added ∙ ap (λ (y : ℕ). c.add_gap.new.out.items ++ interrupt_part irqs y) two)
    ∙ c.loop-k.invariant
