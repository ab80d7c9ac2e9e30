use Rattle.std.proofs.Common.{◌∙◌, arith, get_or, sym}
use Rattle.hm_shake_runs.proofs.Turns.{counts_none, counts_one, interrupts_turn, none}
use Rattle.hm_shake_runs.proofs.stretches.interrupts_in.Goals.{then-is_some, else-is_some}
use Rattle.hm_shake_runs.proofs.stretches.interrupts_in.Goals as goal

pub loop-stretch-preserved : goal.loop-stretch-preserved
loop-stretch-preserved c =
    let turn = interrupts_turn c.args.stretches.now c.loop-stretch.stretch-index c.loop-stretch-test.true in
    let irq = (get_or c.args.stretches.now c.loop-stretch.stretch-index none).irq in
    elim c.if-is_some.branch [
      | then-is_some w ↦ let one = counts_one irq (sym c.is_some.ensures ∙ w.if-is_some.true) in record { so_far = omega arith; few = omega arith }
      | else-is_some w ↦ let zero = counts_none irq (sym c.is_some.ensures ∙ w.if-is_some.false) in record { so_far = omega arith; few = omega arith }
    ]
