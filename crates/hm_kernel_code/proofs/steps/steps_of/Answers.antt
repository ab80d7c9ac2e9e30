use Rattle.std.proofs.Common.{rules, arith}
use Rattle.hm_kernel_code.proofs.Summing.{steps_next}
use Rattle.hm_kernel_code.proofs.steps.steps_of.Goals as goal

pub loop-line-preserved : goal.loop-line-preserved
loop-line-preserved c =
    let x = c.args.text.now in
    record {
      value = steps_next x.element x.count x.lines.items c.loop-line.line-index c.line-item.result c.loop-line.total c.line_steps-total.result (search rules)
          (search rules) c.loop-line.invariant.value
          c.line_steps-total.ensures.value;
      small = omega arith;
    }
