use Rattle.std.proofs.Common.{◌+◌, ◌<◌, drop, length, ap, sym, arith, ◌∙◌}
use Rattle.hm_base.specs.declared.Place.TheVariants.{R}
use Rattle.hm_regs.specs.Writes.{apply}
use Rattle.hm_regs.specs.declared.Regs.{Regs}
use Rattle.hm_moves.specs.Coded.{puts_of}
use Rattle.hm_moves.proofs.Loops.{drop_at}
use Rattle.hm_moves.proofs.beats.put_each.Goals as goal

pub loop-w-preserved : goal.loop-w-preserved
loop-w-preserved c =
    let low : c.loop-w.w-index < length c.args.ws.now = omega arith in
    record {
      value = ap (apply (puts_of (drop (c.loop-w.w-index + 1) c.args.ws.now))) c.set.ensures.value
          ∙ sym (ap (λ xs. apply (puts_of xs) c.loop-w.r) (drop_at (record { place = R 0; value = 0 }) c.args.ws.now c.loop-w.w-index low))
          ∙ c.loop-w.invariant.value;
      context = ap (λ (g : Regs). g.fpca) c.set.ensures.elsewhere.registers ∙ c.loop-w.invariant.context;
    }
