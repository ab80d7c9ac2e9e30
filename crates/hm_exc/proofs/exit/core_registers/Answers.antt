use Rattle.std.proofs.Common.{◌≡◌, ℕ, ◌<◌, ◌∙◌, arith, length, length-set, subst}
use Rattle.hm_exc.proofs.Filled.{Filled, one_filled, all_but_one}
use Rattle.hm_exc.proofs.Words.{word-low, word-12}
use Rattle.hm_exc.specs.Entry.{window_in}
use Rattle.hm_exc.proofs.exit.core_registers.Goals as goal

pub loop-k-preserved : goal.loop-k-preserved
loop-k-preserved c =
    let x = c.args.x.now in
    let lt : c.loop-k.k < 4 = omega arith in
    let room : c.loop-k.k < length c.loop-k.core = omega arith in
    record {
      filled = one_filled x.regs.r c.args.r.now.r c.loop-k.core c.loop-k.k c.stacked.result c.loop-k.invariant.filled room
          (c.stacked.ensures.value ∙ word-low x.regs (window_in x) c.loop-k.k lt);
      count = length-set c.loop-k.core c.loop-k.k c.stacked.result ∙ c.loop-k.invariant.count;
    }

pub returns : goal.returns
returns c =
    let x = c.args.x.now in
    let e : c.loop-k.k ≡ 4 = omega arith in
    record {
      value = all_but_one x.regs.r c.args.r.now.r c.loop-k.core 4 12 c.stacked-2.result c.loop-k.invariant.count c.in_range.ensures.counted.r_count
          (subst (λ (k : ℕ). Filled x.regs.r c.args.r.now.r k c.loop-k.core) e c.loop-k.invariant.filled) (omega arith) c.requires.core
          (c.stacked-2.ensures.value ∙ word-12 x.regs (window_in x));
    }
