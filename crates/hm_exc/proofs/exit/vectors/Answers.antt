use Rattle.std.proofs.Common.{◌≡◌, ℕ, ◌<◌, arith, length, length-set, ◌∙◌, subst}
use Rattle.hm_exc.proofs.Filled.{Filled, one_filled, all_filled}
use Rattle.hm_exc.proofs.exit.vectors.Goals as goal

pub loop-k-preserved : goal.loop-k-preserved
loop-k-preserved c =
    let room : c.loop-k.k < length c.loop-k.words = omega arith in
    record {
      filled = one_filled c.args.x.now.regs.qw c.args.r.now.qw c.loop-k.words c.loop-k.k c.low_vector.result c.loop-k.invariant.filled room
          c.low_vector.ensures.value;
      count = length-set c.loop-k.words c.loop-k.k c.low_vector.result ∙ c.loop-k.invariant.count;
    }

pub returns : goal.returns
returns c =
    let x = c.args.x.now in
    let e : c.loop-k.k ≡ 16 = omega arith in
    record {
      value = all_filled x.regs.qw c.args.r.now.qw c.loop-k.words 16 32 c.loop-k.invariant.count c.in_range.ensures.counted.qw_count
          (subst (λ (k : ℕ). Filled x.regs.qw c.args.r.now.qw k c.loop-k.words) e c.loop-k.invariant.filled) c.requires.high;
    }
