use Rattle.std.proofs.Common.{◌≡◌, ℕ, ◌<◌, ◌≤◌, [], arith, length, length-set, subst, ◌∙◌}
use Rattle.hm_exc.specs.Frame.{frame_bytes, frame_size}
use Rattle.std.proofs.lemmas.List.{length-replicate}
use Rattle.hm_exc.proofs.Filled.{Filled, none_filled, one_filled, padded, zeros}
use Rattle.hm_exc.proofs.Stacked.{length-frame_bytes}
use Rattle.hm_exc.proofs.frame.frame_bytes.Goals as goal

pub loop-k-init : goal.loop-k-init
loop-k-init c = record { filled = none_filled (frame_bytes c.args.r.now c.args.w) [] _ (λ j. zeros 104 j); count = length-replicate {A = ℕ} 104 0 }

pub loop-k-preserved : goal.loop-k-preserved
loop-k-preserved c =
    let room : c.loop-k.k < length c.loop-k.bytes = omega arith in
    record {
      filled = one_filled (frame_bytes c.args.r.now c.args.w) [] c.loop-k.bytes c.loop-k.k c.frame_byte.result c.loop-k.invariant.filled room
          c.frame_byte.ensures.value;
      count = length-set c.loop-k.bytes c.loop-k.k c.frame_byte.result ∙ c.loop-k.invariant.count;
    }

pub returns : goal.returns
returns c =
    let n : c.loop-k.k ≡ frame_size c.args.r.now.fpca = omega arith in
    let l : frame_size c.args.r.now.fpca ≤ 104 = omega arith in
    record {
      value = padded (frame_bytes c.args.r.now c.args.w) c.loop-k.bytes (frame_size c.args.r.now.fpca) 104 c.loop-k.invariant.count
          (length-frame_bytes c.args.r.now c.args.w c.in_range.ensures.counted.qw_count) l
          (subst (λ (k : ℕ). Filled (frame_bytes c.args.r.now c.args.w) [] k c.loop-k.bytes) n c.loop-k.invariant.filled);
    }
