use Rattle.std.proofs.Common.{ℕ, ◌%◌, ap, sym, ◌∙◌}
use Rattle.hm_exc.proofs.Stacked.{frame_byte-is}
use Rattle.hm_mem.specs.Devices.{byte_of}
use Rattle.hm_exc.proofs.frame.frame_byte.Goals as goal

pub returns : goal.returns
returns c =
    record {
      value = ap (λ (v : ℕ). byte_of v (c.args.k % 4)) c.frame_word-word.ensures.value
          ∙ sym (frame_byte-is c.args.r.now c.args.w c.args.k c.in_range.ensures.counted.qw_count c.requires.byte);
    }
