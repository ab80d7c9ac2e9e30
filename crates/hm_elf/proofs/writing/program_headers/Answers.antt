use Rattle.std.proofs.Common.{◌++◌, List, ℕ, length, drop, ap, ◌+◌, ◌∙◌, arith}
use Rattle.hm_base.specs.Image.{Segment, segment_at}
use Rattle.hm_elf.specs.WriteImage.{program_headers}
use Rattle.hm_elf.proofs.WriteLaws.{headers_step, placed_short}
use Rattle.hm_elf.proofs.writing.program_headers.Goals as goal

pub loop-k-preserved : goal.loop-k-preserved
loop-k-preserved c =
    let image = c.args.image.now in
    let k = c.loop-k.k in
    let bytes = c.segment-address.result.1.now in
    let short = placed_short (segment_at image k) c.segment-address.ensures.placed in
    let same = ap (λ (s : Segment). length s.bytes) c.segment-address.ensures.value in
    record {
      so_far = ap (λ (x : List ℕ). x ++ program_headers (c.loop-k.offset + length bytes) (drop (k + 1) image)) c.in_ok-program_header.ensures
          ∙ headers_step c.loop-k.out.items c.loop-k.offset k c.segment-address.result.0 bytes image
          (c.args.out.now.items ++ program_headers c.args.start image) (omega arith) c.segment-address.ensures.value c.loop-k.invariant.so_far;
      near = omega arith;
    }
