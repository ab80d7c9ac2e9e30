use Rattle.std.proofs.Common.{◌++◌, List, ℕ, drop, ap, ◌+◌, ◌∙◌, arith}
use Rattle.hm_elf.specs.WriteImage.{all_bytes}
use Rattle.hm_elf.proofs.WriteLaws.{bytes_step}
use Rattle.hm_elf.proofs.writing.contents.Goals as goal

pub loop-k-preserved : goal.loop-k-preserved
loop-k-preserved c =
    let image = c.args.image.now in
    let k = c.loop-k.k in
    let bytes = c.segment-address.result.1.now in
    ap (λ (x : List ℕ). x ++ all_bytes (drop (k + 1) image)) c.in_ok-text.ensures
    ∙ bytes_step c.loop-k.out.items k c.segment-address.result.0 bytes image (c.args.out.now.items ++ all_bytes image) (omega arith)
    c.segment-address.ensures.value c.loop-k.invariant
