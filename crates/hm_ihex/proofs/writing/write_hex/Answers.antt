use Rattle.std.proofs.Common.{◌+◌, ◌<◌, ◌≤◌, ◌++◌, List, drop, length, ap, sym, ◌∙◌, rules}
use Rattle.hm_base.specs.Image.{Segment, segment}
use Rattle.hm_ihex.specs.Files.{hex_in}
use Rattle.hm_ihex.specs.Written.{all_pieces, text_of}
use Rattle.hm_ihex.proofs.Pieces.{segments_done, segments_more}
use Rattle.hm_ihex.proofs.ReadBack.{are_bytes, bytes_below, read_back_is}
use Rattle.hm_ihex.proofs.writing.write_hex.Goals as goal

pub loop-k-preserved : goal.loop-k-preserved
loop-k-preserved c =
    let image = c.args.image.now in
    let k = c.loop-k.k in
    let s = segment c.segment-address.result.0 c.segment-address.result.1.now in
    let below : k < length image = search rules in
    record {
      added = c.in_ok-upper.ensures.added (all_pieces (drop (k + 1) image))
          ∙ ap (λ (ps : List Segment). c.loop-k.out.items ++ text_of c.loop-k.upper ps) (sym (segments_more image k s below c.segment-address.ensures.value))
          ∙ c.loop-k.invariant.added;
      bytes = bytes_below image k s c.segment-address.ensures.value c.in_ok-upper.ensures.bytes c.loop-k.invariant.bytes;
    }

pub returns : goal.returns
returns c =
    let image = c.args.image.now in
    let k = c.loop-k.k in
    let past : length image ≤ k = search rules in
    let text = c.in_ok-text.ensures ∙ ap (λ (ps : List Segment). c.loop-k.out.items ++ text_of c.loop-k.upper ps) (sym (segments_done image k past))
    ∙ c.loop-k.invariant.added in
    let sound = are_bytes image k past c.loop-k.invariant.bytes in
    record { text = text; read_back = ap hex_in text ∙ read_back_is image c.len-k-end.ensures.sound sound }
