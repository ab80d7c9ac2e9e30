use Rattle.std.proofs.Common.{◌≡◌, ◌+◌, Bool, true, cond, drop, set, get_or, Some, None, sym, ap, ◌∙◌, rules, arith}
use Rattle.std.proofs.lemmas.List.{length-set}
use Rattle.hm_ihex.specs.Cells.{is_free, put_in}
use Rattle.hm_ihex.proofs.Loops.{put_more}
use Rattle.hm_ihex.proofs.areas.put.Goals as goal

pub loop-byte-preserved : goal.loop-byte-preserved
loop-byte-preserved c =
    let cells = c.loop-byte.cells.items in
    let bytes = c.args.bytes.now in
    let k = c.loop-byte.byte-index in
    let free : is_free c.loop-byte.next cells ≡ true = search rules in
    let next : c.loop-byte.next ≡ c.args.at + k = c.loop-byte.invariant.next in
    record {
      next = omega arith;
      put = sym (put_more bytes cells k c.loop-byte.next c.loop-byte-test.true
          ∙ ap (λ (b : Bool). cond b (put_in (c.loop-byte.next + 1) (drop (k + 1) bytes) (set cells c.loop-byte.next (Some (get_or bytes k 0)))) None) free)
          ∙ c.loop-byte.invariant.put;
      size = length-set cells c.loop-byte.next (Some (get_or bytes k 0)) ∙ c.loop-byte.invariant.size;
    }
