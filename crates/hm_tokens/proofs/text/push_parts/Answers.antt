use Rattle.std.proofs.Common.{arith, map}
use Rattle.std.proofs.lemmas.List.{length-append}
use Rattle.hm_tokens.specs.Lines.{spelled}
use Rattle.hm_tokens.specs.Texts.{part_token}
use Rattle.hm_tokens.proofs.Pushed.{gap_left, room_left}
use Rattle.hm_tokens.proofs.text.push_parts.Goals as goal

pub push_gap-requires : goal.push_gap-requires
push_gap-requires c =
    let whole = length-append c.args.out.now.bytes (spelled (map part_token c.args.parts.now)) in
    record {
      room = gap_left c.loop-part.out.bytes _ c.loop-part.after_word c.args.parts.now c.loop-part.part-index _ c.loop-part-test.true
          c.loop-part.invariant (omega (arith, whole, c.requires.room));
    }

pub push_part-requires : goal.push_part-requires
push_part-requires c =
    let whole = length-append c.args.out.now.bytes (spelled (map part_token c.args.parts.now)) in
    record {
      room = room_left c.loop-part.out.bytes _ _ c.loop-part.after_word c.args.parts.now c.loop-part.part-index _ c.push_gap.ensures.bytes
          c.loop-part-test.true c.loop-part.invariant (omega (arith, whole, c.requires.room));
    }
