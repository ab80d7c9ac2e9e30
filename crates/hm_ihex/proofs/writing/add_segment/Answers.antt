use Rattle.std.proofs.Common.{◌≡◌, ◌⊎◌, ◌+◌, ◌-◌, ◌<◌, ◌≤◌, ◌++◌, ℕ, drop, length, take, subst, refl}
use Rattle.std.specs.List.{flat_map}
use Rattle.hm_text_base.specs.Spans.{line}
use Rattle.hm_ihex.specs.Written.{base_lines, pieces, room_at}
use Rattle.hm_ihex.proofs.Pieces.{no_piece, on_piece, piece_at}
use Rattle.hm_ihex.proofs.ReadBack.{bytes_from}
use Rattle.hm_ihex.proofs.writing.add_segment.Goals as goal

pub loop-at-preserved : goal.loop-at-preserved
loop-at-preserved c =
    let bytes = c.args.bytes.now in
    let at = c.loop-at.at in
    let start = c.args.address + at in
    let end = c.piece_end-end.result in
    let h : ((at + room_at start ≤ length bytes) × (end ≡ at + room_at start)) ⊎ ((length bytes < at + room_at start) × (end ≡ length bytes))
    = subst (λ (r : ℕ). ((at + r ≤ length bytes) × (end ≡ at + r)) ⊎ ((length bytes < at + r) × (end ≡ length bytes))) c.room_at.ensures.value
    c.piece_end-end.ensures.end in
    let piece = piece_at c.args.address at end bytes c.loop-at-test.true h in
    record {
      within = c.piece_end-end.ensures.last;
      bytes = c.loop-at.invariant.bytes;
      added = λ rest. on_piece c.loop-at.out.items (c.loop-at.out.items ++ flat_map line (base_lines c.loop-at.upper start)) c.add_piece.new.out.items
          c.loop-at.upper start (take (end - at) (drop at bytes))
          (pieces (length bytes - at) start (drop at bytes)) (pieces (length bytes - end) (c.args.address + end) (drop end bytes)) rest _
          refl c.in_ok-add_piece.ensures.added piece.first (c.loop-at.invariant.added rest);
    }

pub returns : goal.returns
returns c = record {
  added = λ rest. no_piece c.loop-at.out.items c.loop-at.upper (length c.args.bytes.now - c.loop-at.at) c.args.address c.loop-at.at c.args.bytes.now rest _
      c.loop-at-test.false (c.loop-at.invariant.added rest);
  bytes = bytes_from c.args.bytes.now c.loop-at.invariant.bytes;
}
