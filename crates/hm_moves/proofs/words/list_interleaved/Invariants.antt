use Rattle.std.proofs.Common.{◌≡◌, ℕ, ◌+◌, ◌-◌, ◌*◌, ◌/◌, ◌%◌, ◌++◌, length, cond, ltb}
use Rattle.std.specs.Prelude.{All}
use Rattle.hm_base.specs.Place.{IsPlace}
use Rattle.hm_base.specs.declared.Place.{Place}
use Rattle.hm_beat.specs.Rows.{word_place}
use Rattle.hm_moves.specs.Moves.{byte_count}
use Rattle.hm_lane.specs.Lanes.{per_word}
use Rattle.hm_moves.specs.Ways.{each_from, registers, stream}
use Rattle.hm_moves.proofs.words.list_interleaved.Given as goal

abbrev pub invariant-loop-i : goal.invariant-loop-i
invariant-loop-i l =
    let f : ℕ → Place = λ i. let k = stream l.w.part l.z l.b + i in
    word_place (l.w.d + k % registers l.w.four) (byte_count l.z * (k / registers l.w.four) / 4) in
    let n = cond (ltb (per_word l.z) (registers l.w.four)) (per_word l.z) (registers l.w.four) in
    record {
      value : l.list.items ++ each_from f l.i (n - l.i) ≡ each_from f 0 n;
      size : length l.list.items ≡ l.i;
      placed : All IsPlace l.list.items;
    }
