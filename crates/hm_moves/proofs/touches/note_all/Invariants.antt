use Rattle.std.proofs.Common.{◌≡◌, ◌+◌, ◌≤◌, drop, length}
use Rattle.hm_base.specs.Place.{noted_all}
use Rattle.hm_moves.proofs.touches.note_all.Given as goal

abbrev pub invariant-loop-k : goal.invariant-loop-k
invariant-loop-k l = record {
  value : l.places ≡ noted_all (drop l.k l.list) l.initial.places;
  few : length l.places + l.k ≤ length l.initial.places + length l.list;
}
