use Rattle.std.proofs.Common.{◌≡◌, ◌+◌, drop, length}
use Rattle.hm_ihex.specs.Cells.{put_in}
use Rattle.hm_ihex.proofs.areas.put.Given as goal

abbrev pub invariant-loop-byte : goal.invariant-loop-byte
invariant-loop-byte l = record {
  next : l.next ≡ l.at + l.byte-index;
  put : put_in l.next (drop l.byte-index l.bytes) l.cells.items ≡ put_in l.at l.bytes l.initial.cells.items;
  size : length l.cells.items ≡ length l.initial.cells.items;
}
