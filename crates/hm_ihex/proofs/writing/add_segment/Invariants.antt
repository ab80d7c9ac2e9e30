use Rattle.std.proofs.Common.{◌≡◌, ℕ, ◌+◌, ◌-◌, ◌<◌, ◌≤◌, ◌++◌, List, drop, get_or, length}
use Rattle.hm_base.specs.Image.{Segment}
use Rattle.hm_ihex.specs.Written.{pieces, text_of}
use Rattle.hm_ihex.proofs.writing.add_segment.Given as goal

abbrev pub invariant-loop-at : goal.invariant-loop-at
invariant-loop-at l = record {
  within : l.at ≤ length l.bytes;
  bytes : (k : ℕ) → k < length l.bytes → get_or l.bytes k 0 < 256;
  added : (rest : List Segment) → l.out.items ++ text_of l.upper (pieces (length l.bytes - l.at) (l.address + l.at) (drop l.at l.bytes) ++ rest)
      ≡ l.initial.out.items ++ text_of l.last (pieces (length l.bytes) l.address l.bytes ++ rest);
}

abbrev pub decreases-loop-at : goal.decreases-loop-at
decreases-loop-at l = length l.bytes - l.at
