use Rattle.std.proofs.Common.{◌≡◌, [], length}
use Rattle.hm_exc.specs.Frame.{frame_bytes}
use Rattle.hm_exc.proofs.Filled.{Filled}
use Rattle.hm_exc.proofs.frame.frame_bytes.Given as goal

abbrev pub invariant-loop-k : goal.invariant-loop-k
invariant-loop-k l = record { filled : Filled (frame_bytes l.r l.w) [] l.k l.bytes; count : length l.bytes ≡ 104 }
