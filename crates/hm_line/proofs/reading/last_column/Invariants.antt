use Rattle.std.proofs.Common.{◌≤◌, ℕ, List, length}
use Rattle.hm_line.specs.Texts.{IsLast}
use Rattle.hm_line.proofs.reading.last_column.Given as goal

abbrev pub invariant-loop-token : goal.invariant-loop-token
invariant-loop-token l = record {
  last : (h : List ℕ) → IsLast l.text h → IsLast l.rest h;
  within : length l.rest ≤ length l.text;
}

abbrev pub decreases-loop-token : goal.decreases-loop-token
decreases-loop-token l = length l.rest
