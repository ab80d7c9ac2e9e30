use Rattle.std.proofs.Common.{◌≤◌, ℕ, List, length}
use Rattle.hm_line.specs.Columns.{IsOperand}
use Rattle.hm_line.proofs.OperandColumns.{Passes}
use Rattle.hm_line.proofs.columns.operand_column.Given as goal

abbrev pub invariant-loop-left : goal.invariant-loop-left
invariant-loop-left l = record {
  behind : (there : List ℕ) → IsOperand l.text l.n there → Passes l.left l.inside l.rest there;
  before : (there : List ℕ) → Passes l.left l.inside l.rest there → IsOperand l.text l.n there;
  within : length l.rest ≤ length l.text;
}

abbrev pub decreases-loop-left : goal.decreases-loop-left
decreases-loop-left l = length l.rest
