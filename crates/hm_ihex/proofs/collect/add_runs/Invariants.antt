use Rattle.std.proofs.Common.{◌≡◌, ◌+◌, ◌-◌, ◌≤◌, ◌++◌, All, drop, length}
use Rattle.hm_ihex.specs.Cells.{runs}
use Rattle.hm_ihex.proofs.collect.add_runs.Given as goal

abbrev pub invariant-loop-at : goal.invariant-loop-at
invariant-loop-at l = record {
  within : l.at ≤ length l.cells;
  added : l.image ++ runs (l.start + l.at) (drop l.at l.cells) ≡ l.initial.image ++ runs l.start l.cells;
  behind : All (λ s. s.addr + length s.bytes ≤ l.start + l.at) l.image;
}

abbrev pub decreases-loop-at : goal.decreases-loop-at
decreases-loop-at l = length l.cells - l.at
