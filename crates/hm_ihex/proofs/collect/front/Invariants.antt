use Rattle.std.proofs.Common.{◌≡◌, ◌++◌, drop}
use Rattle.hm_ihex.specs.Cells.{front_of}
use Rattle.hm_ihex.proofs.collect.front.Given as goal

abbrev pub invariant-loop-cell : goal.invariant-loop-cell
invariant-loop-cell l = l.bytes.items ++ front_of (drop l.cell-index l.cells) ≡ front_of l.cells
