use Rattle.std.proofs.Common.{◌≡◌, ◌-◌, ◌%◌, ◌≤◌}
use Rattle.hm_mem.specs.Memory.{flash_at, memory_of}
use Rattle.hm_listing.proofs.LinesLeft.{AreLeft}
use Rattle.hm_listing.proofs.lines.add_lines.Given as goal

-- the lines that are left, behind those that were added, are the lines of the range
abbrev pub invariant-loop-at : goal.invariant-loop-at
invariant-loop-at l = record {
  even : l.at % 2 ≡ 0;
  within : l.at ≤ l.hi;
  lines : AreLeft (flash_at (memory_of l.m)) l.lo l.at l.hi l.initial.out.items l.out.items;
}

abbrev pub decreases-loop-at : goal.decreases-loop-at
decreases-loop-at l = l.hi - l.at
