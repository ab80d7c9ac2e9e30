use Rattle.std.proofs.Common.{◌≡◌, ◌+◌, ◌-◌, ◌*◌, ◌/◌, ◌++◌}
use Rattle.hm_debug.specs.Lines.{memory_lines}
use Rattle.hm_machine.specs.Shown.{timed_of}
use Rattle.hm_debug.proofs.memory.add_memory.Given as goal

abbrev pub invariant-loop-row : goal.invariant-loop-row
invariant-loop-row l =
    l.out.items ++ memory_lines (timed_of l.machine).config.state (l.addr + l.row * 16) (l.len - l.row * 16) ((l.len + 15) / 16 - l.row)
    ≡ l.initial.out.items ++ memory_lines (timed_of l.machine).config.state l.addr l.len ((l.len + 15) / 16)
