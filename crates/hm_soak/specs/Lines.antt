-- Lines that are added to a schedule.
use Rattle.std.specs.Prelude.{◌++◌, List}
use Rattle.hm_sched.specs.Schedule.{Sched, TickLine}

-- behind the old lines stand these, and nothing else changes
abbrev pub with_lines : List TickLine → Sched → Sched
with_lines lines s = record s { lines = s.lines ++ lines }
