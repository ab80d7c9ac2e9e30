-- RUNS WITHOUT ENTRIES: the schedule under which ticks are given one by one.
use Rattle.std.specs.Prelude.{List, [], false}
use Rattle.hm_base.specs.Image.{sram_start}
use Rattle.hm_codes.specs.Listing.{Listing}
use Rattle.hm_run.specs.Program.{Program}
use Rattle.hm_run.specs.Timed.{thread_program}
use Rattle.hm_sched.specs.Schedule.{TickLine, Sched}

-- a schedule of format 1 without entries, with an empty region and the lowest floor
abbrev pub bare : List TickLine → Sched
bare lines = record { format = 1; entries = false; lo = sram_start; hi = sram_start; floor = sram_start; process = sram_start; lines = lines }

-- the program of an image under such a schedule, whatever its ticks
abbrev pub bare_program : Listing → Program
bare_program listing = thread_program listing (bare [])
