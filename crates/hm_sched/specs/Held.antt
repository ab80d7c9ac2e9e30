-- A schedule as the program holds it.
use Rattle.std.specs.Prelude.{◌≡◌, map}
use Rattle.hm_sched.specs.declared.Schedule.TheInside.{Inside}
use Rattle.hm_sched.specs.Schedule.{Sched, line_of, total, IsSched}

-- what the fields of a schedule say
abbrev pub schedule_view : Inside → Sched
schedule_view a = record {
  format = a.format;
  entries = a.entries;
  lo = a.lo;
  hi = a.hi;
  floor = a.floor;
  process = a.process;
  lines = map line_of a.lines.items;
}

-- they say a schedule, and the number of its ticks
pub record IsSchedule (a : Inside) : Type 0 where
  pub sound : IsSched (schedule_view a)
  pub sum : a.total ≡ total (schedule_view a).lines
