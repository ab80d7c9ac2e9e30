-- WHAT ENTERED OR RETURNED IN A TICK.
use Rattle.std.specs.Prelude.{ℕ, Bool, true, false, nat_lt, if◌then◌else◌, length}
use Rattle.hm_run_laws.specs.Runs.{Run, shown}
use Rattle.hm_machine.specs.Shown.{Shown, timed_of}
use Rattle.hm_trace.specs.declared.marks.Mark.{Mark}
use Rattle.hm_trace.specs.declared.marks.Mark.TheVariants.{Nothing, Entry, Return, Both}

-- whether an exception entered
abbrev pub enters : Mark → Bool
enters Nothing = false
enters Entry = true
enters Return = false
enters Both = true

-- whether a handler returned
abbrev pub returns : Mark → Bool
returns Nothing = false
returns Entry = false
returns Return = true
returns Both = true

-- what entered or returned, by how many handlers were active before a tick and after it, and whether an exception entered at its end: a handler returned where,
-- without the one that entered, fewer are active than before
abbrev pub mark_of : ℕ → ℕ → Bool → Mark
mark_of old new true = if nat_lt old new then Entry else Both
mark_of old new false = if nat_lt new old then Return else Nothing

-- what entered or returned between two runs, the second a tick after the first
abbrev pub mark_between : Run → Run → Mark
mark_between x y = mark_of (length (shown x).acts) (length (shown y).acts) (nat_lt (length x.entries) (length y.entries))

-- the same by what machines show
abbrev pub mark_seen : Shown → Shown → Mark
mark_seen m n = mark_of (length (timed_of m).acts) (length (timed_of n).acts) (nat_lt m.entries n.entries)
