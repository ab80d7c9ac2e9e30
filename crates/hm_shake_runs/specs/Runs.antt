-- SCHEDULES OF THE LETTER O.
use Rattle.std.specs.Prelude.{◌≡◌}
use Rattle.std.specs.List.{All}
use Rattle.hm_sched.specs.Schedule.{Sched, TickLine, older_letter}

-- a line has letters O alone
abbrev pub IsOlder : TickLine → Type 0
IsOlder line = All (λ c. c ≡ older_letter) line.letters

-- a schedule has letters O alone
abbrev pub AreOlder : Sched → Type 0
AreOlder s = All IsOlder s.lines
