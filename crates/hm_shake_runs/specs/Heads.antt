-- WHAT A SCHEDULE SAYS BESIDE ITS TICKS, and the interrupts that its lines name.
use Rattle.std.specs.Prelude.{ℕ, zero, suc, ◌+◌, ◌/◌, ◌%◌, ◌^◌, ◌==◌, ◌||◌, Bool, false, List, [], ◌∷◌, if◌then◌else◌}
use Rattle.hm_sched.specs.Schedule.{Sched, TickLine, most_irq, plain_lines}
use Rattle.hm_sched.specs.Words.{number_of}
use Rattle.hm_shake_runs.specs.declared.head.Head.{Head}

-- the schedule that says this and has no ticks
abbrev pub bare : Head → Sched
bare h = record { format = h.format; entries = h.entries; lo = h.lo; hi = h.hi; floor = h.floor; process = h.process; lines = [] }

-- n ticks of one whole instruction each, with this region and these floors, in which no exception enters
abbrev pub whole_ticks : Head → ℕ → Sched
whole_ticks h n = record (bare h) { entries = false; lines = plain_lines n }

-- words have the bit of interrupt n
abbrev pub words_name : ℕ → List ℕ → Bool
words_name n irq = number_of irq / 2 ^ n % 2 == 1

-- a line names it
abbrev pub is_named : List TickLine → ℕ → Bool
is_named [] n = false
is_named (line ∷ lines) n = words_name n line.irq || is_named lines n

-- those of n interrupts, from k on, that lines name
abbrev pub named_from : List TickLine → ℕ → ℕ → List ℕ
named_from lines zero k = []
named_from lines (suc n) k = if is_named lines k then k ∷ named_from lines n (k + 1) else named_from lines n (k + 1)

-- the interrupts that a schedule names, rising
abbrev pub named : Sched → List ℕ
named s = named_from s.lines (most_irq s.format) 0

-- n numbers, from k on
abbrev pub numbers_from : ℕ → ℕ → List ℕ
numbers_from zero k = []
numbers_from (suc n) k = k ∷ numbers_from n (k + 1)

-- these interrupts, or where there are none, all that a format names
abbrev pub all_or : ℕ → List ℕ → List ℕ
all_or format [] = numbers_from (most_irq format) 0
all_or format (n ∷ irqs) = n ∷ irqs

-- THE INTERRUPTS THAT ARE DRAWN FROM
-- those that the lines of a schedule name, or where they name none all of its format
abbrev pub interrupts_of : Sched → List ℕ
interrupts_of s = all_or s.format (named s)
