-- The one text that a schedule is printed as.
use Rattle.std.specs.Prelude.{ℕ, zero, suc, ◌+◌, ◌/◌, ◌%◌, List, [], ◌∷◌, ◌++◌, map, Some, None, ◌==◌, if◌then◌else◌}
use Rattle.std.specs.List.{flat_map}
use Rattle.hm_text_base.specs.Spans.{line}
use Rattle.hm_sched.specs.Words.{number_of}
use Rattle.hm_sched.specs.Schedule.{TickLine, Sched}
use Rattle.hm_sched.specs.Written.{Written, irq_text, steps_text, ticks_text, head_lines}

-- the places of the ones among the lowest bits, so many of them, where the lowest is called k
unfoldable pub ones_from : ℕ → ℕ → ℕ → List ℕ
ones_from zero k bits = []
ones_from (suc more) k bits = if bits % 2 == 1 then k ∷ ones_from more (k + 1) (bits / 2) else ones_from more (k + 1) (bits / 2)

-- what a line of ticks writes where it is printed: a count of 1 is left out
abbrev pub printed : TickLine → Written
printed t = record { count = if t.count == 1 then None else Some t.count; letters = t.letters; numbers = ones_from 256 0 (number_of t.irq) }

-- the text of what each tick of a line does: its letters and its interrupts
abbrev pub tick_text : TickLine → List ℕ
tick_text t = steps_text t.letters ++ irq_text (ones_from 256 0 (number_of t.irq))

-- the head, and a line of ticks for each line
abbrev pub file_text : Sched → List ℕ
file_text s = flat_map line (head_lines s ++ map (λ t. ticks_text (printed t)) s.lines)
