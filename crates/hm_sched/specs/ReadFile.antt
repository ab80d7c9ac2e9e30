-- Reading the file of a schedule: the schedule, or the first refusal.
use Rattle.std.specs.Prelude.{◌≡◌, ℕ, Bool, true, false, ◌+◌, List, [], ◌∷◌, length, drop, codes, Option, Some, None, ok_or, option_and_then, Result, Ok, Err}
use Rattle.std.specs.Prelude.{◌==◌, nat_eq, nat_lt, ◌||◌, if◌then◌else◌, bytes_eq}
use Rattle.std.specs.List.{starts_with}
use Rattle.hm_base.specs.Image.{sram_start, sram_size}
use Rattle.hm_base.specs.Results.{map_err}
use Rattle.hm_text_base.specs.Marks.{space}
use Rattle.hm_text_base.specs.Reading.{◌>>=◌}
use Rattle.hm_text_base.specs.Spans.{span, Lines, lines_of}
use Rattle.hm_text_base.specs.Numbers.{hex8_in}
use Rattle.hm_sched.specs.declared.errors.LineKind.{LineKind}
use Rattle.hm_sched.specs.declared.errors.LineKind.TheVariants.{Header, Entries, Region, Floor, Process, Newline}
use Rattle.hm_sched.specs.declared.errors.SchedErr.{SchedErr}
use Rattle.hm_sched.specs.declared.errors.SchedErr.TheVariants as refusals
use Rattle.hm_sched.specs.Schedule.{TickLine, Sched, most_irq, first_line, most_ticks}
use Rattle.hm_sched.specs.Written.{header_text}
use Rattle.hm_sched.specs.ReadLine.{ticks_in}

-- the next line, where the k-th should be of this kind
abbrev pub line_at : ℕ → LineKind → Lines → Result (List ℕ × Lines) SchedErr
line_at k kind (l ∷ ls, rest) = Ok (l, (ls, rest))
line_at k kind ([], []) = Err (refusals.Line k kind)
line_at k kind ([], b ∷ rest) = Err (refusals.Line k Newline)

-- the format that the first line names, where it names one
unfoldable pub header_in : List ℕ → Option ℕ
header_in text = if bytes_eq text (header_text 1) then Some 1 else if bytes_eq text (header_text 2) then Some 2 else None

-- whether exceptions are entered, as the second line says, where it says so
unfoldable pub entries_in : List ℕ → Option Bool
entries_in text = if bytes_eq text (codes "entries no") then Some false else if bytes_eq text (codes "entries yes") then Some true else None

-- the two addresses, where they are ends of a region
abbrev pub bounded_region : ℕ → ℕ → Option (ℕ × ℕ)
bounded_region lo hi = if nat_lt lo sram_start || (nat_lt hi lo || nat_lt (sram_start + sram_size) hi) then None else Some (lo, hi)

-- two addresses of eight digits that are ends of a region
abbrev pub addresses_in : List ℕ → List ℕ → Option (ℕ × ℕ)
addresses_in low high = option_and_then (λ lo. option_and_then (λ hi. bounded_region lo hi) (hex8_in high)) (hex8_in low)

-- the ends of the region that the third line gives, where it gives some
unfoldable pub region_in : List ℕ → Option (ℕ × ℕ)
region_in text = if starts_with nat_eq text (codes "region ")
    then (if length (span space (drop 7 text)).1 == 0 then None else addresses_in (span space (drop 7 text)).0 (drop 1 (span space (drop 7 text)).1)) else None

-- the address, where it is that of a floor
abbrev pub bounded_floor : ℕ → Option ℕ
bounded_floor a = if nat_lt a sram_start || nat_lt (sram_start + sram_size) a then None else Some a

-- the floor of the main stack that the fourth line gives, where it gives one
unfoldable pub floor_in : List ℕ → Option ℕ
floor_in text = if starts_with nat_eq text (codes "floor ") then option_and_then bounded_floor (hex8_in (drop 6 text)) else None

-- the floor of the process stack that the fifth line gives, where it gives one
unfoldable pub process_in : List ℕ → Option ℕ
process_in text = if starts_with nat_eq text (codes "process ") then option_and_then bounded_floor (hex8_in (drop 8 text)) else None

-- the floor of the process stack, and the lines behind its own: in format 1 it has none and is the floor of the main stack
unfoldable pub process_from : ℕ → ℕ → Lines → Result (ℕ × Lines) SchedErr
process_from format floor ls = if format == 1 then Ok (floor, ls) else do
  fifth ← line_at 5 Process ls
  process ← ok_or (process_in fifth.0) (refusals.Line 5 Process)
  Ok (process, fifth.1)

-- a refusal of the k-th line
abbrev pub on_line : {A : Type 0} → ℕ → Result A LineKind → Result A SchedErr
on_line k = map_err (refusals.Line k)

-- the lines of ticks from the k-th line on, with interrupts below most, after lines with so many ticks
unfoldable pub lines_in : ℕ → ℕ → ℕ → List (List ℕ) → List ℕ → Result (List TickLine) SchedErr
lines_in most k before [] [] = Ok []
lines_in most k before [] (b ∷ rest) = Err (refusals.Line k Newline)
lines_in most k before (l ∷ ls) rest = do
  t ← on_line k (ticks_in most l)
  sum ← if nat_lt most_ticks (before + t.count) then Err (refusals.TooManyTicks k) else Ok (before + t.count)
  ts ← lines_in most (k + 1) sum ls rest
  Ok (t ∷ ts)

-- the schedule with the lines that were read
abbrev pub with_lines : Sched → Result (List TickLine) SchedErr → Result Sched SchedErr
with_lines s read = read >>= λ lines. Ok (record s { lines = lines })

-- all of a file, or the first refusal
unfoldable pub file_in : List ℕ → Result Sched SchedErr
file_in bytes = do
  first ← line_at 1 Header (lines_of bytes)
  format ← ok_or (header_in first.0) (refusals.Line 1 Header)
  second ← line_at 2 Entries first.1
  entries ← ok_or (entries_in second.0) (refusals.Line 2 Entries)
  third ← line_at 3 Region second.1
  region ← ok_or (region_in third.0) (refusals.Line 3 Region)
  fourth ← line_at 4 Floor third.1
  floor ← ok_or (floor_in fourth.0) (refusals.Line 4 Floor)
  process ← process_from format floor fourth.1
  lines ← lines_in (most_irq format) (first_line format) 0 process.1.0 process.1.1
  Ok (record { format = format; entries = entries; lo = region.0; hi = region.1; floor = floor; process = process.0; lines = lines })

-- a refusal is that of reading, and want of memory says nothing
abbrev pub Fails : {Y : Type 0} → SchedErr → Result Y SchedErr → Type 0
Fails refusals.OutOfMemory read = Unit {0}
Fails (refusals.Line k kind) read = read ≡ Err (refusals.Line k kind)
Fails (refusals.TooManyTicks k) read = read ≡ Err (refusals.TooManyTicks k)

-- what a function returned, seen by view, is what reading gives, unless memory was wanted
abbrev pub Gives : {X Y : Type 0} → (X → Y) → Result X SchedErr → Result Y SchedErr → Type 0
Gives view (Ok x) read = read ≡ Ok (view x)
Gives view (Err e) read = Fails e read
