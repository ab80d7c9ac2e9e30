-- Schedules: what each tick of a run does.
use Rattle.std.specs.Prelude.{◌≡◌, ℕ, zero, suc, ◌+◌, ◌^◌, ◌<◌, ◌≤◌, ◌⊎◌, Bool, false, List, [], ◌∷◌, length, ◌==◌, if◌then◌else◌}
use Rattle.std.specs.List.{All, sum_by}
use Rattle.hm_base.specs.Image.{sram_start, sram_size}
use Rattle.hm_sched.specs.declared.Line.{Line}
use Rattle.hm_sched.specs.Words.{number_of}

-- so many ticks that do the same: their letters, and eight words that have a bit for each interrupt that arrives
pub record TickLine : Type 0 where
  pub count : ℕ
  pub letters : List ℕ
  pub irq : List ℕ

-- the format, whether exceptions are entered, the region from lo to hi that handlers may store to, the floors of the main and of the process stack,
-- and the lines
pub record Sched : Type 0 where
  pub format : ℕ
  pub entries : Bool
  pub lo : ℕ
  pub hi : ℕ
  pub floor : ℕ
  pub process : ℕ
  pub lines : List TickLine

-- what a line of the program says
abbrev pub line_of : Line → TickLine
line_of l = record { count = l.count; letters = l.letters.items; irq = l.irq }

-- a format names the interrupts below this number
abbrev pub most_irq : ℕ → ℕ
most_irq format = if format == 1 then 32 else 240

-- the number of the first line of ticks: there are four lines before it in format 1, and five in format 2
abbrev pub first_line : ℕ → ℕ
first_line format = if format == 1 then 5 else 6

-- O, a step of the older instruction
abbrev pub older_letter : ℕ
older_letter = 79

-- Y, a step of the younger instruction
abbrev pub younger_letter : ℕ
younger_letter = 89

-- W, all that is left of the older instruction
abbrev pub whole_letter : ℕ
whole_letter = 87

-- no schedule has more ticks
abbrev pub most_ticks : ℕ
most_ticks = 16777216

-- the sum of the counts
abbrev pub total : List TickLine → ℕ
total lines = sum_by (λ line. line.count) lines

-- a line n times, and then the rest
abbrev pub repeat : ℕ → TickLine → List TickLine → List TickLine
repeat zero line rest = rest
repeat (suc n) line rest = line ∷ repeat n line rest

-- the ticks of lines, one after another
abbrev pub ticks_of : List TickLine → List TickLine
ticks_of [] = []
ticks_of (line ∷ lines) = repeat line.count line (ticks_of lines)

-- words with these bits for interrupts 0 to 31, and none for others
abbrev pub low_irq : ℕ → List ℕ
low_irq word = word ∷ 0 ∷ 0 ∷ 0 ∷ 0 ∷ 0 ∷ 0 ∷ 0 ∷ []

-- no interrupts
abbrev pub no_irq : List ℕ
no_irq = low_irq 0

-- n ticks of one whole instruction each
abbrev pub plain_line : ℕ → TickLine
plain_line n = record { count = n; letters = whole_letter ∷ []; irq = no_irq }

-- one line of them, or none where there are no ticks
abbrev pub plain_lines : ℕ → List TickLine
plain_lines zero = []
plain_lines (suc n) = plain_line (suc n) ∷ []

-- the schedule of n ticks of one whole instruction each, of format 1, with no entries and no bytes for handlers
abbrev pub plain : ℕ → Sched
plain n = record { format = 1; entries = false; lo = sram_start; hi = sram_start; floor = sram_start; process = sram_start; lines = plain_lines n }

-- a byte is one of the three letters
abbrev pub IsLetter : ℕ → Type 0
IsLetter c = (c ≡ older_letter) ⊎ (c ≡ younger_letter) ⊎ (c ≡ whole_letter)

-- there are two formats
abbrev pub IsFormat : ℕ → Type 0
IsFormat format = (format ≡ 1) ⊎ (format ≡ 2)

-- a line has a tick at least, at most eight letters, and eight words whose bits stand for interrupts below this number
pub record IsLine (most : ℕ) (line : TickLine) : Type 0 where
  pub some : 1 ≤ line.count
  pub few : length line.letters ≤ 8
  pub each_letter : All IsLetter line.letters
  pub eight : length line.irq ≡ 8
  pub each_word : All (λ word. word < 2 ^ 32) line.irq
  pub interrupts : number_of line.irq < 2 ^ most

-- the region and both floors lie in SRAM or at its end, where format 1 has one floor; each line is one of the format, and there are not too many ticks
pub record IsSched (s : Sched) : Type 0 where
  pub known : IsFormat s.format
  pub region_start : sram_start ≤ s.lo
  pub region_order : s.lo ≤ s.hi
  pub region_end : s.hi ≤ sram_start + sram_size
  pub floor_start : sram_start ≤ s.floor
  pub floor_end : s.floor ≤ sram_start + sram_size
  pub process_start : sram_start ≤ s.process
  pub process_end : s.process ≤ sram_start + sram_size
  pub one_floor : s.format ≡ 1 → s.process ≡ s.floor
  pub each_line : All (IsLine (most_irq s.format)) s.lines
  pub not_too_many : total s.lines ≤ most_ticks
