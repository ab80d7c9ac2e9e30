-- The text of a schedule.
use Rattle.std.specs.Prelude.{◌≡◌, ℕ, Bool, true, false, ◌+◌, ◌^◌, ◌<◌, ◌≤◌, List, [], ◌∷◌, ◌++◌, length, map, codes, decimal, Option, Some, None, unwrap_or}
use Rattle.std.specs.Prelude.{IfSome, ◌==◌, if◌then◌else◌}
use Rattle.std.specs.List.{All, AllByRecursion, join_with_byte, flat_map}
use Rattle.hm_text_base.specs.Marks.{space}
use Rattle.hm_text_base.specs.Texts.{hex8}
use Rattle.hm_text_base.specs.Spans.{line}
use Rattle.hm_sched.specs.Words.{words_of}
use Rattle.hm_sched.specs.Schedule.{TickLine, Sched, most_irq, IsLetter, IsSched}

-- ---- a line of ticks

-- what a line of ticks writes: a count, which may be left out where it is 1, the letters, and the numbers of interrupts
pub record Written : Type 0 where
  pub count : Option ℕ
  pub letters : List ℕ
  pub numbers : List ℕ

-- a count has a star behind it
abbrev pub count_text : Option ℕ → List ℕ
count_text None = []
count_text (Some n) = decimal n ++ codes "*"

-- the letters, or a dash where there are none
abbrev pub steps_text : List ℕ → List ℕ
steps_text [] = codes "-"
steps_text (c ∷ cs) = c ∷ cs

-- the numbers of interrupts, where there are some
abbrev pub irq_text : List ℕ → List ℕ
irq_text [] = []
irq_text (n ∷ ns) = codes " irq " ++ join_with_byte space (map decimal (n ∷ ns))

-- the line: count, steps and interrupts
abbrev pub ticks_text : Written → List ℕ
ticks_text w = count_text w.count ++ (steps_text w.letters ++ irq_text w.numbers)

-- rising numbers from least on, all below most
abbrev pub IsRising : ℕ → ℕ → List ℕ → Type 0
IsRising most least [] = Unit {0}
IsRising most least (n ∷ ns) = (least ≤ n) × (n < most) × IsRising most (n + 1) ns

-- a count has one to eight digits and is not 0, there are at most eight letters, and the interrupts rise and are below most
pub record IsWritten (most : ℕ) (w : Written) : Type 0 where
  pub count : IfSome w.count (λ n. (1 ≤ n) × (n < 10 ^ 8))
  pub few : length w.letters ≤ 8
  pub each_letter : All IsLetter w.letters
  pub numbers : IsRising most 0 w.numbers

-- a bit for each of the numbers
abbrev pub bits_of : List ℕ → ℕ
bits_of [] = 0
bits_of (n ∷ ns) = 2 ^ n + bits_of ns

-- what the line says
abbrev pub meaning : Written → TickLine
meaning w = record { count = unwrap_or w.count 1; letters = w.letters; irq = words_of 8 (bits_of w.numbers) }

-- ---- a file

-- the first line names the format
abbrev pub header_text : ℕ → List ℕ
header_text format = if format == 1 then codes "helium-schedule 1" else codes "helium-schedule 2"

-- the second line says whether exceptions are entered
abbrev pub entries_text : Bool → List ℕ
entries_text true = codes "entries yes"
entries_text false = codes "entries no"

-- the third line has the two ends of the region
abbrev pub region_text : ℕ → ℕ → List ℕ
region_text lo hi = codes "region " ++ (hex8 lo ++ space ∷ hex8 hi)

-- the fourth line has the floor of the main stack
abbrev pub floor_text : ℕ → List ℕ
floor_text a = codes "floor " ++ hex8 a

-- the fifth line of format 2 has the floor of the process stack
abbrev pub process_text : ℕ → List ℕ
process_text a = codes "process " ++ hex8 a

-- that line, which format 1 lacks
abbrev pub process_lines : ℕ → ℕ → List (List ℕ)
process_lines format a = if format == 1 then [] else process_text a ∷ []

-- the lines before the lines of ticks
abbrev pub head_lines : Sched → List (List ℕ)
head_lines s = header_text s.format ∷ entries_text s.entries ∷ region_text s.lo s.hi ∷ floor_text s.floor ∷ process_lines s.format s.process

-- the bytes are a file of the schedule s, whose lines of ticks are written so
pub record Writes (bytes : List ℕ) (written : List Written) (s : Sched) : Type 0 where
  pub bytes_are : bytes ≡ flat_map line (head_lines s ++ map ticks_text written)
  pub each_fits : AllByRecursion (IsWritten (most_irq s.format)) written
  pub lines_are : s.lines ≡ map meaning written
  pub sound : IsSched s

-- the bytes are a file of the schedule s
abbrev pub IsFile : List ℕ → Sched → Type 0
IsFile bytes s = (written : List Written) × Writes bytes written s
