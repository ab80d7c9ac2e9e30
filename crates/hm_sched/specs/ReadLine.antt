-- Reading a line of ticks: what it says, or what of it is bad first.
use Rattle.std.specs.Prelude.{ℕ, Bool, not, ◌+◌, ◌^◌, List, [], ◌∷◌, length, drop, codes, Option, Some, None, ok_or, option_and_then, Result, Ok, Err, ◌==◌}
use Rattle.std.specs.Prelude.{nat_eq, nat_lt, nat_le, ◌||◌, if◌then◌else◌, bytes_eq}
use Rattle.std.specs.List.{list_all, slice_split, starts_with}
use Rattle.hm_text_base.specs.Marks.{space}
use Rattle.hm_text_base.specs.Reading.{◌>>=◌}
use Rattle.hm_text_base.specs.Spans.{span}
use Rattle.hm_text_base.specs.Numbers.{number_in}
use Rattle.hm_sched.specs.declared.errors.LineKind.{LineKind}
use Rattle.hm_sched.specs.declared.errors.LineKind.TheVariants.{Count, Steps, Irq}
use Rattle.hm_sched.specs.declared.tick_text.Ticks.{Ticks}
use Rattle.hm_sched.specs.Words.{words_of}
use Rattle.hm_sched.specs.Schedule.{TickLine, older_letter, younger_letter, whole_letter}

-- what the program reads in a line of ticks
abbrev pub said : Ticks → TickLine
said t = record { count = t.count; letters = t.letters.now; irq = t.irq }

-- O, Y or W
abbrev pub is_letter : ℕ → Bool
is_letter c = (c == older_letter) || ((c == younger_letter) || (c == whole_letter))

-- the count, and what follows its star
abbrev pub after_count : Option ℕ → List ℕ → Result (ℕ × List ℕ) LineKind
after_count None rest = Err Count
after_count (Some n) rest = if n == 0 then Err Count else Ok (n, rest)

-- a text that has a star has a count before the first
abbrev pub counted : List ℕ → List ℕ × List ℕ → Result (ℕ × List ℕ) LineKind
counted text (front, []) = Ok (1, text)
counted text (front, mark ∷ rest) = after_count (number_in front) rest

-- the mark between a count and letters
abbrev pub star : ℕ
star = 42

-- the count of a line, and the text behind it
unfoldable pub count_in : List ℕ → Result (ℕ × List ℕ) LineKind
count_in text = counted text (span star text)

-- the letters of a dash or of one to eight letters
unfoldable pub steps_in : List ℕ → Option (List ℕ)
steps_in text = if bytes_eq text (codes "-") then Some [] else if (length text == 0) || (nat_lt 8 (length text) || not (list_all is_letter text)) then None
    else Some text

-- a bit for each number, which is to be least or more and below most, after those that gave these bits
unfoldable pub numbers_in : ℕ → ℕ → ℕ → List (List ℕ) → Option ℕ
numbers_in most least bits [] = Some bits
numbers_in most least bits (word ∷ words) =
    option_and_then (λ n. if nat_lt n least || nat_le most n then None else numbers_in most (n + 1) (bits + 2 ^ n) words) (number_in word)

-- the bits of the interrupts, which are none where the text is empty
unfoldable pub irq_in : ℕ → List ℕ → Option ℕ
irq_in most text = if length text == 0 then Some 0
    else if starts_with nat_eq text (codes " irq ") then numbers_in most 0 0 (slice_split (λ b. b == space) (drop 5 text)) else None

-- the count, the steps up to the first space, and the interrupts from there on
unfoldable pub ticks_in : ℕ → List ℕ → Result TickLine LineKind
ticks_in most text = do
  c ← count_in text
  s ← ok_or (steps_in (span space c.1).0) Steps
  i ← ok_or (irq_in most (span space c.1).1) Irq
  Ok (record { count = c.0; letters = s; irq = words_of 8 i })
