-- STRETCHES of ticks that are alike, and the schedules that they make.
use Rattle.std.specs.Prelude.{ℕ, zero, suc, ◌+◌, ◌-◌, ◌^◌, ◌≤◌, ◌<◌, List, [], ◌∷◌, ◌++◌, map, Option, Some, None, nat_le, if◌then◌else◌, IfSome}
use Rattle.hm_sched.specs.Schedule.{Sched, TickLine, no_irq, older_letter}
use Rattle.hm_sched.specs.Words.{words_of}
use Rattle.hm_shake_runs.specs.declared.stretches.Stretch.{Stretch}

-- n letters O
abbrev pub steps : ℕ → List ℕ
steps zero = []
steps (suc n) = older_letter ∷ steps n

-- the eight words of an interrupt, or of none
abbrev pub irq_words : Option ℕ → List ℕ
irq_words None = no_irq
irq_words (Some n) = words_of 8 (2 ^ n)

-- the line of a stretch
abbrev pub stretch_line : Stretch → TickLine
stretch_line x = record { count = x.count; letters = steps x.letters; irq = irq_words x.irq }

-- a stretch has a tick at least, of one to four letters, and an interrupt below this number or none
pub record IsStretch (most : ℕ) (x : Stretch) : Type 0 where
  pub some : 1 ≤ x.count
  pub eight_digits : x.count ≤ 99999999
  pub some_letters : 1 ≤ x.letters
  pub few_letters : x.letters ≤ 4
  pub named : IfSome x.irq (λ n. n < most)

-- behind the lines of a schedule stand those of stretches
abbrev pub with_stretches : List Stretch → Sched → Sched
with_stretches xs s = record s { lines = s.lines ++ map stretch_line xs }

-- 1 for an interrupt, 0 for none
abbrev pub one_if : Option ℕ → ℕ
one_if None = 0
one_if (Some n) = 1

-- in how many stretches an interrupt arrives
abbrev pub interrupts_in : List Stretch → ℕ
interrupts_in [] = 0
interrupts_in (x ∷ xs) = one_if x.irq + interrupts_in xs

-- a stretch of so many ticks at most, or none
abbrev pub first_of : ℕ → Stretch → List Stretch
first_of zero x = []
first_of (suc n) x = record x { count = if nat_le x.count (suc n) then x.count else suc n } ∷ []

-- THE FIRST n TICKS of stretches
abbrev pub cut : ℕ → List Stretch → List Stretch
cut n [] = []
cut n (x ∷ xs) = first_of n x ++ cut (n - x.count) xs

-- a stretch without its interrupt
abbrev pub quiet : Stretch → Stretch
quiet x = record x { irq = None }

-- stretches without their first n interrupts
abbrev pub quieted : ℕ → List Stretch → List Stretch
quieted zero xs = xs
quieted (suc n) [] = []
quieted (suc n) (x ∷ xs) = quiet x ∷ quieted (suc n - one_if x.irq) xs

-- STRETCHES WITHOUT n INTERRUPTS behind the first k
abbrev pub without : ℕ → ℕ → List Stretch → List Stretch
without zero n xs = quieted n xs
without (suc k) n [] = []
without (suc k) n (x ∷ xs) = x ∷ without (suc k - one_if x.irq) n xs
