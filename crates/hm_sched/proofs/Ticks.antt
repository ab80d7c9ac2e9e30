-- Lines and their ticks, counted, and a schedule with one line more.
use Rattle.std.proofs.Common.{◌≡◌, ℕ, zero, suc, ◌+◌, ◌≤◌, eqb, inl, inr, List, [], ◌∷◌, ◌++◌, length, arith, refl, ap, ◌∙◌, map}
use Rattle.std.proofs.lemmas.Bool.{cases_Bool}
use Rattle.std.specs.List.{All}
use Rattle.std.proofs.lemmas.List.Elements.{All-head, All-tail, All-push}
use Rattle.std.proofs.lemmas.List.Sums.{sum_by-cons, sum_by-append}
use Rattle.std.proofs.lemmas.List.{length-map}
use Rattle.hm_sched.specs.declared.Line.{Line}
use Rattle.hm_sched.specs.Schedule.{TickLine, Sched, line_of, most_irq, most_ticks, total, repeat, ticks_of, IsLine, IsSched}

length-repeat : (n : ℕ) (line : TickLine) (rest : List TickLine) → length (repeat n line rest) ≡ n + length rest
length-repeat zero line rest = omega arith
length-repeat (suc n) line rest = omega (arith, length-repeat n line rest)

pub total-cons : (line : TickLine) (lines : List TickLine) → total (line ∷ lines) ≡ line.count + total lines
total-cons line lines = sum_by-cons (λ (line : TickLine). line.count) line lines

-- there are as many ticks as the counts say
pub length-ticks_of : (lines : List TickLine) → length (ticks_of lines) ≡ total lines
length-ticks_of [] = refl
length-ticks_of (line ∷ lines) = omega (arith, length-repeat line.count line (ticks_of lines), length-ticks_of lines, total-cons line lines)

-- each line has a tick
pub length_le-total : (most : ℕ) (lines : List TickLine) → All (IsLine most) lines → length lines ≤ total lines
length_le-total most [] each = omega arith
length_le-total most (line ∷ lines) each =
    let some : 1 ≤ line.count = (All-head (IsLine most) line lines each).some in
    omega (arith, length_le-total most lines (All-tail (IsLine most) line lines each), total-cons line lines)

-- the lines of the program are no more than the ticks
pub lines_le-most_ticks : (s : Sched) (lines : List Line) → IsSched s → s.lines ≡ map line_of lines → length lines ≤ most_ticks
lines_le-most_ticks s lines sound e =
    let count : length s.lines ≡ length lines = ap length e ∙ length-map lines line_of in
    let ticks : length s.lines ≤ total s.lines = length_le-total (most_irq s.format) s.lines sound.each_line in
    let most : total s.lines ≤ most_ticks = sound.not_too_many in
    omega arith

pub total-push : (lines : List TickLine) (line : TickLine) → total (lines ++ line ∷ []) ≡ total lines + line.count
total-push lines line = omega (arith, sum_by-append (λ (line : TickLine). line.count) lines (line ∷ []))

-- the words hold the interrupts of each format
pub most_irq_few : (format : ℕ) → most_irq format ≤ 256
most_irq_few format = elim (cases_Bool (eqb format 1)) [
  | inl e ↦ rw e (omega arith)
  | inr e ↦ rw e (omega arith)
]

-- a schedule with a line more
abbrev pub with_line : Sched → TickLine → Sched
with_line s line = record s { lines = s.lines ++ line ∷ [] }

pub IsSched-with_line : (s : Sched) (line : TickLine) → IsSched s → IsLine (most_irq s.format) line → total s.lines + line.count ≤ most_ticks
    → IsSched (with_line s line)
IsSched-with_line s line sound one room = record {
  known = sound.known;
  region_start = sound.region_start;
  region_order = sound.region_order;
  region_end = sound.region_end;
  floor_start = sound.floor_start;
  floor_end = sound.floor_end;
  process_start = sound.process_start;
  process_end = sound.process_end;
  one_floor = sound.one_floor;
  each_line = All-push (IsLine (most_irq s.format)) s.lines line sound.each_line one;
  not_too_many = rw (total-push s.lines line) room;
}
