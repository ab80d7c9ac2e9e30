-- THE INSTRUCTIONS OF A TICK, and the beats of each that are done before it and after it.
use Rattle.std.specs.Prelude.{ℕ, ◌+◌, ◌-◌, ◌%◌, ◌^◌, Bool, true, false, not, ◌&&◌, ◌||◌, nat_eq, nat_le, nat_lt, if◌then◌else◌, List, [], ◌∷◌, ◌++◌, length}
use Rattle.std.specs.Prelude.{slice_get, Option, Some, None}
use Rattle.std.specs.List.{count_by}
use Rattle.hm_run.specs.Timed.{Timed}
use Rattle.hm_run.specs.declared.Outcome.{Outcome}
use Rattle.hm_run.specs.declared.Outcome.TheVariants as outcome
use Rattle.hm_run.specs.declared.Who.TheVariants as who
use Rattle.hm_sched.specs.Schedule.{older_letter, whole_letter}
use Rattle.hm_trace.specs.Marks.{enters, returns}
use Rattle.hm_trace.specs.Stands.{Past, interrupted_or, newest_or, stand_of}
use Rattle.hm_trace.specs.declared.marks.Mark.{Mark}
use Rattle.hm_trace.specs.declared.progress.Progress.{Progress}
use Rattle.hm_trace.specs.declared.stands.Stand.{Stand}

-- where the letters of a tick ended: where stands what an entry at its end interrupted, else where the run stands
abbrev pub end_of : Mark → Timed → Stand
end_of mark y = if enters mark then newest_or y.acts (stand_of y) else stand_of y

-- whether a run ended before its ticks were out
abbrev pub is_cut : Option Outcome → Bool
is_cut None = false
is_cut (Some outcome.OutOfTicks) = false
is_cut (Some o) = true

-- whether an entry was refused, behind all letters of a tick
abbrev pub is_refused_entry : Option Outcome → Bool
is_refused_entry (Some (outcome.StackSpent t sp)) = true
is_refused_entry (Some (outcome.Fault who.Entry f pc n)) = true
is_refused_entry o = false

-- how often a letter stands among those of a tick
abbrev pub count_of : ℕ → List ℕ → ℕ
count_of c letters = count_by (nat_eq c) letters

-- whether the letters of a tick did beats of one older instruction and no more: it is at the same address, with a beat more for each letter of the older
abbrev pub goes_on : List ℕ → Stand → Stand → Bool
goes_on letters from to = nat_eq (count_of whole_letter letters) 0 && nat_eq to.pc from.pc && nat_eq to.older (from.older + count_of older_letter letters)

-- whether a run that ended among the letters of a tick stands at the same address as before it, with no fewer beats
abbrev pub stays_at : Stand → Stand → Bool
stays_at from to = nat_eq to.pc from.pc && nat_le from.older to.older

-- whether the instruction at which a tick began is not done behind its letters, which ended there: no handler returned, and it goes on
abbrev pub is_left : Past → Mark → Stand → Option Outcome → Bool
is_left p mark to o = if returns mark then false else (if is_cut o && not (is_refused_entry o) then stays_at p.stand to else goes_on p.line.letters p.stand to)

-- how many handlers of before are left where so many are active: all of those, but for one that entered
abbrev pub left_of : Mark → ℕ → ℕ
left_of mark depth = if enters mark then depth - 1 else depth

-- where what the letters of a tick ended at stood before the tick: where the run did, or what the oldest of the handlers that returned had interrupted
abbrev pub base_of : Past → Mark → ℕ → Stand
base_of p mark depth = if returns mark then interrupted_or (slice_get p.active (left_of mark depth)) p.stand else p.stand

-- the address behind an instruction that is done by beats
abbrev pub behind : ℕ → ℕ
behind a = (a + 4) % 2 ^ 32

-- the instruction at which a tick began, where it is done
abbrev pub done_progress : Stand → Progress
done_progress from = record { addr = from.pc; before = from.older; after = 4 }

-- the beats that were done before a tick of the instruction at which its letters ended, where that is the older one of before, or one behind it
abbrev pub older_before : Bool → Stand → Stand → ℕ
older_before same base to = if same && nat_eq to.pc base.pc then base.older else (if nat_eq to.pc (behind base.pc) then base.younger else 0)

-- the beats that were done before it of the one behind that
abbrev pub younger_before : Bool → Stand → Stand → ℕ
younger_before same base to = if same && nat_eq to.pc base.pc then base.younger else 0

-- the instruction at which the letters of a tick ended
abbrev pub older_progress : Bool → Stand → Stand → Progress
older_progress same base to = record { addr = to.pc; before = older_before same base to; after = to.older }

-- and the one behind it
abbrev pub younger_progress : Bool → Stand → Stand → Progress
younger_progress same base to = record { addr = behind to.pc; before = younger_before same base to; after = to.younger }

-- one or none
abbrev pub shown_if : Bool → Progress → List Progress
shown_if b p = if b then p ∷ [] else []

-- the one at which a tick began, where it is done; the one at which its letters ended, where a beat of it is done, the tick began at it, or the run
-- ended there; and the one behind that, where a beat of it is done
abbrev pub progresses_at : Bool → Bool → Stand → Progress → Progress → List Progress
progresses_at left cut from older younger =
    shown_if (not left) (done_progress from) ++ (shown_if (left || cut || nat_lt 0 older.after) older ++ shown_if (nat_lt 0 younger.after) younger)

-- the same, where what entered or returned, where the letters ended, what that was before, whether the instruction of before is left and the outcome are known
abbrev pub progresses_to : Past → Mark → Stand → Stand → Bool → Option Outcome → List Progress
progresses_to p mark to base left o =
    let same = left || returns mark in
    progresses_at left (is_cut o) p.stand (older_progress same base to) (younger_progress same base to)

-- THE INSTRUCTIONS OF A TICK, each with its beats
abbrev pub progresses : Past → Mark → Timed → List Progress
progresses p mark y =
    let to = end_of mark y in
    progresses_to p mark to (base_of p mark (length y.acts)) (is_left p mark to y.outcome) y.outcome
