-- What comes next: a list that begins with another, a run by the ticks that were done, and instructions in order from any state.
use Rattle.std.specs.Prelude.{◌≡◌, ℕ, zero, suc, ◌+◌, List, [], ◌∷◌, ◌++◌, take}
use Rattle.hm_codes.specs.Listing.{Listing}
use Rattle.hm_run.specs.InOrder.{InOrder, Running, Halted, Full, Faulted, one_more}
use Rattle.hm_run.specs.Timed.{or_out}
use Rattle.hm_sched.specs.Schedule.{Sched, TickLine, ticks_of}
use Rattle.hm_run_laws.specs.Runs.{Run, tick}

-- THE OUTPUT: the second begins with the first
abbrev pub Begins : List ℕ → List ℕ → Type 0
Begins old new = (more : List ℕ) × (new ≡ old ++ more)

-- RUNS BY THEIR TICKS: what so many ticks leave, one after another, whatever ticks there are besides
abbrev pub after_ticks : Listing → Sched → List TickLine → Run → Run
after_ticks listing s [] x = x
after_ticks listing s (line ∷ lines) x = after_ticks listing s lines (tick listing s line x)

-- The same but for their formats and lines, and the first t ticks are the same.
pub record SameTicks (s u : Sched) (t : ℕ) : Type 0 where
  pub entries : s.entries ≡ u.entries
  pub lo : s.lo ≡ u.lo
  pub hi : s.hi ≡ u.hi
  pub floor : s.floor ≡ u.floor
  pub process : s.process ≡ u.process
  pub ticks : take t (ticks_of s.lines) ≡ take t (ticks_of u.lines)

-- The same run so far: the same machine, as many ticks and the same entries; and one outcome, where to be out of ticks is to run.
pub record SameSoFar (x y : Run) : Type 0 where
  pub machine : x.machine ≡ y.machine
  pub ticks : x.ticks ≡ y.ticks
  pub entries : x.entries ≡ y.entries
  pub outcome : or_out x.outcome ≡ or_out y.outcome

-- INSTRUCTIONS IN ORDER from anywhere: k more, of which n were done
abbrev pub more : Listing → ℕ → ℕ → InOrder → InOrder
more listing n zero y = y
more listing n (suc k) y = one_more listing (n + k) (more listing n k y)

-- what is numbered is numbered from n on
abbrev pub counted_from : ℕ → InOrder → InOrder
counted_from n (Running s) = Running s
counted_from n (Halted reason k s) = Halted reason (n + k) s
counted_from n (Full k s) = Full (n + k) s
counted_from n (Faulted kind pc addr k) = Faulted kind pc addr (n + k)
