-- How many ticks a run has begun: the end of a tick is one more, and where no ticks are left the outcome alone changes.
use Rattle.std.proofs.Common.{◌≡◌, ℕ, ◌+◌, refl, Bool, true, false, cond, List, [], ◌∷◌, Option, Some, None, Result, Ok, Err}
use Rattle.hm_exc.specs.Entry.{entry_refusal}
use Rattle.hm_exc.specs.declared.types.EnterErr.{EnterErr}
use Rattle.hm_order.specs.Machine.{Broken, Stopped}
use Rattle.hm_run.specs.Timed.{bounds_of}
use Rattle.hm_sched.specs.Schedule.{Sched, TickLine}
use Rattle.hm_state.specs.State.{regs_of}
use Rattle.hm_whole.specs.Whole.{seen_in}
use Rattle.hm_window.specs.Positions.{may_end}
use Rattle.hm_run_laws.specs.Nested.{Ended, Nested, NestedEnd, Offends, TickEnd}
use Rattle.hm_run_laws.specs.Runs.{Pointers, Run, after_count, closed, ended, enters, enters_unless, may_enter, picks, stops}

-- WHERE NO TICKS ARE LEFT
pub closed_machine : (left : List TickLine) (x : Run) → (closed left x).machine ≡ x.machine
closed_machine [] x = refl
closed_machine (line ∷ left) x = refl

pub closed_ticks : (left : List TickLine) (x : Run) → (closed left x).ticks ≡ x.ticks
closed_ticks [] x = refl
closed_ticks (line ∷ left) x = refl

pub closed_entries : (left : List TickLine) (x : Run) → (closed left x).entries ≡ x.entries
closed_entries [] x = refl
closed_entries (line ∷ left) x = refl

-- THE END OF A TICK
stops_ticks : (t k : ℕ) (younger : Bool) (e : NestedEnd) (es : List Pointers) → (stops t k younger e es).ticks ≡ t
stops_ticks t k younger (Ended (Stopped c w) acts) es = refl
stops_ticks t k younger (Ended (Broken c r) acts) es = refl
stops_ticks t k younger (Offends what c acts) es = refl

either_ticks : (b : Bool) (x y : Run) (n : ℕ) → x.ticks ≡ n → y.ticks ≡ n → (cond b x y).ticks ≡ n
either_ticks true x y n e f = e
either_ticks false x y n e f = f

module _ (s : Sched) where
  unless_ticks : (e : ℕ) (o : Option EnterErr) (x : Run) → (enters_unless s e o x).ticks ≡ x.ticks
  unless_ticks e None x = refl
  unless_ticks e (Some why) x = refl

  enters_ticks : (o : Option ℕ) (x : Run) → (enters s o x).ticks ≡ x.ticks
  enters_ticks None x = refl
  enters_ticks (Some e) x = let t = x.machine.config.state in unless_ticks e (entry_refusal (bounds_of s) (regs_of t) (seen_in t) e) x

  may_enter_ticks : (x : Run) → (may_enter s x).ticks ≡ x.ticks
  may_enter_ticks x = either_ticks s.entries (enters s (picks x) x) x x.ticks (enters_ticks (picks x) x) refl

  pub ended_ticks : (line : TickLine) (x : Run) (r : Result Nested TickEnd) → (ended s line x r).ticks ≡ x.ticks + 1
  ended_ticks line x (Ok m) =
      let y : Run = record { outcome = None; machine = m; ticks = x.ticks + 1; entries = x.entries } in
      either_ticks (may_end m.config.a m.config.b) (may_enter s (after_count line y)) _ (x.ticks + 1) (may_enter_ticks (after_count line y)) refl
  ended_ticks line x (Err e) = stops_ticks (x.ticks + 1) e.step e.younger e.end x.entries
