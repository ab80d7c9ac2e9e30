-- The thread has the registers and the position of the oldest activation.
use Rattle.std.proofs.Common.{◌≡◌, ℕ, ◌+◌, refl, sym, subst, Bool, true, false, cond, List, [], ◌∷◌, map, take, drop, Option, Some, None, Result, Ok, Err}
use Rattle.std.proofs.Common.{⊎_elim}
use Rattle.hm_base.specs.Image.{Segment}
use Rattle.hm_base.specs.declared.Stop.TheVariants as stop
use Rattle.hm_codes.specs.Listing.{Listing}
use Rattle.hm_exc.specs.Entry.{entry_refusal}
use Rattle.hm_exc.specs.declared.types.Activation.{Activation}
use Rattle.hm_exc.specs.declared.types.EnterErr.{EnterErr}
use Rattle.hm_exc.specs.declared.types.EnterErr.TheVariants as err
use Rattle.hm_mem.specs.declared.Actor.TheVariants.{Thread}
use Rattle.hm_order.specs.Machine.{Config, Stopped, Broken}
use Rattle.hm_run_laws.specs.Ends.{GoesOn}
use Rattle.hm_run.specs.declared.Cause.{Cause}
use Rattle.hm_run.specs.declared.Cause.TheVariants as cause
use Rattle.hm_run.specs.declared.Outcome.{Outcome}
use Rattle.hm_run.specs.declared.Outcome.TheVariants as outcome
use Rattle.hm_run.specs.Program.{Stopping}
use Rattle.hm_run.specs.Timed.{or_out, outcome_of_cause, pc_of, bounds_of}
use Rattle.hm_sched.specs.Schedule.{Sched, TickLine, ticks_of}
use Rattle.hm_state.specs.State.{State, regs_of}
use Rattle.hm_whole.specs.Whole.{seen_in}
use Rattle.hm_window.specs.Positions.{may_end}
use Rattle.hm_run_laws.specs.Entries.{refused}
use Rattle.hm_run_laws.specs.Nested.{Ended, Interrupted, Nested, NestedEnd, Offends, TickEnd, letters}
use Rattle.hm_run_laws.specs.Order.{thread_of}
use Rattle.hm_run_laws.specs.Runs.{Pointers, Run, after_count, begin, closed, ended, enters, enters_unless, may_enter, picks, run, stacked_of, stops, tick_of}
use Rattle.hm_run_laws.specs.Sound.{AreStacked, IsSound}
use Rattle.hm_run_laws.proofs.Soundness.{next_sound, start_sound}
use Rattle.hm_run_laws.specs.Next.{after_ticks}
use Rattle.hm_run_laws.specs.Position.{IsThread}
use Rattle.hm_run_laws.proofs.Prefixes.{run_taken}

is_thread : (acts : List Interrupted) (c : Config State) → AreStacked acts → IsThread acts c (thread_of c acts)
is_thread [] c h = refl
is_thread (y ∷ []) c h = record { registers = h.0.registers Thread c.state; position = h.0.position; bytes = λ a. refl; devices = refl; output = refl }
is_thread (y ∷ z ∷ acts) c h = is_thread (z ∷ acts) c h.1

-- NO TICK ENDS A RUN as out of ticks
abbrev IsIn : Option Outcome → Type 0
IsIn (Some outcome.OutOfTicks) = ⊥
IsIn o = Unit {0}

cause_in : (t : ℕ) (acts : List Activation) (c : Config State) (pc : ℕ) (e : Cause) → IsIn (Some (outcome_of_cause t acts c pc e))
cause_in t acts c pc (cause.Halt reason) = tt
cause_in t acts c pc cause.Full = tt
cause_in t acts c pc (cause.Stop (stop.Fault f)) = tt
cause_in t acts c pc (cause.Stop (stop.Tainted a)) = tt
cause_in t acts c pc (cause.Stop (stop.Denied a)) = tt

stops_in : (t k : ℕ) (younger : Bool) (e : NestedEnd) (es : List Pointers) → IsIn (stops t k younger e es).outcome
stops_in t k younger (Ended (Stopped c e) acts) es =
    let stopping : Stopping = record { cause = e; younger = younger } in cause_in t (map stacked_of acts) c (pc_of c stopping) e
stops_in t k younger (Ended (Broken c r) acts) es = tt
stops_in t k younger (Offends what c acts) es = tt

module _ (listing : Listing) (s : Sched) where
  refused_in : (t : ℕ) (c : Config State) (why : EnterErr) → IsIn (Some (refused t c why))
  refused_in t c (err.StackSpent sp) = tt
  refused_in t c (err.Vector addr) = tt

  unless_in : (e : ℕ) (o : Option EnterErr) (x : Run) → IsIn x.outcome → IsIn (enters_unless s e o x).outcome
  unless_in e None x h = h
  unless_in e (Some why) x h = refused_in x.ticks x.machine.config why

  enters_in : (o : Option ℕ) (x : Run) → IsIn x.outcome → IsIn (enters s o x).outcome
  enters_in None x h = h
  enters_in (Some e) x h = let t = x.machine.config.state in unless_in e (entry_refusal (bounds_of s) (regs_of t) (seen_in t) e) x h

  may_in : (b : Bool) (x : Run) → IsIn x.outcome → IsIn (cond b (enters s (picks x) x) x).outcome
  may_in true x h = enters_in (picks x) x h
  may_in false x h = h

  judged_in : (b : Bool) (line : TickLine) (x : Run) (o : Outcome) → IsIn (Some o) → IsIn x.outcome
      → IsIn (cond b (may_enter s (after_count line x)) (record x { outcome = Some o })).outcome
  judged_in true line x o q h = may_in s.entries (after_count line x) h
  judged_in false line x o q h = q

  ended_in : (line : TickLine) (x : Run) (r : Result Nested TickEnd) → IsIn (ended s line x r).outcome
  ended_in line x (Ok m) = judged_in (may_end m.config.a m.config.b) line (record { outcome = None; machine = m; ticks = x.ticks + 1; entries = x.entries }) _
      tt tt
  ended_in line x (Err e) = stops_in (x.ticks + 1) e.step e.younger e.end x.entries

  tick_in : (line : TickLine) (x : Run) (o : Option Outcome) → IsIn x.outcome → IsIn (tick_of listing s line x o).outcome
  tick_in line x (Some o) h = h
  tick_in line x None h = ended_in line x (letters listing s 0 line.letters x.machine)

  abbrev Good : Run → Type 0
  Good x = IsIn x.outcome × (x.outcome ≡ None → IsSound s x.machine)

  ticks_good : (lines : List TickLine) (x : Run) → Good x → Good (after_ticks listing s lines x)
  ticks_good [] x h = h
  ticks_good (line ∷ lines) x h =
      ticks_good lines (tick_of listing s line x x.outcome) (tick_in line x x.outcome h.0, next_sound s listing (line ∷ line ∷ []) x h.1)

  goes_none : (o : Option Outcome) → IsIn o → GoesOn (or_out o) → o ≡ None
  goes_none None h on = refl
  goes_none (Some outcome.OutOfTicks) h on = absurd h
  goes_none (Some (outcome.Halted reason n)) h on = ⊎_elim (λ e. cc) (λ e. absurd cc) on
  goes_none (Some (outcome.Fault who f pc n)) h on = ⊎_elim (λ e. cc) (λ e. absurd cc) on
  goes_none (Some (outcome.RuleBroken t k r)) h on = ⊎_elim (λ e. cc) (λ e. absurd cc) on
  goes_none (Some (outcome.HandlerBroken t what)) h on = ⊎_elim (λ e. cc) (λ e. absurd cc) on
  goes_none (Some (outcome.TaintedRead t pc addr)) h on = ⊎_elim (λ e. cc) (λ e. absurd cc) on
  goes_none (Some (outcome.StackSpent t sp)) h on = ⊎_elim (λ e. cc) (λ e. absurd cc) on
  goes_none (Some (outcome.OutputFull t)) h on = ⊎_elim (λ e. cc) (λ e. absurd cc) on

  running_none : (o : Option Outcome) → IsIn o → GoesOn o → o ≡ None
  running_none o h on = ⊎_elim (λ (e : o ≡ None). e) (λ (e : o ≡ Some outcome.OutOfTicks). absurd (subst IsIn e h)) on

  closed_thread : (left : List TickLine) (z : Run) → Good z → GoesOn (closed left z).outcome
      → IsThread (closed left z).machine.acts (closed left z).machine.config (thread_of (closed left z).machine.config (closed left z).machine.acts)
  closed_thread [] z h on = is_thread z.machine.acts z.machine.config (h.1 (goes_none z.outcome h.0 on)).stacked
  closed_thread (line ∷ left) z h on = is_thread z.machine.acts z.machine.config (h.1 (running_none z.outcome h.0 on)).stacked

abbrev Stands : Run → Type 0
Stands x = GoesOn x.outcome → IsThread x.machine.acts x.machine.config (thread_of x.machine.config x.machine.acts)

pub thread_every : (listing : Listing) (image : List Segment) (s : Sched) (t : ℕ) → Stands (run listing image s t)
thread_every listing image s t =
    let z = after_ticks listing s (take t (ticks_of s.lines)) (begin image s) in
    let good : Good listing s z = ticks_good listing s (take t (ticks_of s.lines)) (begin image s) (tt, λ none. start_sound image s) in
    subst Stands (sym (run_taken listing s image t)) (closed_thread listing s (drop t (ticks_of s.lines)) z good)
