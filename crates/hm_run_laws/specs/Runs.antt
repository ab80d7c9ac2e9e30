-- The beat machine: the fold of steps, ends of ticks and entries over a schedule. Without entries nothing is interrupted.
use Rattle.std.specs.Prelude.{ℕ, zero, suc, ◌+◌, Bool, if◌then◌else◌, cond, List, [], ◌∷◌, length, drop, map, Option, Some, None, Result, Ok, Err}
use Rattle.hm_base.specs.Image.{Segment}
use Rattle.hm_codes.specs.Listing.{Listing}
use Rattle.hm_exc.specs.Entry.{entry_refusal}
use Rattle.hm_exc.specs.declared.types.EnterErr.{EnterErr}
use Rattle.hm_order.specs.Machine.{Config, Stopped, Broken, at_start}
use Rattle.hm_regs.specs.Stacks.{main_of, process_of, uses_process}
use Rattle.hm_regs.specs.declared.Regs.{Regs}
use Rattle.hm_run.specs.declared.Outcome.{Outcome}
use Rattle.hm_run.specs.declared.Outcome.TheVariants as outcome
use Rattle.hm_run.specs.Program.{Stopping}
use Rattle.hm_exc.specs.declared.types.Activation.{Activation}
use Rattle.hm_run.specs.Timed.{Timed, at_stop, counted_with, or_out, outcome_of, with_devices, bounds_of}
use Rattle.hm_sched.specs.Schedule.{TickLine, Sched, ticks_of}
use Rattle.hm_state.specs.Start.{start_under}
use Rattle.hm_state.specs.State.{State, regs_of}
use Rattle.hm_whole.specs.Whole.{seen_in}
use Rattle.hm_window.specs.Positions.{may_end}
use Rattle.hm_window.specs.declared.rule.Rule.TheVariants as rule
use Rattle.hm_sys.specs.Exceptions.{picked}
use Rattle.hm_run_laws.specs.Entries.{entered, mask_of, refused, running_priority}
use Rattle.hm_run_laws.specs.Nested.{Ended, Interrupted, Nested, NestedEnd, Offends, TickEnd, letters}

-- the two stack pointers at an entry, and whether the process stack was in use
pub record Pointers : Type 0 where
  pub main : ℕ
  pub process : ℕ
  pub from_process : Bool

-- the pointers of these registers
abbrev pub pointers_of : Regs → Pointers
pointers_of r = record { main = main_of r; process = process_of r; from_process = uses_process r }

-- the outcome, or None while it runs; the machine; the ticks that were begun; the stack pointers at the entries, the latest first
pub record Run : Type 0 where
  pub outcome : Option Outcome
  pub machine : Nested
  pub ticks : ℕ
  pub entries : List Pointers

-- what was stacked there
abbrev pub stacked_of : Interrupted → Activation
stacked_of x = x.stacked

-- what is shown of a run: its outcome, its machine, what was stacked, and its ticks
abbrev pub shown : Run → Timed
shown x = record { outcome = x.outcome; config = x.machine.config; acts = map stacked_of x.machine.acts; ticks = x.ticks }

-- a run before its first tick: a reset to an image, under the region and the floors of a schedule
abbrev pub begin : List Segment → Sched → Run
begin image s = record { outcome = None; machine = record { config = at_start (start_under (bounds_of s) image); acts = [] }; ticks = 0; entries = [] }

-- THE END OF A TICK in which something did not go on
-- a run that ended so, after so many ticks
abbrev pub run_at : Outcome → Config State → List Interrupted → ℕ → List Pointers → Run
run_at o c acts t entries = record { outcome = Some o; machine = record { config = c; acts = acts }; ticks = t; entries = entries }

-- the thread's steps alone are counted
abbrev pub stopped_under : List Interrupted → Config State → Stopping → Config State
stopped_under [] c e = at_stop c e
stopped_under (x ∷ acts) c e = c

-- the run that ends at step k of tick t, the younger's or not, by why it does not go on
abbrev pub stops : ℕ → ℕ → Bool → NestedEnd → List Pointers → Run
stops t k younger (Ended (Stopped c e) acts) entries =
    let stopping : Stopping = record { cause = e; younger = younger } in
    run_at (outcome_of t (map stacked_of acts) c stopping) (stopped_under acts c stopping) acts t entries
stops t k younger (Ended (Broken c r) acts) entries = run_at (outcome.RuleBroken t k r) c acts t entries
stops t k younger (Offends what c acts) entries = run_at (outcome.HandlerBroken t what) c acts t entries

-- THE END OF A TICK that did not end the run: the position is judged, SysTick counts, the tick's interrupts become pending, and then, where
-- the schedule has entries, the exception that is picked enters
-- exception e enters, or where it is refused the run ends
abbrev pub enters_unless : Sched → ℕ → Option EnterErr → Run → Run
enters_unless s e None x = record x { machine = entered s e x.machine; entries = pointers_of (regs_of x.machine.config.state) ∷ x.entries }
enters_unless s e (Some why) x = record x { outcome = Some (refused x.ticks x.machine.config why) }

-- the exception that is picked, if there is one, enters, or the run ends where it may not
abbrev pub enters : Sched → Option ℕ → Run → Run
enters s None x = x
enters s (Some e) x = let t = x.machine.config.state in enters_unless s e (entry_refusal (bounds_of s) (regs_of t) (seen_in t) e) x

-- the exception that is picked: the most urgent that waits, if it is more urgent than what runs and nothing masks it
abbrev pub picks : Run → Option ℕ
picks x = let t = x.machine.config.state in picked t.rest.devices (running_priority t.rest.devices (mask_of t.rest.primask t.rest.basepri) x.machine.acts)

-- an exception may enter where the schedule has entries
abbrev pub may_enter : Sched → Run → Run
may_enter s x = cond s.entries (enters s (picks x) x) x

-- the run after SysTick has counted and the interrupts of the tick have become pending
abbrev pub after_count : TickLine → Run → Run
after_count line x = record x {
  machine =
      record x.machine { config = record x.machine.config { state = with_devices (counted_with line.irq) x.machine.config.state } };
}

-- the end of a tick whose letters all went on; a position at which no tick may end breaks a rule
abbrev pub tick_end : Sched → TickLine → Run → Run
tick_end s line x =
    let c = x.machine.config in
    if may_end c.a c.b then may_enter s (after_count line x)
    else record x { outcome = Some (outcome.RuleBroken x.ticks (length line.letters) (rule.Ending c.a c.b)) }

-- a tick, by what its letters came to
abbrev pub ended : Sched → TickLine → Run → Result Nested TickEnd → Run
ended s line x (Ok m) = tick_end s line (record { outcome = None; machine = m; ticks = x.ticks + 1; entries = x.entries })
ended s line x (Err e) = stops (x.ticks + 1) e.step e.younger e.end x.entries

-- one tick; an ended run stays as it is
abbrev pub tick_of : Listing → Sched → TickLine → Run → Option Outcome → Run
tick_of listing s line x (Some o) = x
tick_of listing s line x None = ended s line x (letters listing s 0 line.letters x.machine)

-- one tick of a run, by its line
abbrev pub tick : Listing → Sched → TickLine → Run → Run
tick listing s line x = tick_of listing s line x x.outcome

-- a run that has no other outcome is out of ticks where no tick is left
abbrev pub closed : List TickLine → Run → Run
closed [] x = record x { outcome = or_out x.outcome }
closed (line ∷ left) x = x

-- the first of the ticks that are left
abbrev pub next : Listing → Sched → List TickLine → Run → Run
next listing s [] x = x
next listing s (line ∷ left) x = closed left (tick listing s line x)

-- THE MACHINE after t ticks of a schedule
abbrev pub run : Listing → List Segment → Sched → ℕ → Run
run listing image s zero = closed (ticks_of s.lines) (begin image s)
run listing image s (suc t) = next listing s (drop t (ticks_of s.lines)) (run listing image s t)

-- the machine after all ticks of a schedule
abbrev pub run_out : Listing → List Segment → Sched → Run
run_out listing image s = run listing image s (length (ticks_of s.lines))

-- what is shown of it then
abbrev pub shown_out : Listing → List Segment → Sched → Timed
shown_out listing image s = shown (run_out listing image s)
