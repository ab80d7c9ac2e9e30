-- How a tick ends.
use Rattle.std.proofs.Common.{◌≡◌, ℕ, ◌<◌, arith, ap, refl, sym, ◌∙◌, subst, Bool, true, false, cond, List, [], ◌∷◌, length, map, Option, Some, None, Result}
use Rattle.std.proofs.Common.{Ok, Err}
use Rattle.std.specs.Prelude.{if◌then◌else◌}
use Rattle.hm_cpu.proofs.Nestings.{same_acts}
use Rattle.hm_cpu.specs.Cpus.{config_of, interrupted_of, nested_of, state_in, IsUnder}
use Rattle.hm_cpu.specs.declared.cpu.Cpu.{Cpu}
use Rattle.hm_exc.specs.Entry.{Passes, activation, entered_memory, entered_registers, main_after, newest_first, vector_of, window_in}
use Rattle.hm_exc.specs.declared.types.Activation.{Activation}
use Rattle.hm_exc.specs.declared.types.EnterErr.{EnterErr}
use Rattle.hm_run_laws.specs.Entries.{entered, least_active, refused}
use Rattle.hm_run_laws.specs.Nested.{Ended, Interrupted, Nested}
use Rattle.hm_run_laws.specs.Runs.{Pointers, Run, after_count, enters, enters_unless, may_enter, picks, pointers_of, stopped_under, stops, tick_end, stacked_of}
use Rattle.hm_run_laws.specs.Sound.{AreUrgent}
use Rattle.hm_machine.specs.Ticked.{Came}
use Rattle.hm_machine.specs.Shown.{run_with}
use Rattle.hm_mem.specs.Memory.{Around, Memory, memory_of, thread_under}
use Rattle.hm_mem.specs.Seen.{seen, with_dev}
use Rattle.hm_mem.specs.declared.Actor.TheVariants.{Handler}
use Rattle.hm_mem.specs.declared.Dev.{Dev}
use Rattle.hm_order.specs.Machine.{Stopped}
use Rattle.hm_regs.specs.declared.Regs.{Regs}
use Rattle.hm_run.specs.Program.{Stopping}
use Rattle.hm_run.specs.Timed.{counted_with, outcome_of, who_runs, with_devices, bounds_of}
use Rattle.hm_run.specs.declared.Cause.{Cause}
use Rattle.hm_run.specs.declared.Outcome.{Outcome}
use Rattle.hm_run.specs.declared.Outcome.TheVariants as outcome
use Rattle.hm_run.specs.declared.Who.TheVariants.{Thread, Handler as InHandler}
use Rattle.hm_sched.specs.Schedule.{Sched, TickLine}
use Rattle.hm_state.specs.State.{State, regs_of, state_of}
use Rattle.hm_sys.specs.Exceptions.{priority_of}
use Rattle.hm_whole.proofs.Agreement.{made_of}
use Rattle.hm_whole.specs.Whole.{state_with}
use Rattle.hm_window.specs.Positions.{may_end}
use Rattle.hm_window.specs.declared.rule.Rule.TheVariants as rule

-- WHERE SOMETHING DID NOT GO ON
pub who_thread : (acts : List Interrupted) → acts ≡ [] → Thread ≡ who_runs (map stacked_of acts)
who_thread acts none = ap (λ (l : List Interrupted). who_runs (map stacked_of l)) (sym none)

pub who_handler : (acts : List Interrupted) → 0 < length acts → InHandler ≡ who_runs (map stacked_of acts)
who_handler [] some = absurd (omega arith)
who_handler (x ∷ acts) some = refl

pub stops_so : (x y : Cpu) (t k : ℕ) (younger : Bool) (e : Cause) (o : Outcome) (es : List Pointers)
    → let stopping : Stopping = record { cause = e; younger = younger } in
    o ≡ outcome_of t (map stacked_of (nested_of x).acts) (config_of x) stopping → config_of y ≡ stopped_under (nested_of x).acts (config_of x) stopping
    → y.acts ≡ x.acts
    → run_with (Some o) (nested_of y) t es ≡ stops t k younger (Ended (Stopped (config_of x) e) (nested_of x).acts) es
stops_so x y t k younger e o es is config same = λ j. run_with (Some (is j)) (record { config = config j; acts = same_acts x y same j }) t es

-- THE END OF A TICK that did not end the run
module _ (s : Sched) (line : TickLine) (m : Nested) (t : ℕ) (es : List Pointers) where
  abbrev ran : Run
  ran = run_with None m t es

  abbrev judged_by : Bool → Run
  judged_by b = if b then may_enter s (after_count line ran)
      else record ran { outcome = Some (outcome.RuleBroken t (length line.letters) (rule.Ending m.config.a m.config.b)) }

  -- and where it may
  well : (b : Bool) (o : Result Bool Outcome) (y : Nested) → b ≡ true → Came o y t es (may_enter s (after_count line ran)) → Came o y t es (judged_by b)
  well true o y e h = h
  well false o y e h = absurd cc

  chosen : (b : Bool) (o : Result Bool Outcome) (y : Nested) → b ≡ true → Came o y t es (enters s (picks (after_count line ran)) (after_count line ran))
      → Came o y t es (cond b (enters s (picks (after_count line ran)) (after_count line ran)) (after_count line ran))
  chosen true o y e h = h
  chosen false o y e h = absurd cc

  quiet : (b : Bool) (y : Nested) → b ≡ false → y ≡ (after_count line ran).machine
      → Came (Ok false) y t es (cond b (enters s (picks (after_count line ran)) (after_count line ran)) (after_count line ran))
  quiet true y e is = absurd cc
  quiet false y e is = (ap (λ (n : Nested). run_with None n t es) is, omega arith)

  -- without entries, and with them
  pub ends_quiet : (y : Nested) → may_end m.config.a m.config.b ≡ true → s.entries ≡ false → y ≡ (after_count line ran).machine
      → Came (Ok false) y t es (tick_end s line ran)
  ends_quiet y e none is = well (may_end m.config.a m.config.b) (Ok false) y e (quiet s.entries y none is)

  pub ends_picked : (x : Nested) (o : Result Bool Outcome) (y : Nested) → may_end m.config.a m.config.b ≡ true → s.entries ≡ true
      → x ≡ (after_count line ran).machine
      → Came o y t es (enters s (picks (run_with None x t es)) (run_with None x t es)) → Came o y t es (tick_end s line ran)
  ends_picked x o y e some is h =
      well (may_end m.config.a m.config.b) o y e
      (chosen s.entries o y some (subst (λ (n : Nested). Came o y t es (enters s (picks (run_with None n t es)) (run_with None n t es))) is h))

-- what was counted and became pending
pub counted_nested : (x : Cpu) (m : Memory) (irq : List ℕ) (line : TickLine) (t : ℕ) (es : List Pointers) → line.irq ≡ irq
    → m ≡ with_dev (counted_with irq (memory_of x.mem).devices) (memory_of x.mem)
    → record (nested_of x) { config = record (config_of x) { state = state_of x.regs m x.output.items } }
    ≡ (after_count line (run_with None (nested_of x) t es)).machine
unfolding state_of
counted_nested x m irq line t es is e =
    let put : State → Nested = λ s. record (nested_of x) { config = record (config_of x) { state = s } } in
    ap (λ (n : Memory). put (state_of x.regs n x.output.items)) e
    ∙ ap (λ (k : List ℕ). put (with_devices (counted_with k) (state_in x))) (sym is)

-- ENTRIES
-- none is picked, and one is
pub picks_none : (s : Sched) (o : Option ℕ) (m : Nested) (t : ℕ) (es : List Pointers) → o ≡ None → Came (Ok false) m t es (enters s o (run_with None m t es))
picks_none s o m t es e = subst (λ (q : Option ℕ). Came (Ok false) m t es (enters s q (run_with None m t es))) (sym e) (refl, omega arith)

pub picks_one : (s : Sched) (o : Option ℕ) (e : ℕ) (m : Nested) (t : ℕ) (es : List Pointers) (q : Result Bool Outcome) (y : Nested) → o ≡ Some e
    → Came q y t es (enters s (Some e) (run_with None m t es)) → Came q y t es (enters s o (run_with None m t es))
picks_one s o e m t es q y is h = subst (λ (p : Option ℕ). Came q y t es (enters s p (run_with None m t es))) (sym is) h

-- it enters, and it does not
pub unless_on : (s : Sched) (e : ℕ) (o : Option EnterErr) (m y : Nested) (t : ℕ) (es : List Pointers) → o ≡ None → y ≡ entered s e m
    → Came (Ok true) y t es (enters_unless s e o (run_with None m t es))
unless_on s e o m y t es free is =
    subst (λ (p : Option EnterErr). Came (Ok true) y t es (enters_unless s e p (run_with None m t es))) (sym free)
    (ap (λ (n : Nested). run_with None n t (pointers_of (regs_of m.config.state) ∷ es)) is, omega arith)

pub unless_off : (s : Sched) (e : ℕ) (o : Option EnterErr) (why : EnterErr) (m y : Nested) (t : ℕ) (es : List Pointers) (q : Outcome) → o ≡ Some why → y ≡ m
    → q ≡ refused t m.config why
    → Came (Err q) y t es (enters_unless s e o (run_with None m t es))
unless_off s e o why m y t es q is same refusal =
    subst (λ (p : Option EnterErr). Came (Err q) y t es (enters_unless s e p (run_with None m t es))) (sym is)
    (λ j. run_with (Some (refusal j)) (same j) t es, omega arith)

-- THE MACHINE after an entry
module _ (s : Sched) (x y : Cpu) (e : ℕ) (under : IsUnder s x) (registers : regs_of (state_in x) ≡ x.regs) where
  abbrev m : Memory
  m = memory_of x.mem

  abbrev above : Regs → Activation
  above r = activation r x.window e

  abbrev around_in : Regs → Around
  around_in r = record (thread_under (bounds_of s)) { actor = Handler (main_after (above r)) }

  abbrev state_by : Regs → State
  state_by r = state_with (entered_registers r e (vector_of (seen m) e)) (entered_memory (above r) (seen m)) (around_in r) x.output.items

  abbrev put_by : Regs → Interrupted
  put_by r = record { a = x.window.a; b = x.window.b; registers = (interrupted_of (above x.regs)).registers; stacked = above r }

  abbrev nested_by : Regs → Nested
  nested_by r = record { config = record { a = 0; b = 0; n = x.retired; steps = x.older_steps; state = state_by r }; acts = put_by r ∷ (nested_of x).acts }

  entered_by : nested_by (regs_of (state_in x)) ≡ entered s e (nested_of x)
  unfolding state_of
  entered_by = refl

  pub entered_is : y.regs ≡ entered_registers x.regs e (vector_of (seen m) e) → seen (memory_of y.mem) ≡ entered_memory (above x.regs) (seen m)
      → Passes (Handler (main_after (above x.regs))) m (memory_of y.mem) → newest_first y.acts ≡ above x.regs ∷ newest_first x.acts
      → window_in (above x.regs) ≡ x.window
      → y.window ≡ record { a = 0; b = 0 } → y.output ≡ x.output → y.retired ≡ x.retired → y.older_steps ≡ x.older_steps
      → nested_of y ≡ entered s e (nested_of x)
  entered_is regs memory passes acts position window output n steps =
      let around : (memory_of y.mem).around ≡ around_in x.regs = passes.around
      ∙ ap (λ (a : Around). record a { actor = Handler (main_after (above x.regs)) }) under in
      let state : state_in y ≡ state_by x.regs = made_of y.regs (memory_of y.mem) y.output.items
      ∙ (λ j. state_with (regs j) (memory j) (around j) (output j).items) in
      let put : interrupted_of (above x.regs) ≡ put_by x.regs = λ j. record (interrupted_of (above x.regs)) { a = (position j).a; b = (position j).b } in
      (λ j. record {
        config = record { a = (window j).a; b = (window j).b; n = n j; steps = steps j; state = state j };
        acts = map interrupted_of (acts j);
      })
      ∙ ap (λ (i : Interrupted). record (nested_by x.regs) { acts = i ∷ (nested_of x).acts }) put
      ∙ ap nested_by (sym registers)
      ∙ entered_by

-- WHAT RUNS: the newest exception is the most urgent
pub first_least : (d : Dev) (x : Interrupted) (acts : List Interrupted) → AreUrgent d (x ∷ acts) → priority_of d x.stacked.number ≡ least_active d (x ∷ acts)
first_least d x acts h = let over = h.0 in omega (arith, over)

pub priority_newest : (d : Dev) (x : Interrupted) (acts rest : List Interrupted) → acts ≡ x ∷ rest → AreUrgent d acts
    → priority_of d x.stacked.number ≡ least_active d acts
priority_newest d x acts rest is h = first_least d x rest (subst (AreUrgent d) is h) ∙ sym (ap (least_active d) is)
