-- After each tick whole instructions in order agree with the thread, whatever enters and whatever handlers do.
use Rattle.std.proofs.Common.{◌≡◌, ℕ, zero, suc, ◌==◌, ◌+◌, refl, sym, subst, eqb-true, Bool, true, false, cond, List, [], ◌∷◌, map, drop, Option, Some, None}
use Rattle.std.proofs.Common.{Result, Ok, Err}
use Rattle.hm_base.specs.Image.{Segment}
use Rattle.hm_base.specs.declared.Fault.{Fault}
use Rattle.hm_base.specs.declared.Stop.{Stop}
use Rattle.hm_base.specs.declared.Stop.TheVariants as stop
use Rattle.hm_codes.specs.Listing.{Listing}
use Rattle.hm_exc.specs.Entry.{actor_under, main_after}
use Rattle.hm_exc.specs.Return.{return_rule}
use Rattle.hm_exc.specs.declared.types.Broken.{Broken}
use Rattle.hm_exc.specs.declared.types.EnterErr.{EnterErr}
use Rattle.hm_exc.specs.declared.types.EnterErr.TheVariants as err
use Rattle.hm_isa.specs.declared.Flow.{Flow}
use Rattle.hm_isa.specs.declared.Flow.TheVariants as flow
use Rattle.hm_isa.specs.declared.Instr.{Instr}
use Rattle.hm_isa.specs.declared.Instr.TheVariants as instr
use Rattle.hm_mem.specs.Memory.{thread_under}
use Rattle.hm_mem.specs.declared.Actor.TheVariants.{Thread}
use Rattle.hm_order.specs.Beats.{then}
use Rattle.hm_order.specs.InFlight.{InFlight, Older, Younger, step_in_flight}
use Rattle.hm_order.specs.Machine.{Config, End, Stopped, Broken as Breaks, younger}
use Rattle.hm_order.specs.Position.{Agrees, Holds, StopsAt}
use Rattle.hm_order.proofs.Headline.{explained}
use Rattle.hm_order.proofs.Steps.{interrupt_holds, older_agrees, younger_agrees}
use Rattle.hm_run.specs.declared.Cause.{Cause}
use Rattle.hm_run.specs.declared.Cause.TheVariants as cause
use Rattle.hm_run.specs.declared.Outcome.{Outcome}
use Rattle.hm_run.specs.declared.Outcome.TheVariants as outcome
use Rattle.hm_run.specs.Program.{Program, Stopping, is_tainted_cause, steps_left, vector_of}
use Rattle.hm_run.specs.Timed as timed
use Rattle.hm_exc.specs.declared.types.Activation.{Activation}
use Rattle.hm_run.specs.Timed.{at_stop, counted_with, outcome_of, thread_program, with_devices, bounds_of}
use Rattle.hm_sched.specs.Schedule.{TickLine, Sched, older_letter, younger_letter, ticks_of}
use Rattle.hm_state.specs.Start.{start}
use Rattle.hm_state.specs.State.{State, regs_of}
use Rattle.hm_whole.specs.Whole.{Went, scalar_in_machine, seen_in}
use Rattle.hm_run_laws.specs.Overlap.{AgreesAfter}
use Rattle.hm_run_laws.proofs.Laws.{laws}
use Rattle.hm_run_laws.proofs.Ticks.{OnlyTaint, begun, devices_restore, next_stops, stop_keeps, younger_only}
use Rattle.hm_window.specs.Positions.{may_end}
use Rattle.hm_run_laws.specs.Entries.{entered, interrupted_by, refused}
use Rattle.hm_run_laws.specs.Nested.{Ended, Interrupted, Nested, NestedEnd, NestedStep, Offends, TickEnd, around_under, at_step, flows, handler_step, handles}
use Rattle.hm_run_laws.specs.Nested.{letter, letters, program_under, returned, step, step_under, steps, uncounted, went, with_acts}
use Rattle.hm_run_laws.specs.Order.{HaltsInThread, AgreesInThread, KeepsOrder, thread_at, thread_of}
use Rattle.hm_run_laws.specs.Registers.{registers_in, restored}
use Rattle.hm_run_laws.specs.Runs.{Pointers, Run, begin, after_count, closed, ended, enters, enters_unless, may_enter, next, picks, run, stops, tick_of}
use Rattle.hm_run_laws.specs.Runs.{stacked_of}
use Rattle.hm_run_laws.proofs.Hiding.{Hides, counted_hides, entry_hides, own_live, restored_live, scalar_hides}
use Rattle.hm_run_laws.proofs.Steps.{IsStop, StepHides, fault_hides, row_hides, younger_hides}

-- where nothing is interrupted the machine is the thread
pub still_thread : (o : Option Outcome) (c : Config State) → thread_at o c [] ≡ c
still_thread None c = refl
still_thread (Some (outcome.Halted reason n)) c = refl
still_thread (Some (outcome.Fault who f pc n)) c = refl
still_thread (Some (outcome.RuleBroken t k r)) c = refl
still_thread (Some (outcome.HandlerBroken t what)) c = refl
still_thread (Some (outcome.TaintedRead t pc addr)) c = refl
still_thread (Some (outcome.StackSpent t sp)) c = refl
still_thread (Some (outcome.OutputFull t)) c = refl
still_thread (Some outcome.OutOfTicks) c = refl

module _ (listing : Listing) (s : Sched) (first : State) where
  abbrev machine : Program
  machine = thread_program listing s

  abbrev InOrder : Config State → List Interrupted → Type 0
  InOrder c acts = Holds machine first (thread_of c acts)

  -- A CHANGE THAT IS HIDDEN, while handlers run
  hidden : (c d : Config State) (x : Interrupted) (acts : List Interrupted) → d.n ≡ c.n → d.steps ≡ c.steps → Hides c.state d.state
      → InOrder c (x ∷ acts) → InOrder d (x ∷ acts)
  hidden c d x [] n steps h holds =
      let t = restored x.registers Thread d.state in
      subst (Holds machine first) (λ j. record { a = x.a; b = x.b; n = sym n j; steps = sym steps j; state = t })
      (interrupt_holds machine (laws listing (thread_under (bounds_of s)) refl) first (thread_of c (x ∷ [])) t
      (restored_live x.registers c.state d.state h, refl) holds)
  hidden c d x (y ∷ acts) n steps h holds = hidden c d y acts n steps h holds

  -- AN ENTRY, which leaves the memory so
  enters_thread : (e : ℕ) (c d : Config State) → d.n ≡ c.n → d.steps ≡ c.steps → Hides c.state d.state → Holds machine first c
      → InOrder d (interrupted_by e c ∷ [])
  enters_thread e c d n steps h holds =
      let t = restored (registers_in c.state) Thread d.state in
      subst (Holds machine first) (λ j. record { a = c.a; b = c.b; n = sym n j; steps = sym steps j; state = t })
      (interrupt_holds machine (laws listing (thread_under (bounds_of s)) refl) first c t (own_live c.state d.state h, refl) holds)

  enters_any : (e : ℕ) (c d : Config State) (acts : List Interrupted) → d.n ≡ c.n → d.steps ≡ c.steps → Hides c.state d.state → InOrder c acts
      → InOrder d (interrupted_by e c ∷ acts)
  enters_any e c d [] n steps h holds = enters_thread e c d n steps h holds
  enters_any e c d (x ∷ acts) n steps h holds = hidden c d x acts n steps h holds

  -- WHAT A STEP MAY COME TO
  abbrev AgreesEnd : NestedEnd → Type 0
  AgreesEnd (Ended (Stopped c e) []) = StopsAt machine first c e
  AgreesEnd (Ended (Stopped c e) (x ∷ acts)) = IsStop e
  AgreesEnd (Ended (Breaks c r) acts) = Unit {0}
  AgreesEnd (Offends what c acts) = Unit {0}

  abbrev AgreesStep : NestedStep → Type 0
  AgreesStep (Ok y) = InOrder y.config y.acts
  AgreesStep (Err e) = AgreesEnd e

  thread_agrees : (r : Result (Config State) (End State Cause _)) → Agrees machine first r → AgreesStep (with_acts [] r)
  thread_agrees (Ok c) h = h
  thread_agrees (Err (Stopped c e)) h = h
  thread_agrees (Err (Breaks c r)) h = tt

  handler_agrees : (c : Config State) (x : Interrupted) (acts : List Interrupted) (r : Result (Config State) (End State Cause _)) → InOrder c (x ∷ acts)
      → StepHides c r
      → AgreesStep (with_acts (x ∷ acts) (uncounted c r))
  handler_agrees c x acts (Ok d) holds h = hidden c (record d { n = c.n; steps = c.steps }) x acts refl refl h holds
  handler_agrees c x acts (Err (Stopped d e)) holds h = h
  handler_agrees c x acts (Err (Breaks d r)) holds h = tt

  -- a return, from a state that hides what was changed
  return_agrees : (b : Option Broken) (c : Config State) (x : Interrupted) (acts : List Interrupted) (t : State) → InOrder c (x ∷ acts) → Hides c.state t
      → AgreesStep (returned b c x acts t)
  return_agrees (Some b) c x acts t holds h = tt
  return_agrees None c x [] t holds h = hidden c (record c { state = t }) x [] refl refl h holds
  return_agrees None c x (y ∷ acts) t holds h =
      let back = restored x.registers (actor_under (map (λ (z : Interrupted). z.stacked) (y ∷ acts))) t in
      hidden c (record { a = x.a; b = x.b; n = c.n; steps = c.steps; state = back }) y acts refl refl
      (record { bytes = h.bytes; devices = h.devices; output = h.output }) holds

  flow_agrees : (f : Flow) (c : Config State) (x : Interrupted) (acts : List Interrupted) (t : State) → InOrder c (x ∷ acts) → Hides c.state t
      → AgreesStep (flows f c x acts t)
  flow_agrees flow.Next c x acts t holds h = hidden c (record c { a = 0; b = 0; state = t }) x acts refl refl h holds
  flow_agrees (flow.Break k) c x acts t holds h = tt
  flow_agrees (flow.Return value) c x acts t holds h = return_agrees (return_rule (regs_of t) (seen_in t).byte value x.stacked) c x acts t holds h

  went_agrees : (M : Program) (c : Config State) (x : Interrupted) (acts : List Interrupted) (r : Result Went Stop) → InOrder c (x ∷ acts)
      → ((y : Went) → r ≡ Ok y → Hides c.state y.state) → AgreesStep (went M c x acts r)
  went_agrees M c x acts (Ok y) holds h = flow_agrees y.flow c x acts y.state holds (h y refl)
  went_agrees M c x acts (Err e) holds h = tt

  handles_agrees : (c : Config State) (x : Interrupted) (acts : List Interrupted) (r : Result Instr Fault) → listing c.state.pc ≡ r → InOrder c (x ∷ acts)
      → AgreesStep (handles (program_under listing s (x ∷ acts)) (around_under s (x ∷ acts)) r c x acts)
  handles_agrees c x acts (Ok (instr.Scalar i)) e holds =
      went_agrees (program_under listing s (x ∷ acts)) c x acts (scalar_in_machine (around_under s (x ∷ acts)) (instr.Scalar i) c.state) holds
      (λ y k. scalar_hides (main_after x.stacked) (bounds_of s) (instr.Scalar i) c.state y k)
  handles_agrees c x acts (Ok (instr.Branch i)) e holds =
      went_agrees (program_under listing s (x ∷ acts)) c x acts (scalar_in_machine (around_under s (x ∷ acts)) (instr.Branch i) c.state) holds
      (λ y k. scalar_hides (main_after x.stacked) (bounds_of s) (instr.Branch i) c.state y k)
  handles_agrees c x acts (Ok (instr.Vector v)) e holds = handler_agrees c x acts _ holds (row_hides listing (around_under s (x ∷ acts)) refl v c e)
  handles_agrees c x acts (Err f) e holds = handler_agrees c x acts _ holds (fault_hides listing (around_under s (x ∷ acts)) refl f c e)

  handler_step_agrees : (t : InFlight) (c : Config State) (x : Interrupted) (acts : List Interrupted) → InOrder c (x ∷ acts)
      → AgreesStep (handler_step listing s t c x acts)
  handler_step_agrees Older c x acts holds = handles_agrees c x acts (listing c.state.pc) refl holds
  handler_step_agrees Younger c x acts holds = handler_agrees c x acts _ holds (younger_hides listing (around_under s (x ∷ acts)) refl c)

  in_flight_agrees : (t : InFlight) (c : Config State) → Holds machine first c → Agrees machine first (step_in_flight machine t c)
  in_flight_agrees Older c h = older_agrees machine (laws listing (thread_under (bounds_of s)) refl) first c h
  in_flight_agrees Younger c h = younger_agrees machine (laws listing (thread_under (bounds_of s)) refl) first c h

  under_agrees : (t : InFlight) (c : Config State) (acts : List Interrupted) → InOrder c acts → AgreesStep (step_under listing s t c acts)
  under_agrees t c [] h = thread_agrees (step_in_flight machine t c) (in_flight_agrees t c h)
  under_agrees t c (x ∷ acts) h = handler_step_agrees t c x acts h

  step_agrees : (t : InFlight) (x : Nested) → InOrder x.config x.acts → AgreesStep (step listing s t x)
  step_agrees t x h = under_agrees t x.config x.acts h

  -- LETTERS
  then_agrees : (r : NestedStep) (f : Nested → NestedStep) → AgreesStep r → ((y : Nested) → InOrder y.config y.acts → AgreesStep (f y)) → AgreesStep (then r f)
  then_agrees (Ok y) f h k = k y h
  then_agrees (Err e) f h k = h

  steps_agree : (k : ℕ) (x : Nested) → InOrder x.config x.acts → AgreesStep (steps listing s k x)
  steps_agree zero x h = h
  steps_agree (suc k) x h = then_agrees (step listing s Older x) (steps listing s k) (step_agrees Older x h) (steps_agree k)

  either_agrees : (b : Bool) (r q : NestedStep) → AgreesStep r → AgreesStep q → AgreesStep (cond b r q)
  either_agrees true r q h k = h
  either_agrees false r q h k = k

  letter_agrees : (l : ℕ) (x : Nested) → InOrder x.config x.acts → AgreesStep (letter listing s l x)
  letter_agrees l x h =
      either_agrees (l == older_letter) _ _ (step_agrees Older x h)
      (either_agrees (l == younger_letter) _ _ (step_agrees Younger x h) (steps_agree (steps_left (vector_of (listing x.config.state.pc)) x.config.a) x h))

  -- a younger beat of the thread that stops and breaks no rule is tainted
  abbrev OnlyTainted : NestedStep → Type 0
  OnlyTainted (Ok y) = Unit {0}
  OnlyTainted (Err (Ended (Stopped c e) [])) = is_tainted_cause e ≡ true
  OnlyTainted (Err (Ended (Stopped c e) (x ∷ acts))) = Unit {0}
  OnlyTainted (Err (Ended (Breaks c r) acts)) = Unit {0}
  OnlyTainted (Err (Offends what c acts)) = Unit {0}

  only_thread : (r : Result (Config State) (End State Cause _)) → OnlyTaint listing (thread_under (bounds_of s)) refl first r → OnlyTainted (with_acts [] r)
  only_thread (Ok c) h = tt
  only_thread (Err (Stopped c e)) h = h
  only_thread (Err (Breaks c r)) h = tt

  only_handler : (x : Interrupted) (acts : List Interrupted) (r : Result (Config State) (End State Cause _)) → OnlyTainted (with_acts (x ∷ acts) r)
  only_handler x acts (Ok c) = tt
  only_handler x acts (Err (Stopped c e)) = tt
  only_handler x acts (Err (Breaks c r)) = tt

  only_under : (c : Config State) (acts : List Interrupted) → OnlyTainted (step_under listing s Younger c acts)
  only_under c [] = only_thread (younger machine c) (younger_only listing (thread_under (bounds_of s)) refl first c _ _)
  only_under c (x ∷ acts) = only_handler x acts _

  only_letter : (l : ℕ) (x : Nested) → (l == younger_letter) ≡ true → OnlyTainted (letter listing s l x)
  only_letter l x is = subst (λ (k : ℕ). OnlyTainted (letter listing s k x)) (sym (eqb-true l younger_letter is)) (only_under x.config x.acts)

  -- what the letters of a tick may come to
  abbrev AgreesTick : Result Nested TickEnd → Type 0
  AgreesTick (Ok y) = InOrder y.config y.acts
  AgreesTick (Err e) = AgreesEnd e.end × (e.younger ≡ true → OnlyTainted (Err e.end))

  at_step_agrees : (k : ℕ) (younger : Bool) (r : NestedStep) → AgreesStep r → (younger ≡ true → OnlyTainted r) → AgreesTick (at_step k younger r)
  at_step_agrees k younger (Ok y) h only = h
  at_step_agrees k younger (Err e) h only = (h, only)

  then_tick : (r : Result Nested TickEnd) (f : Nested → Result Nested TickEnd) → AgreesTick r → ((y : Nested) → InOrder y.config y.acts → AgreesTick (f y))
      → AgreesTick (then r f)
  then_tick (Ok y) f h k = k y h
  then_tick (Err e) f h k = h

  letters_agree : (ls : List ℕ) (k : ℕ) (x : Nested) → InOrder x.config x.acts → AgreesTick (letters listing s k ls x)
  letters_agree [] k x h = h
  letters_agree (l ∷ ls) k x h =
      then_tick (at_step (k + 1) (l == younger_letter) (letter listing s l x)) (letters listing s (k + 1) ls)
      (at_step_agrees (k + 1) (l == younger_letter) (letter listing s l x) (letter_agrees l x h) (only_letter l x)) (letters_agree ls (k + 1))

  -- ENDS
  abbrev KeepsRun : Run → Type 0
  KeepsRun x = AgreesInThread machine first x.outcome x.machine

  -- a stop of the thread
  thread_outcome : (o : Outcome) (c : Config State) → AgreesAfter machine first (Some o) c → thread_at (Some o) c [] ≡ c
      → AgreesInThread machine first (Some o) (record { config = c; acts = [] })
  thread_outcome o c h same = record { thread = subst (AgreesAfter machine first (Some o)) (sym same) h; halts = in_thread o }
    where
      in_thread : (o : Outcome) → HaltsInThread (Some o) []
      in_thread (outcome.Halted reason n) = refl
      in_thread (outcome.Fault who f pc n) = tt
      in_thread (outcome.RuleBroken t k r) = tt
      in_thread (outcome.HandlerBroken t what) = tt
      in_thread (outcome.TaintedRead t pc addr) = tt
      in_thread (outcome.StackSpent t sp) = tt
      in_thread (outcome.OutputFull t) = tt
      in_thread outcome.OutOfTicks = tt

  -- a stop of a handler
  handler_stop : (t : ℕ) (x : Activation) (xs : List Activation) (c : Config State) (pc : ℕ) (e : Stop) (acts : List Interrupted)
      → AgreesInThread machine first (Some (timed.outcome_of_stop t (x ∷ xs) c pc e)) (record { config = c; acts = acts })
  handler_stop t x xs c pc (stop.Fault f) acts = record { thread = tt; halts = tt }
  handler_stop t x xs c pc (stop.Tainted addr) acts = record { thread = tt; halts = tt }
  handler_stop t x xs c pc (stop.Denied addr) acts = record { thread = tt; halts = tt }

  handler_cause : (t : ℕ) (x : Activation) (xs : List Activation) (c : Config State) (pc : ℕ) (e : Cause) (acts : List Interrupted) → IsStop e
      → AgreesInThread machine first (Some (timed.outcome_of_cause t (x ∷ xs) c pc e)) (record { config = c; acts = acts })
  handler_cause t x xs c pc (cause.Halt reason) acts h = absurd h
  handler_cause t x xs c pc cause.Full acts h = absurd h
  handler_cause t x xs c pc (cause.Stop e) acts h = handler_stop t x xs c pc e acts

  stops_keep : (t k : ℕ) (younger : Bool) (e : NestedEnd) (es : List Pointers) → AgreesEnd e → (younger ≡ true → OnlyTainted (Err e))
      → KeepsRun (stops t k younger e es)
  stops_keep t k younger (Ended (Stopped c e) []) es h only =
      let stopping : Stopping = record { cause = e; younger = younger } in
      let around = thread_under (bounds_of s) in
      thread_outcome (outcome_of t [] c stopping) (at_stop c stopping)
      (stop_keeps listing around refl first t [] c e younger h only (next_stops listing around refl first c.n e (explained machine first c e h)))
      (still_thread (Some (outcome_of t [] c stopping)) (at_stop c stopping))
  stops_keep t k younger (Ended (Stopped c e) (x ∷ acts)) es h only = handler_cause t (stacked_of x) (map stacked_of acts) c _ e (x ∷ acts) h
  stops_keep t k younger (Ended (Breaks c r) acts) es h only = record { thread = tt; halts = tt }
  stops_keep t k younger (Offends what c acts) es h only = record { thread = tt; halts = tt }

  -- THE END OF A TICK
  counted_in_order : (irq : List ℕ) (c : Config State) (acts : List Interrupted) → InOrder c acts
      → InOrder (record c { state = with_devices (counted_with irq) c.state }) acts
  counted_in_order irq c [] h =
      interrupt_holds machine (laws listing (thread_under (bounds_of s)) refl) first c _
      (devices_restore listing (thread_under (bounds_of s)) refl first irq c.state) h
  counted_in_order irq c (x ∷ acts) h = hidden c (record c { state = with_devices (counted_with irq) c.state }) x acts refl refl (counted_hides irq c.state) h

  going : (x : Nested) → InOrder x.config x.acts → AgreesInThread machine first None x
  going x h = record { thread = h; halts = tt }

  refused_keeps : (t : ℕ) (x : Nested) (why : EnterErr) → AgreesInThread machine first (Some (refused t x.config why)) x
  refused_keeps t x (err.StackSpent sp) = record { thread = tt; halts = tt }
  refused_keeps t x (err.Vector addr) = record { thread = tt; halts = tt }

  enters_keep : (e : ℕ) (o : Option EnterErr) (x : Nested) (t : ℕ) (es : List Pointers) → InOrder x.config x.acts
      → KeepsRun (enters_unless s e o (record { outcome = None; machine = x; ticks = t; entries = es }))
  enters_keep e None x t es h =
      going (entered s e x) (enters_any e x.config (entered s e x).config x.acts refl refl (entry_hides s (interrupted_by e x.config).stacked x.config.state) h)
  enters_keep e (Some why) x t es h = refused_keeps t x why

  picked_keeps : (o : Option ℕ) (x : Nested) (t : ℕ) (es : List Pointers) → InOrder x.config x.acts
      → KeepsRun (enters s o (record { outcome = None; machine = x; ticks = t; entries = es }))
  picked_keeps None x t es h = going x h
  picked_keeps (Some e) x t es h = enters_keep e _ x t es h

  may_enter_keeps : (b : Bool) (x : Nested) (t : ℕ) (es : List Pointers) → InOrder x.config x.acts
      → let y : Run = record { outcome = None; machine = x; ticks = t; entries = es } in KeepsRun (cond b (enters s (picks y) y) y)
  may_enter_keeps true x t es h = picked_keeps (picks (record { outcome = None; machine = x; ticks = t; entries = es })) x t es h
  may_enter_keeps false x t es h = going x h

  judged : (b : Bool) (line : TickLine) (x : Nested) (t : ℕ) (es : List Pointers) (o : Outcome) → AgreesInThread machine first (Some o) x
      → InOrder x.config x.acts
      → let y : Run = record { outcome = None; machine = x; ticks = t; entries = es } in
      KeepsRun (cond b (may_enter s (after_count line y)) (record y { outcome = Some o }))
  judged true line x t es o broken h =
      may_enter_keeps s.entries (record x { config = record x.config { state = with_devices (counted_with line.irq) x.config.state } }) t es
      (counted_in_order line.irq x.config x.acts h)
  judged false line x t es o broken h = broken

  ended_keeps : (line : TickLine) (x : Run) (r : Result Nested TickEnd) → AgreesTick r → KeepsRun (ended s line x r)
  ended_keeps line x (Ok m) h = judged (may_end m.config.a m.config.b) line m (x.ticks + 1) x.entries _ (record { thread = tt; halts = tt }) h
  ended_keeps line x (Err e) h = stops_keep (x.ticks + 1) e.step e.younger e.end x.entries h.0 h.1

  tick_keeps : (line : TickLine) (x : Run) (o : Option Outcome) → x.outcome ≡ o → KeepsRun x → KeepsRun (tick_of listing s line x o)
  tick_keeps line x (Some o) e h = h
  tick_keeps line x None e h =
      let on : AgreesInThread machine first None x.machine = subst (λ (o : Option Outcome). AgreesInThread machine first o x.machine) e h in
      ended_keeps line x (letters listing s 0 line.letters x.machine) (letters_agree line.letters 0 x.machine on.thread)

  out_keeps : (o : Option Outcome) (x : Nested) → AgreesInThread machine first o x → AgreesInThread machine first (timed.or_out o) x
  out_keeps (Some o) x h = h
  out_keeps None x h = record { thread = h.thread; halts = tt }

  closed_keeps : (left : List TickLine) (x : Run) → KeepsRun x → KeepsRun (closed left x)
  closed_keeps [] x h = out_keeps x.outcome x.machine h
  closed_keeps (line ∷ left) x h = h

  pub next_keeps : (left : List TickLine) (x : Run) → KeepsRun x → KeepsRun (next listing s left x)
  next_keeps [] x h = h
  next_keeps (line ∷ left) x h = closed_keeps left (tick_of listing s line x x.outcome) (tick_keeps line x x.outcome refl h)

  pub first_keeps : (left : List TickLine) (x : Run) → KeepsRun x → KeepsRun (closed left x)
  first_keeps left x h = closed_keeps left x h

-- once no tick is left a run has an outcome
pub out_ends : (o : Option Outcome) → timed.or_out o ≡ None → ⊥
out_ends (Some o) e = cc
out_ends None e = cc

pub keeps_order : (listing : Listing) (image : List Segment) (s : Sched) (t : ℕ) → KeepsOrder listing image s (run listing image s t)
keeps_order listing image s zero =
    first_keeps listing s (start image) (ticks_of s.lines) (begin image s) (record { thread = begun listing image s; halts = tt })
keeps_order listing image s (suc t) = next_keeps listing s (start image) (drop t (ticks_of s.lines)) (run listing image s t) (keeps_order listing image s t)
