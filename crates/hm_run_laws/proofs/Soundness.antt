-- The machine is always sound.
use Rattle.std.proofs.Common.{◌≡◌, ℕ, zero, suc, ◌==◌, ◌+◌, ◌<◌, ◌≤◌, ap, refl, sym, ◌∙◌, subst, Bool, true, false, cond, List, [], ◌∷◌, map, drop, length}
use Rattle.std.proofs.Common.{Option, Some, None, Result, Ok, Err, arith}
use Rattle.std.specs.Prelude.{IfOk}
use Rattle.hm_base.specs.Image.{Segment}
use Rattle.hm_base.specs.declared.Fault.{Fault}
use Rattle.hm_base.specs.declared.Stop.{Stop}
use Rattle.hm_codes.specs.Listing.{Listing}
use Rattle.hm_exc.specs.Entry.{CanEnter, actor_under, entry_refusal, main_after}
use Rattle.hm_exc.specs.Frame.{is_between}
use Rattle.hm_exc.specs.Return.{return_rule}
use Rattle.hm_exc.specs.declared.types.Broken.{Broken as Breach}
use Rattle.hm_exc.specs.declared.types.EnterErr.{EnterErr}
use Rattle.hm_isa.specs.declared.Flow.{Flow}
use Rattle.hm_isa.specs.declared.Flow.TheVariants as flow
use Rattle.hm_isa.specs.declared.Instr.{Instr}
use Rattle.hm_isa.specs.declared.Instr.TheVariants as instr
use Rattle.hm_run_laws.proofs.Priorities.{start-levels}
use Rattle.hm_run_laws.specs.Blocks.{IsBlockByte}
use Rattle.hm_mem.specs.Devices.{open_devices}
use Rattle.hm_mem.specs.Memory.{Around}
use Rattle.hm_mem.specs.declared.Actor.TheVariants.{Thread}
use Rattle.hm_mem.specs.declared.Dev.{Dev}
use Rattle.hm_order.specs.Beats.{then}
use Rattle.hm_order.specs.InFlight.{InFlight, Older, Younger, step_in_flight}
use Rattle.hm_order.specs.Machine.{Config, End, Stopped, older, younger}
use Rattle.hm_regs.specs.declared.Regs.{Regs}
use Rattle.hm_run.specs.declared.Cause.{Cause}
use Rattle.hm_run.specs.declared.Outcome.{Outcome}
use Rattle.hm_run.specs.Program.{steps_left, vector_of}
use Rattle.hm_run.specs.Timed.{counted_with, with_devices, bounds_of}
use Rattle.hm_sched.specs.Schedule.{TickLine, Sched, older_letter, younger_letter, ticks_of}
use Rattle.hm_state.specs.Start.{start_under}
use Rattle.hm_state.specs.State.{State, regs_of}
use Rattle.hm_whole.specs.Whole.{Went, scalar_in_machine, seen_in, state_with}
use Rattle.hm_window.specs.Positions.{may_end}
use Rattle.hm_window.specs.declared.rule.Rule.{Rule}
use Rattle.hm_sys.specs.Exceptions.{IsException, end_number, priority_of}
use Rattle.hm_run_laws.specs.Entries.{entered, entered_state, interrupted_by, least_active, mask_of, position_of}
use Rattle.hm_run_laws.specs.Nested.{Ended, Interrupted, Nested, NestedEnd, NestedStep, TickEnd, around_under, at_step, flows, handler_step, handles}
use Rattle.hm_run_laws.specs.Nested.{letter, letters, program_under, returned, step, step_under, steps, uncounted, went, with_acts}
use Rattle.hm_run_laws.specs.Registers.{restored}
use Rattle.hm_run_laws.specs.Runs.{Pointers, Run, after_count, begin, closed, ended, enters, enters_unless, may_enter, next, picks, run, stops, tick_of}
use Rattle.hm_run_laws.specs.Sound.{AreStacked, AreUrgent, IsSound, FitsInside, number_under}
use Rattle.hm_run_laws.proofs.Entering.{stacked_by}
use Rattle.hm_run_laws.proofs.Hiding.{Hides, counted_hides, entry_hides, scalar_hides}
use Rattle.hm_run_laws.proofs.Leaving.{Leaves, RowLeaves, StepLeaves, fault_leaves, older_leaves, same_leaves, scalar_leaves, vector_leaves, younger_leaves}
use Rattle.hm_run_laws.proofs.Leaving.{younger_steps}
use Rattle.hm_run_laws.proofs.Order.{out_ends}
use Rattle.hm_run_laws.proofs.Nesting.{levels_same, most_active, picked_number, picked_urgent, room_for, urgent_over, urgent_same}

-- a position between two instructions
not_inside : {P : Type 0} → true ≡ false → P
not_inside e = absurd cc

-- THE START
pub start_sound : (image : List Segment) (s : Sched) → IsSound s (begin image s).machine
unfolding start_under
start_sound image s = record {
  around = refl;
  levels = start-levels;
  number = refl;
  selects = λ n. refl;
  block = (omega arith, λ h. refl);
  inside = not_inside;
  stacked = tt;
  urgent = tt;
}

module _ (s : Sched) where
  abbrev Sound : Config State → List Interrupted → Type 0
  Sound c acts = IsSound s (record { config = c; acts = acts })

  -- WHAT AN INSTRUCTION LEAVES
  left_sound : (c d : Config State) (acts : List Interrupted) → Sound c acts → Leaves c.state.rest d.state.rest → FitsInside d
      → AreUrgent d.state.rest.devices acts → Sound d acts
  left_sound c d acts h left inside urgent = record {
    around = left.around ∙ h.around;
    levels = left.levels h.levels;
    number = left.number ∙ h.number;
    selects = left.selects h.selects;
    block = left.block h.block;
    inside = inside;
    stacked = h.stacked;
    urgent = urgent;
  }

  abbrev StepSound : NestedStep → Type 0
  StepSound r = IfOk r (IsSound s)

  thread_sound : (c : Config State) (r : Result (Config State) (End State Cause Rule)) → Sound c [] → IfOk r (StepLeaves c) → StepSound (with_acts [] r)
  thread_sound c (Ok d) h k = left_sound c d [] h k.left k.inside tt
  thread_sound c (Err e) h k = tt

  module _ (x : Interrupted) (acts : List Interrupted) where
    row_sound : (c : Config State) (r : Result (Config State) (End State Cause Rule)) → Sound c (x ∷ acts) → IfOk r (RowLeaves c)
        → StepSound (with_acts (x ∷ acts) (uncounted c r))
    row_sound c (Ok d) h k =
        left_sound c (record d { n = c.n; steps = c.steps }) (x ∷ acts) h (same_leaves c.state.rest d.state.rest k.same) k.inside
        (subst (λ (v : Dev). AreUrgent v (x ∷ acts)) (sym k.same.devices) h.urgent)
    row_sound c (Err e) h k = tt

    -- A RETURN
    back_sound : (c : Config State) (t : State) → Sound (record c { a = 0; b = 0; state = t }) (x ∷ acts)
        → Sound (record { a = x.a; b = x.b; n = c.n; steps = c.steps; state = restored x.registers (actor_under (map (λ y. y.stacked) acts)) t }) acts
    unfolding regs_of
    back_sound c t h =
        let x_fits = h.stacked.0 in
        let byte : x.registers.beside.it ≡ x.stacked.regs.it = ap (λ (r : Regs). r.it) (x_fits.registers Thread t) in
        let context : x.registers.beside.fpca ≡ x.stacked.regs.fpca = ap (λ (r : Regs). r.fpca) (x_fits.registers Thread t) in
        let spsel : x.registers.beside.spsel ≡ x.stacked.regs.spsel = ap (λ (r : Regs). r.spsel) (x_fits.registers Thread t) in
        let number : x.registers.beside.ipsr ≡ x.stacked.regs.ipsr = ap (λ (r : Regs). r.ipsr) (x_fits.registers Thread t) in
        record {
          around = ap (λ (around : Around). record around { actor = actor_under (map (λ y. y.stacked) acts) }) h.around;
          levels = h.levels;
          number = number ∙ x_fits.number;
          selects = λ n. spsel ∙ x_fits.fits.enters.selects (λ e. n (number ∙ e));
          block = subst IsBlockByte (sym byte) x_fits.block;
          inside = λ e. (byte ∙ x_fits.fits.enters.inside (ap is_between x_fits.position ∙ e), context ∙ x_fits.context e);
          stacked = h.stacked.1;
          urgent = h.urgent.1;
        }

    returned_sound : (b : Option Breach) (c : Config State) (t : State) → Sound (record c { a = 0; b = 0; state = t }) (x ∷ acts)
        → StepSound (returned b c x acts t)
    returned_sound None c t h = back_sound c t h
    returned_sound (Some b) c t h = tt

    flows_sound : (f : Flow) (c : Config State) (t : State) → Sound (record c { a = 0; b = 0; state = t }) (x ∷ acts) → StepSound (flows f c x acts t)
    flows_sound flow.Next c t h = h
    flows_sound (flow.Break k) c t h = tt
    flows_sound (flow.Return value) c t h = returned_sound (return_rule (regs_of t) (seen_in t).byte value x.stacked) c t h

    module _ (listing : Listing) where
      went_sound : (c : Config State) (r : Result Went Stop) → Sound c (x ∷ acts) → IfOk r (λ y. Leaves c.state.rest y.state.rest)
          → ((y : Went) → r ≡ Ok y → Hides c.state y.state)
          → StepSound (went (program_under listing s (x ∷ acts)) c x acts r)
      went_sound c (Ok y) h left hides =
          flows_sound y.flow c y.state
          (left_sound c (record c { a = 0; b = 0; state = y.state }) (x ∷ acts) h left not_inside
          (urgent_same c.state.rest.devices y.state.rest.devices (hides y refl).devices (x ∷ acts) h.urgent))
      went_sound c (Err e) h left hides = tt

      scalar_sound : (i : Instr) (c : Config State) → Sound c (x ∷ acts)
          → StepSound (went (program_under listing s (x ∷ acts)) c x acts (scalar_in_machine (around_under s (x ∷ acts)) i c.state))
      scalar_sound i c h =
          went_sound c (scalar_in_machine (around_under s (x ∷ acts)) i c.state) h (scalar_leaves (around_under s (x ∷ acts)) i c.state)
          (λ y e. scalar_hides (main_after x.stacked) (bounds_of s) i c.state y e)

      handles_sound : (c : Config State) (r : Result Instr Fault) → listing c.state.pc ≡ r → Sound c (x ∷ acts)
          → StepSound (handles (program_under listing s (x ∷ acts)) (around_under s (x ∷ acts)) r c x acts)
      handles_sound c (Ok (instr.Scalar i)) e h = scalar_sound (instr.Scalar i) c h
      handles_sound c (Ok (instr.Branch i)) e h = scalar_sound (instr.Branch i) c h
      handles_sound c (Ok (instr.Vector v)) e h =
          row_sound c (older (program_under listing s (x ∷ acts)) c) h (vector_leaves listing (around_under s (x ∷ acts)) v c h.inside (ap vector_of e))
      handles_sound c (Err f) e h = row_sound c (older (program_under listing s (x ∷ acts)) c) h (fault_leaves listing (around_under s (x ∷ acts)) f c e)

      handler_sound : (t : InFlight) (c : Config State) → Sound c (x ∷ acts) → StepSound (handler_step listing s t c x acts)
      handler_sound Older c h = handles_sound c (listing c.state.pc) refl h
      handler_sound Younger c h = row_sound c (younger (program_under listing s (x ∷ acts)) c) h (younger_leaves listing (around_under s (x ∷ acts)) c h.inside)

  module _ (listing : Listing) where
    in_flight_leaves : (t : InFlight) (c : Config State) → FitsInside c → IfOk (step_in_flight (program_under listing s []) t c) (StepLeaves c)
    in_flight_leaves Older c inside = older_leaves listing (around_under s []) c inside
    in_flight_leaves Younger c inside = younger_steps listing (around_under s []) c inside

    under_sound : (t : InFlight) (c : Config State) (acts : List Interrupted) → Sound c acts → StepSound (step_under listing s t c acts)
    under_sound t c [] h = thread_sound c (step_in_flight (program_under listing s []) t c) h (in_flight_leaves t c h.inside)
    under_sound t c (x ∷ acts) h = handler_sound x acts listing t c h

    pub step_sound : (t : InFlight) (x : Nested) → IsSound s x → StepSound (step listing s t x)
    step_sound t x h = under_sound t x.config x.acts h

    -- LETTERS
    then_sound : {E : Type 0} (r : Result Nested E) (f : Nested → Result Nested E) → IfOk r (IsSound s) → ((y : Nested) → IsSound s y → IfOk (f y) (IsSound s))
        → IfOk (then r f) (IsSound s)
    then_sound (Ok y) f h k = k y h
    then_sound (Err e) f h k = tt

    steps_sound : (k : ℕ) (x : Nested) → IsSound s x → StepSound (steps listing s k x)
    steps_sound zero x h = h
    steps_sound (suc k) x h = then_sound (step listing s Older x) (steps listing s k) (step_sound Older x h) (steps_sound k)

    either_sound : (b : Bool) (r q : NestedStep) → StepSound r → StepSound q → StepSound (cond b r q)
    either_sound true r q h k = h
    either_sound false r q h k = k

    letter_sound : (l : ℕ) (x : Nested) → IsSound s x → StepSound (letter listing s l x)
    letter_sound l x h =
        either_sound (l == older_letter) _ _ (step_sound Older x h)
        (either_sound (l == younger_letter) _ _ (step_sound Younger x h) (steps_sound (steps_left (vector_of (listing x.config.state.pc)) x.config.a) x h))

    at_step_sound : (k : ℕ) (younger : Bool) (r : NestedStep) → StepSound r → IfOk (at_step k younger r) (IsSound s)
    at_step_sound k younger (Ok y) h = h
    at_step_sound k younger (Err e) h = tt

    pub letters_sound : (k : ℕ) (ls : List ℕ) (x : Nested) → IsSound s x → IfOk (letters listing s k ls x) (IsSound s)
    letters_sound k [] x h = h
    letters_sound k (l ∷ ls) x h =
        then_sound (at_step (k + 1) (l == younger_letter) (letter listing s l x)) (letters listing s (k + 1) ls)
        (at_step_sound (k + 1) (l == younger_letter) (letter listing s l x) (letter_sound l x h)) (letters_sound (k + 1) ls)

  -- THE END OF A TICK
  pub counted_sound : (irq : List ℕ) (x : Nested) → IsSound s x
      → IsSound s (record x { config = record x.config { state = with_devices (counted_with irq) x.config.state } })
  counted_sound irq x h =
      let d = x.config.state.rest.devices in
      let same : open_devices (counted_with irq d) ≡ open_devices d = (counted_hides irq x.config.state).devices in
      record {
        around = h.around;
        levels = levels_same d (counted_with irq d) same h.levels;
        number = h.number;
        selects = h.selects;
        block = h.block;
        inside = h.inside;
        stacked = h.stacked;
        urgent = urgent_same d (counted_with irq d) same x.acts h.urgent;
      }

  number_below : (acts : List Interrupted) → AreStacked acts → number_under acts < 512
  number_below [] h = omega arith
  number_below (x ∷ acts) h = let high : x.stacked.number < end_number = h.0.exception.1 in omega arith

  pub can_enter : (x : Nested) → IsSound s x → may_end x.config.a x.config.b ≡ true → CanEnter (regs_of x.config.state) (position_of x.config)
  unfolding regs_of
  can_enter x h end = record {
    position = end;
    number = subst (λ (n : ℕ). n < 512) (sym h.number) (number_below x.acts h.stacked);
    block = h.block.1;
    inside = λ e. (h.inside e).0;
    selects = h.selects;
  }

  pub at_most_eight : (x : Nested) → IsSound s x → length x.acts ≤ 8
  at_most_eight x h = most_active x.config.state.rest.devices h.levels x.acts h.urgent

  module _ (x : Run) (e : ℕ) (h : IsSound s x.machine) (picks_it : picks x ≡ Some e) where
    abbrev t : State
    t = x.machine.config.state

    exception : IsException e
    exception = picked_number t.rest.devices (mask_of t.rest.primask t.rest.basepri) x.machine.acts e picks_it

    over : priority_of t.rest.devices e < least_active t.rest.devices x.machine.acts
    over = picked_urgent t.rest.devices (mask_of t.rest.primask t.rest.basepri) x.machine.acts e picks_it

    pub picked_sound : IsException e × (length x.machine.acts < 8)
    picked_sound = (exception, room_for t.rest.devices h.levels (priority_of t.rest.devices e) x.machine.acts over h.urgent)

    pub entered_sound : may_end x.machine.config.a x.machine.config.b ≡ true → entry_refusal (bounds_of s) (regs_of t) (seen_in t) e ≡ None
        → IsSound s (entered s e x.machine)
    unfolding state_with
    entered_sound end free =
        let y = interrupted_by e x.machine.config in
        let d = t.rest.devices in
        let now = (entered_state s y.stacked t).rest.devices in
        let same : open_devices now ≡ open_devices d = (entry_hides s y.stacked t).devices in
        record {
          around = refl;
          levels = levels_same d now same h.levels;
          number = refl;
          selects = λ n. refl;
          block = (omega arith, λ z. refl);
          inside = not_inside;
          stacked = (
            stacked_by (bounds_of s) e x.machine.config x.machine.acts exception (can_enter x.machine h end) h.block h.inside h.number free,
            h.stacked,
          );
          urgent = (urgent_over d now same e x.machine.acts over, urgent_same d now same x.machine.acts h.urgent);
        }

  -- TICKS. While a run goes on its machine is sound.
  abbrev RunSound : Run → Type 0
  RunSound x = x.outcome ≡ None → IsSound s x.machine

  enters_sound : (x : Run) (e : ℕ) (o : Option EnterErr) → IsSound s x.machine → picks x ≡ Some e → may_end x.machine.config.a x.machine.config.b ≡ true
      → entry_refusal (bounds_of s) (regs_of x.machine.config.state) (seen_in x.machine.config.state) e ≡ o → IsSound s (enters_unless s e o x).machine
  enters_sound x e None h picks_it end free = entered_sound x e h picks_it end free
  enters_sound x e (Some why) h picks_it end free = h

  picks_sound : (x : Run) (o : Option ℕ) → IsSound s x.machine → picks x ≡ o → may_end x.machine.config.a x.machine.config.b ≡ true
      → IsSound s (enters s o x).machine
  picks_sound x None h picks_it end = h
  picks_sound x (Some e) h picks_it end =
      enters_sound x e (entry_refusal (bounds_of s) (regs_of x.machine.config.state) (seen_in x.machine.config.state) e) h picks_it end refl

  may_enter_sound : (b : Bool) (x : Run) → IsSound s x.machine → may_end x.machine.config.a x.machine.config.b ≡ true
      → IsSound s (cond b (enters s (picks x) x) x).machine
  may_enter_sound true x h end = picks_sound x (picks x) h refl end
  may_enter_sound false x h end = h

  judged_sound : (b : Bool) (line : TickLine) (x : Run) (o : Outcome) → may_end x.machine.config.a x.machine.config.b ≡ b → IsSound s x.machine
      → IsSound s (cond b (may_enter s (after_count line x)) (record x { outcome = Some o })).machine
  judged_sound true line x o end h = may_enter_sound s.entries (after_count line x) (counted_sound line.irq x.machine h) end
  judged_sound false line x o end h = h

  -- what did not go on ended the run
  has_ended : {P : Type 0} (o : Outcome) → Some o ≡ None → P
  has_ended o e = absurd cc

  stops_sound : (t k : ℕ) (younger : Bool) (e : NestedEnd) (sps : List Pointers) → RunSound (stops t k younger e sps)
  stops_sound t k younger (Ended (Stopped c e) acts) sps none = has_ended _ none
  stops_sound t k younger e sps none = has_ended _ none

  module _ (listing : Listing) where
    tick_ends : (line : TickLine) (x : Run) (r : Result Nested TickEnd) → IfOk r (IsSound s) → RunSound (ended s line x r)
    tick_ends line x (Ok m) h = λ none.
        judged_sound (may_end m.config.a m.config.b) line (record { outcome = None; machine = m; ticks = x.ticks + 1; entries = x.entries }) _ refl h
    tick_ends line x (Err e) h = stops_sound (x.ticks + 1) e.step e.younger e.end x.entries

    tick_sound : (line : TickLine) (x : Run) (o : Option Outcome) → x.outcome ≡ o → RunSound x → RunSound (tick_of listing s line x o)
    tick_sound line x (Some o) e h = h
    tick_sound line x None e h = tick_ends line x (letters listing s 0 line.letters x.machine) (letters_sound listing 0 line.letters x.machine (h e))

    closed_sound : (left : List TickLine) (x : Run) → RunSound x → RunSound (closed left x)
    closed_sound [] x h = λ none. absurd (out_ends x.outcome none)
    closed_sound (line ∷ left) x h = h

    pub next_sound : (left : List TickLine) (x : Run) → RunSound x → RunSound (next listing s left x)
    next_sound [] x h = h
    next_sound (line ∷ left) x h = closed_sound left (tick_of listing s line x x.outcome) (tick_sound line x x.outcome refl h)

    pub run_sound : (image : List Segment) (t : ℕ) → RunSound (run listing image s t)
    run_sound image zero = closed_sound (ticks_of s.lines) (begin image s) (λ none. start_sound image s)
    run_sound image (suc t) = next_sound (drop t (ticks_of s.lines)) (run listing image s t) (run_sound image t)
