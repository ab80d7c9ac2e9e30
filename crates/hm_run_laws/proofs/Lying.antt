-- After each tick every tainted byte lies where an entry or a handler may write.
use Rattle.hm_run.specs.Timed.{bounds_of, counted_with, with_devices}
use Rattle.std.proofs.Common.{◌≡◌, ◌⊎◌, ℕ, zero, suc, ◌==◌, ◌+◌, ◌-◌, ◌*◌, ◌/◌, ◌%◌, ◌^◌, ◌<◌, ◌≤◌, ap, refl, sym, ◌∙◌, Bool, true, false, cond, ◌&&◌}
use Rattle.std.proofs.Common.{nat_le, nat_lt, List, [], ◌∷◌, drop, Option, Some, None, Result, Ok, Err, inl, inr, ⊎_elim, arith}
use Rattle.std.proofs.lemmas.Bool.{or_cases}
use Rattle.std.proofs.lemmas.Bool.Decides.{nat_tests}
use Rattle.hm_base.specs.Image.{Segment}
use Rattle.hm_base.specs.declared.Fault.{Fault}
use Rattle.hm_base.specs.declared.Stop.{Stop}
use Rattle.hm_codes.specs.Listing.{Listing}
use Rattle.hm_exc.specs.Entry.{entry_refusal, in_frame, main_after}
use Rattle.hm_exc.specs.Frame.{floor_for, frame_base, frame_size, has_room}
use Rattle.hm_exc.specs.Return.{return_rule}
use Rattle.hm_exc.specs.declared.types.Activation.{Activation}
use Rattle.hm_exc.proofs.Stacked.{size_most}
use Rattle.hm_exc.specs.declared.types.Broken.{Broken}
use Rattle.hm_exc.specs.declared.types.EnterErr.{EnterErr}
use Rattle.hm_isa.specs.declared.Flow.{Flow}
use Rattle.hm_isa.specs.declared.Flow.TheVariants as flow
use Rattle.hm_isa.specs.declared.Instr.{Instr}
use Rattle.hm_isa.specs.declared.Instr.TheVariants as instr
use Rattle.hm_order.specs.Beats.{then}
use Rattle.hm_order.specs.InFlight.{InFlight, Older, Younger, step_in_flight}
use Rattle.hm_order.specs.Machine.{Config, End, Stopped, Broken as Breaks, begun, older, younger}
use Rattle.hm_order.proofs.Results.{decide}
use Rattle.hm_regs.specs.Stacks.{uses_process}
use Rattle.hm_regs.specs.declared.Regs.{Regs}
use Rattle.hm_run.specs.declared.Cause.{Cause}
use Rattle.hm_run.specs.declared.Outcome.{Outcome}
use Rattle.hm_run.specs.Program.{steps_left, vector_of}
use Rattle.hm_sched.specs.Schedule.{TickLine, Sched, older_letter, younger_letter, ticks_of}
use Rattle.hm_state.specs.Start.{start_under}
use Rattle.hm_state.specs.State.{State, Byte, regs_of}
use Rattle.hm_whole.specs.Whole.{Went, scalar_in_machine, seen_in, state_with}
use Rattle.hm_window.specs.Positions.{may_end}
use Rattle.hm_window.specs.declared.rule.Rule.{Rule}
use Rattle.hm_run_laws.specs.Entries.{entered, entered_state, interrupted_by}
use Rattle.hm_run_laws.specs.Nested.{Ended, Interrupted, Nested, NestedEnd, NestedStep, Offends, TickEnd, around_under, at_step, flows, handler_step, handles}
use Rattle.hm_run_laws.specs.Nested.{letter, letters, program_under, returned, step, step_under, steps, uncounted, went, with_acts}
use Rattle.hm_run_laws.specs.Runs.{Pointers, Run, after_count, begin, closed, ended, enters, enters_unless, may_enter, next, picks, pointers_of, run}
use Rattle.hm_run_laws.specs.Runs.{stopped_under, stops, tick_of}
use Rattle.hm_run_laws.specs.Taint.{BelowMain, MayBeTainted, TaintLies}
use Rattle.hm_run_laws.proofs.Growing.{Allowed, Grows, Nothing, handler_scalar}
use Rattle.hm_run_laws.proofs.Growth.{StepGrows, begun_grows, fault_grows, thread_older, thread_younger, vector_grows, younger_grows}
use Rattle.hm_run_laws.proofs.Order.{out_ends}
use Rattle.hm_run_laws.proofs.Entering.{room_of}
use Rattle.hm_run_laws.proofs.Written.{handler_beat}

-- THE FRAME of an entry ends below the stack pointer
frame_fits : (sp size base q : ℕ) → q ≡ (sp + 2 ^ 32 - size) % 2 ^ 32 → base ≡ q - q / 4 % 2 * 4 → size ≤ 104 → base + size ≤ 0x20040000 → base + size ≤ sp
frame_fits sp size base q e f small high = omega arith

-- what lies below the main stack pointer just after an entry lies below the one at the entry
main_below : (process : Bool) (other base size sp a : ℕ) → base + size ≤ sp → a < cond process other base → a < cond process other sp
main_below true other base size sp a fits l = l
main_below false other base size sp a fits l = omega arith

-- the bytes of a frame lie between the floor and the pointer of its stack
framed : (process : Bool) (other base size sp floor process_floor a : ℕ) (P Q : Type 0) → base + size ≤ sp → cond process process_floor floor ≤ base → base ≤ a
    → a < base + size
    → ((floor ≤ a) × ((a < cond process other sp) ⊎ P)) ⊎ ((process_floor ≤ a) × (((process ≡ true) × (a < cond process sp other)) ⊎ Q))
framed true other base size sp floor process_floor a P Q fits low start end = inr (omega arith, inl (refl, omega arith))
framed false other base size sp floor process_floor a P Q fits low start end = inl (omega arith, inl (omega arith))

module _ (listing : Listing) (s : Sched) where
  -- what may be tainted stays so with more entries
  more : (p : Pointers) (sps : List Pointers) (a : ℕ) → MayBeTainted s sps a → MayBeTainted s (p ∷ sps) a
  more p sps a (inl h) = inl h
  more p sps a (inr (inl h)) = inr (inl (h.0, inr h.1))
  more p sps a (inr (inr h)) = inr (inr (h.0, inr h.1))

  -- each main stack pointer just after an entry is at or below the one at an entry
  abbrev FramesBelow : List Pointers → List Interrupted → Type 0
  FramesBelow sps [] = Unit {0}
  FramesBelow sps (x ∷ acts) = ((a : ℕ) → a < (main_after x.stacked) → BelowMain a sps) × FramesBelow sps acts

  more_frames : (sp : Pointers) (sps : List Pointers) (acts : List Interrupted) → FramesBelow sps acts → FramesBelow (sp ∷ sps) acts
  more_frames sp sps [] h = tt
  more_frames sp sps (x ∷ acts) h = (λ a l. inr (h.0 a l), more_frames sp sps acts h.1)

  record Lies (sps : List Pointers) (t : State) (acts : List Interrupted) : Type 0 where
    taint : TaintLies s sps t
    frames : FramesBelow sps acts

  -- WHAT A STEP LEAVES
  clean_step : (sps : List Pointers) (t u : State) → Grows Nothing t u → TaintLies s sps t → TaintLies s sps u
  clean_step sps t u grows lies a live = ⊎_elim (λ h. lies a h) (λ (n : ⊥). absurd n) (grows a live)

  allowed_lies : (frame : ℕ) (sps : List Pointers) (a : ℕ) → ((b : ℕ) → b < frame → BelowMain b sps) → Allowed frame (bounds_of s) a → MayBeTainted s sps a
  allowed_lies frame sps a below h = ⊎_elim
      (λ (e : (nat_le s.lo a && nat_lt a s.hi) ≡ true). inl (grind (arith, nat_tests), grind (arith, nat_tests)))
      (λ (e : (nat_le s.floor a && nat_lt a frame) ≡ true). let l : a < frame = grind (arith, nat_tests) in inr (inl (grind (arith, nat_tests), below a l)))
      (or_cases (nat_le s.lo a && nat_lt a s.hi) (nat_le s.floor a && nat_lt a frame) h)

  handler_grown : (x : Interrupted) (acts : List Interrupted) (sps : List Pointers) (t u : State) → Grows (Allowed (main_after x.stacked) (bounds_of s)) t u
      → Lies sps t (x ∷ acts) → TaintLies s sps u
  handler_grown x acts sps t u grows lies a live =
      ⊎_elim (λ h. lies.taint a h) (λ p. allowed_lies (main_after x.stacked) sps a lies.frames.0 p) (grows a live)

  abbrev EndLies : List Pointers → NestedEnd → Type 0
  EndLies sps (Ended (Stopped c e) acts) = TaintLies s sps c.state
  EndLies sps (Ended (Breaks c r) acts) = TaintLies s sps c.state
  EndLies sps (Offends what c acts) = TaintLies s sps c.state

  abbrev StepLies : List Pointers → NestedStep → Type 0
  StepLies sps (Ok y) = Lies sps y.config.state y.acts
  StepLies sps (Err e) = EndLies sps e

  thread_lies : (sps : List Pointers) (c : Config State) (r : Result (Config State) (End State Cause Rule)) → TaintLies s sps c.state → StepGrows Nothing c r
      → StepLies sps (with_acts [] r)
  thread_lies sps c (Ok d) lies h = record { taint = clean_step sps c.state d.state h lies; frames = tt }
  thread_lies sps c (Err (Stopped d e)) lies h = clean_step sps c.state d.state h lies
  thread_lies sps c (Err (Breaks d r)) lies h = clean_step sps c.state d.state h lies

  module _ (x : Interrupted) (acts : List Interrupted) (sps : List Pointers) where
    abbrev May : ℕ → Type 0
    May = Allowed (main_after x.stacked) (bounds_of s)

    handler_lies : (c : Config State) (r : Result (Config State) (End State Cause Rule)) → Lies sps c.state (x ∷ acts) → StepGrows May c r
        → StepLies sps (with_acts (x ∷ acts) (uncounted c r))
    handler_lies c (Ok d) lies h = record { taint = handler_grown x acts sps c.state d.state h lies; frames = lies.frames }
    handler_lies c (Err (Stopped d e)) lies h = handler_grown x acts sps c.state d.state h lies
    handler_lies c (Err (Breaks d r)) lies h = handler_grown x acts sps c.state d.state h lies

    returned_lies : (b : Option Broken) (c : Config State) (t : State) → TaintLies s sps t → FramesBelow sps acts → StepLies sps (returned b c x acts t)
    returned_lies None c t lies frames = record { taint = lies; frames = frames }
    returned_lies (Some b) c t lies frames = lies

    flows_lies : (f : Flow) (c : Config State) (t : State) → Lies sps c.state (x ∷ acts) → TaintLies s sps t → StepLies sps (flows f c x acts t)
    flows_lies flow.Next c t old lies = record { taint = lies; frames = old.frames }
    flows_lies (flow.Break k) c t old lies = lies
    flows_lies (flow.Return value) c t old lies = returned_lies (return_rule (regs_of t) (seen_in t).byte value x.stacked) c t lies old.frames.1

    went_lies : (c : Config State) (r : Result Went Stop) → Lies sps c.state (x ∷ acts) → ((y : Went) → r ≡ Ok y → Grows May c.state y.state)
        → StepLies sps (went (program_under listing s (x ∷ acts)) c x acts r)
    went_lies c (Ok y) old h = flows_lies y.flow c y.state old (handler_grown x acts sps c.state y.state (h y refl) old)
    went_lies c (Err e) old h =
        let M = program_under listing s (x ∷ acts) in
        handler_grown x acts sps c.state (begun M c).state
        (begun_grows listing (around_under s (x ∷ acts)) May (handler_beat (main_after x.stacked) (bounds_of s)) c) old

    handles_lie : (c : Config State) (r : Result Instr Fault) → listing c.state.pc ≡ r → Lies sps c.state (x ∷ acts)
        → StepLies sps (handles (program_under listing s (x ∷ acts)) (around_under s (x ∷ acts)) r c x acts)
    handles_lie c (Ok (instr.Scalar i)) e old =
        went_lies c (scalar_in_machine (around_under s (x ∷ acts)) (instr.Scalar i) c.state) old
        (λ y k. handler_scalar (main_after x.stacked) (bounds_of s) (instr.Scalar i) c.state y k)
    handles_lie c (Ok (instr.Branch i)) e old =
        went_lies c (scalar_in_machine (around_under s (x ∷ acts)) (instr.Branch i) c.state) old
        (λ y k. handler_scalar (main_after x.stacked) (bounds_of s) (instr.Branch i) c.state y k)
    handles_lie c (Ok (instr.Vector v)) e old =
        handler_lies c (older (program_under listing s (x ∷ acts)) c) old
        (vector_grows listing (around_under s (x ∷ acts)) May (handler_beat (main_after x.stacked) (bounds_of s)) v c (ap vector_of e))
    handles_lie c (Err f) e old =
        handler_lies c (older (program_under listing s (x ∷ acts)) c) old
        (fault_grows listing (around_under s (x ∷ acts)) May (handler_beat (main_after x.stacked) (bounds_of s)) f c e)

    handler_step_lies : (t : InFlight) (c : Config State) → Lies sps c.state (x ∷ acts) → StepLies sps (handler_step listing s t c x acts)
    handler_step_lies Older c old = handles_lie c (listing c.state.pc) refl old
    handler_step_lies Younger c old =
        handler_lies c (younger (program_under listing s (x ∷ acts)) c) old
        (younger_grows listing (around_under s (x ∷ acts)) May (handler_beat (main_after x.stacked) (bounds_of s)) c)

  in_flight_grows : (t : InFlight) (c : Config State) → StepGrows Nothing c (step_in_flight (program_under listing s []) t c)
  in_flight_grows Older c = thread_older (bounds_of s) listing c
  in_flight_grows Younger c = thread_younger (bounds_of s) listing c

  under_lies : (sps : List Pointers) (t : InFlight) (c : Config State) (acts : List Interrupted) → Lies sps c.state acts
      → StepLies sps (step_under listing s t c acts)
  under_lies sps t c [] old = thread_lies sps c (step_in_flight (program_under listing s []) t c) old.taint (in_flight_grows t c)
  under_lies sps t c (x ∷ acts) old = handler_step_lies x acts sps t c old

  step_lies : (sps : List Pointers) (t : InFlight) (x : Nested) → Lies sps x.config.state x.acts → StepLies sps (step listing s t x)
  step_lies sps t x h = under_lies sps t x.config x.acts h

  -- LETTERS
  then_lies : (sps : List Pointers) (r : NestedStep) (f : Nested → NestedStep) → StepLies sps r
      → ((y : Nested) → Lies sps y.config.state y.acts → StepLies sps (f y)) → StepLies sps (then r f)
  then_lies sps (Ok y) f h k = k y h
  then_lies sps (Err e) f h k = h

  steps_lie : (sps : List Pointers) (k : ℕ) (x : Nested) → Lies sps x.config.state x.acts → StepLies sps (steps listing s k x)
  steps_lie sps zero x h = h
  steps_lie sps (suc k) x h = then_lies sps (step listing s Older x) (steps listing s k) (step_lies sps Older x h) (steps_lie sps k)

  either_lies : (sps : List Pointers) (b : Bool) (r q : NestedStep) → StepLies sps r → StepLies sps q → StepLies sps (cond b r q)
  either_lies sps true r q h k = h
  either_lies sps false r q h k = k

  letter_lies : (sps : List Pointers) (l : ℕ) (x : Nested) → Lies sps x.config.state x.acts → StepLies sps (letter listing s l x)
  letter_lies sps l x h =
      either_lies sps (l == older_letter) _ _ (step_lies sps Older x h)
      (either_lies sps (l == younger_letter) _ _ (step_lies sps Younger x h)
      (steps_lie sps (steps_left (vector_of (listing x.config.state.pc)) x.config.a) x h))

  abbrev TickLies : List Pointers → Result Nested TickEnd → Type 0
  TickLies sps (Ok y) = Lies sps y.config.state y.acts
  TickLies sps (Err e) = EndLies sps e.end

  at_step_lies : (sps : List Pointers) (k : ℕ) (younger : Bool) (r : NestedStep) → StepLies sps r → TickLies sps (at_step k younger r)
  at_step_lies sps k younger (Ok y) h = h
  at_step_lies sps k younger (Err e) h = h

  then_tick : (sps : List Pointers) (r : Result Nested TickEnd) (f : Nested → Result Nested TickEnd) → TickLies sps r
      → ((y : Nested) → Lies sps y.config.state y.acts → TickLies sps (f y)) → TickLies sps (then r f)
  then_tick sps (Ok y) f h k = k y h
  then_tick sps (Err e) f h k = h

  letters_lie : (sps : List Pointers) (ls : List ℕ) (k : ℕ) (x : Nested) → Lies sps x.config.state x.acts → TickLies sps (letters listing s k ls x)
  letters_lie sps [] k x h = h
  letters_lie sps (l ∷ ls) k x h =
      then_tick sps (at_step (k + 1) (l == younger_letter) (letter listing s l x)) (letters listing s (k + 1) ls)
      (at_step_lies sps (k + 1) (l == younger_letter) (letter listing s l x) (letter_lies sps l x h)) (letters_lie sps ls (k + 1))

  -- TICKS. While a run goes on the frames lie so too.
  record RunLies (x : Run) : Type 0 where
    taint : TaintLies s x.entries x.machine.config.state
    frames : x.outcome ≡ None → FramesBelow x.entries x.machine.acts

  ended_lies : (o : Outcome) (m : Nested) (t : ℕ) (sps : List Pointers) → TaintLies s sps m.config.state
      → RunLies (record { outcome = Some o; machine = m; ticks = t; entries = sps })
  ended_lies o m t sps h = record { taint = h; frames = λ none. absurd cc }

  going_lies : (m : Nested) (t : ℕ) (sps : List Pointers) → Lies sps m.config.state m.acts
      → RunLies (record { outcome = None; machine = m; ticks = t; entries = sps })
  going_lies m t sps h = record { taint = h.taint; frames = λ none. h.frames }

  stopped_state : (sps : List Pointers) (acts : List Interrupted) (c : Config State) (e : _) → TaintLies s sps c.state
      → TaintLies s sps (stopped_under acts c e).state
  stopped_state sps [] c e h = h
  stopped_state sps (x ∷ acts) c e h = h

  stops_lie : (t k : ℕ) (younger : Bool) (e : NestedEnd) (sps : List Pointers) → EndLies sps e → RunLies (stops t k younger e sps)
  stops_lie t k younger (Ended (Stopped c e) acts) sps h = ended_lies _ _ t sps (stopped_state sps acts c _ h)
  stops_lie t k younger (Ended (Breaks c r) acts) sps h = ended_lies _ _ t sps h
  stops_lie t k younger (Offends what c acts) sps h = ended_lies _ _ t sps h

  -- AN ENTRY
  module _ (e : ℕ) (x : Nested) (sps : List Pointers) (free : entry_refusal (bounds_of s) (regs_of x.config.state) (seen_in x.config.state) e ≡ None)
      (old : Lies sps x.config.state x.acts) where
    abbrev r : Regs
    r = regs_of x.config.state

    abbrev y : Activation
    y = (interrupted_by e x.config).stacked

    room : has_room (bounds_of s) r ≡ true
    room = room_of (bounds_of s) r (seen_in x.config.state) e free

    fits : frame_base r + frame_size r.fpca ≤ r.sp
    fits =
        let there = room in
        let small = size_most r.fpca in
        let high : frame_base r + frame_size r.fpca ≤ 0x20040000 = grind (arith, nat_tests) in
        frame_fits r.sp (frame_size r.fpca) (frame_base r) ((r.sp + 2 ^ 32 - frame_size r.fpca) % 2 ^ 32) refl refl small high

    low : floor_for (bounds_of s) r ≤ frame_base r
    low = let there = room in grind (arith, nat_tests)

    -- where the frame is on the process stack, the main stack pointer stays
    below : (a : ℕ) → a < main_after y → BelowMain a (pointers_of r ∷ sps)
    below a l = inl (main_below (uses_process r) r.other (frame_base r) (frame_size r.fpca) r.sp a fits l)

    entry_taint : TaintLies s (pointers_of r ∷ sps) (entered_state s y x.config.state)
    unfolding state_with
    entry_taint a live = decide (in_frame y a)
        (λ is.
        let start : frame_base r ≤ a = grind (arith, nat_tests) in
        let end : a < frame_base r + frame_size r.fpca = grind (arith, nat_tests) in
        inr (framed (uses_process r) r.other (frame_base r) (frame_size r.fpca) r.sp s.floor s.process a _ _ fits low start end))
        (λ isnt. more (pointers_of r) sps a (old.taint a (sym (ap (λ (b : Bool). cond b true (x.config.state.cell (Byte a)).taint) isnt) ∙ live)))

    entry_lies : Lies (pointers_of r ∷ sps) (entered s e x).config.state (entered s e x).acts
    entry_lies = record { taint = entry_taint; frames = (below, more_frames (pointers_of r) sps x.acts old.frames) }

  enters_lie : (e : ℕ) (o : Option EnterErr) (x : Nested) (t : ℕ) (sps : List Pointers)
      → entry_refusal (bounds_of s) (regs_of x.config.state) (seen_in x.config.state) e ≡ o → Lies sps x.config.state x.acts
      → RunLies (enters_unless s e o (record { outcome = None; machine = x; ticks = t; entries = sps }))
  enters_lie e None x t sps free old = going_lies (entered s e x) t (pointers_of (regs_of x.config.state) ∷ sps) (entry_lies e x sps free old)
  enters_lie e (Some why) x t sps free old = ended_lies _ x t sps old.taint

  picked_lies : (o : Option ℕ) (x : Nested) (t : ℕ) (sps : List Pointers) → Lies sps x.config.state x.acts
      → RunLies (enters s o (record { outcome = None; machine = x; ticks = t; entries = sps }))
  picked_lies None x t sps old = going_lies x t sps old
  picked_lies (Some e) x t sps old = enters_lie e (entry_refusal (bounds_of s) (regs_of x.config.state) (seen_in x.config.state) e) x t sps refl old

  may_enter_lies : (b : Bool) (x : Nested) (t : ℕ) (sps : List Pointers) → Lies sps x.config.state x.acts
      → let y : Run = record { outcome = None; machine = x; ticks = t; entries = sps } in RunLies (cond b (enters s (picks y) y) y)
  may_enter_lies true x t sps old = picked_lies (picks (record { outcome = None; machine = x; ticks = t; entries = sps })) x t sps old
  may_enter_lies false x t sps old = going_lies x t sps old

  judged_lies : (b : Bool) (line : TickLine) (x : Nested) (t : ℕ) (sps : List Pointers) (o : Outcome) → Lies sps x.config.state x.acts
      → let y : Run = record { outcome = None; machine = x; ticks = t; entries = sps } in
      RunLies (cond b (may_enter s (after_count line y)) (record y { outcome = Some o }))
  judged_lies true line x t sps o old =
      may_enter_lies s.entries (record x { config = record x.config { state = with_devices (counted_with line.irq) x.config.state } }) t sps
      (record { taint = old.taint; frames = old.frames })
  judged_lies false line x t sps o old = ended_lies o x t sps old.taint

  tick_ends : (line : TickLine) (x : Run) (r : Result Nested TickEnd) → TickLies x.entries r → RunLies (ended s line x r)
  tick_ends line x (Ok m) h = judged_lies (may_end m.config.a m.config.b) line m (x.ticks + 1) x.entries _ h
  tick_ends line x (Err e) h = stops_lie (x.ticks + 1) e.step e.younger e.end x.entries h

  tick_lies : (line : TickLine) (x : Run) (o : Option Outcome) → x.outcome ≡ o → RunLies x → RunLies (tick_of listing s line x o)
  tick_lies line x (Some o) e h = h
  tick_lies line x None e h =
      tick_ends line x (letters listing s 0 line.letters x.machine)
      (letters_lie x.entries line.letters 0 x.machine (record { taint = h.taint; frames = h.frames e }))

  closed_lies : (left : List TickLine) (x : Run) → RunLies x → RunLies (closed left x)
  closed_lies [] x h = record { taint = h.taint; frames = λ none. absurd (out_ends x.outcome none) }
  closed_lies (line ∷ left) x h = h

  next_lies : (left : List TickLine) (x : Run) → RunLies x → RunLies (next listing s left x)
  next_lies [] x h = h
  next_lies (line ∷ left) x h = closed_lies left (tick_of listing s line x x.outcome) (tick_lies line x x.outcome refl h)

  first_lies : (image : List Segment) → RunLies (begin image s)
  unfolding start_under
  first_lies image = record { taint = λ a live. absurd cc; frames = λ none. tt }

  run_lies : (image : List Segment) (t : ℕ) → RunLies (run listing image s t)
  run_lies image zero = closed_lies (ticks_of s.lines) (begin image s) (first_lies image)
  run_lies image (suc t) = next_lies (drop t (ticks_of s.lines)) (run listing image s t) (run_lies image t)

pub taint_lies : (listing : Listing) (image : List Segment) (s : Sched) (t : ℕ)
    → TaintLies s (run listing image s t).entries (run listing image s t).machine.config.state
taint_lies listing image s t = (run_lies listing s image t).taint
