-- Thread mode: at each tick the exception number is 0 exactly where no exception is active, also at one that ended the run.
use Rattle.std.proofs.Common.{◌≡◌, ℕ, zero, suc, ◌+◌, ◌==◌, refl, sym, ap, ◌∙◌, arith, Bool, true, false, cond, drop, List, [], ◌∷◌, Option, Some, None, Result}
use Rattle.std.proofs.Common.{Ok, Err}
use Rattle.std.specs.Prelude.{◌↔◌, IfOk}
use Rattle.hm_base.specs.Image.{Segment}
use Rattle.hm_base.specs.declared.Fault.{Fault}
use Rattle.hm_base.specs.declared.Stop.{Stop}
use Rattle.hm_codes.specs.Listing.{Listing}
use Rattle.hm_exc.specs.Entry.{entry_refusal}
use Rattle.hm_exc.specs.Return.{return_rule}
use Rattle.hm_exc.specs.declared.types.Broken.{Broken as Breach}
use Rattle.hm_exc.specs.declared.types.EnterErr.{EnterErr}
use Rattle.hm_run_laws.proofs.Leaving.{Leaves, scalar_leaves}
use Rattle.hm_run_laws.proofs.Soundness.{counted_sound, letters_sound, next_sound, run_sound, start_sound, step_sound}
use Rattle.hm_run_laws.specs.Nested.{Ended, Interrupted, Nested, NestedEnd, NestedStep, Offends, TickEnd, around_under, at_step, flows, handler_step, handles}
use Rattle.hm_run_laws.specs.Nested.{letter, letters, program_under, returned, step, step_under, steps, uncounted, went, with_acts}
use Rattle.hm_run_laws.specs.Runs.{Pointers, Run, after_count, begin, closed, ended, enters, enters_unless, may_enter, next, picks, run, stops, tick_of}
use Rattle.hm_run_laws.specs.Sound.{AreStacked, IsSound, number_under}
use Rattle.hm_isa.specs.declared.Flow.{Flow}
use Rattle.hm_isa.specs.declared.Flow.TheVariants as flow
use Rattle.hm_isa.specs.declared.Instr.{Instr}
use Rattle.hm_isa.specs.declared.Instr.TheVariants as instr
use Rattle.hm_isa.specs.declared.Vector.{Vector}
use Rattle.hm_order.specs.Beats.{then}
use Rattle.hm_order.specs.Machine.{Broken, Config, End, Stopped, begin as begin_row, begun, did, done, fault_end, older, older_of, settle, younger, younger_of}
use Rattle.hm_order.specs.InFlight.{InFlight, Older, Younger, step_in_flight}
use Rattle.hm_rows.proofs.Context.{context_fresh, fresh}
use Rattle.hm_rows.specs.Context.{with_context}
use Rattle.hm_run.specs.declared.Cause.{Cause}
use Rattle.hm_run.specs.declared.Outcome.{Outcome}
use Rattle.hm_run.specs.Program.{Program, makes_here, steps_left, vector_of}
use Rattle.hm_run.specs.Timed.{bounds_of}
use Rattle.hm_sched.specs.Schedule.{Sched, TickLine, older_letter, ticks_of, younger_letter}
use Rattle.hm_state.specs.State.{State, regs_of}
use Rattle.hm_whole.specs.Whole.{Went, scalar_in_machine, seen_in}
use Rattle.hm_window.specs.Positions.{may_end}
use Rattle.hm_window.specs.declared.rule.Rule.{Rule}

-- the exception number is that of the newest activation
abbrev Tells : State → List Interrupted → Type 0
Tells t acts = (t.rest.ipsr ≡ number_under acts) × AreStacked acts

none_active : (n : ℕ) (acts : List Interrupted) → n ≡ number_under acts → AreStacked acts → (n ≡ 0) ↔ (acts ≡ [])
none_active n [] is stacked = (λ _. refl, λ _. is)
none_active n (x ∷ acts) is stacked = (λ at_null. absurd (let number = stacked.0.exception.0 in omega (arith, number, at_null, is)), λ none. absurd cc)

-- A STEP THAT DOES NOT GO ON leaves it
abbrev EndTells : List Interrupted → End State Cause Rule → Type 0
EndTells acts (Stopped c e) = Tells c.state acts
EndTells acts (Broken c r) = Tells c.state acts

abbrev ConfigTells : List Interrupted → Result (Config State) (End State Cause Rule) → Type 0
ConfigTells acts (Ok c) = Unit {0}
ConfigTells acts (Err e) = EndTells acts e

abbrev NestedTells : NestedEnd → Type 0
NestedTells (Ended e acts) = EndTells acts e
NestedTells (Offends what c acts) = Tells c.state acts

abbrev StepTells : NestedStep → Type 0
StepTells (Ok x) = Unit {0}
StepTells (Err e) = NestedTells e

context_number : (t : State) → (with_context t).rest.ipsr ≡ t.rest.ipsr
context_number t = ap (λ (u : State). u.rest.ipsr) (context_fresh t) ∙ one_of t.rest.fpca
  where
    one_of : (b : Bool) → (cond b t (fresh t)).rest.ipsr ≡ t.rest.ipsr
    one_of b = grind arith

chosen_number : (b : Bool) (t u : State) → u.rest.ipsr ≡ t.rest.ipsr → (cond b u t).rest.ipsr ≡ t.rest.ipsr
chosen_number true t u e = e
chosen_number false t u e = refl

module _ (listing : Listing) (s : Sched) (acts : List Interrupted) where
  abbrev M : Program
  M = program_under listing s acts

  begun_number : (c : Config State) → (begun M c).state.rest.ipsr ≡ c.state.rest.ipsr
  begun_number c =
      chosen_number (c.a == 0) c.state (M.made c.state)
      (chosen_number (makes_here (listing c.state.pc) (regs_of c.state)) c.state (with_context c.state) (context_number c.state))

  done_tells : (c : Config State) (r : Result State Cause) (f : State → Config State) → Tells c.state acts → ConfigTells acts (done M c r f)
  done_tells c (Ok t) f h = tt
  done_tells c (Err e) f h = (begun_number c ∙ h.0, h.1)

  older_tells : (c : Config State) (o : Option Vector) → Tells c.state acts → ConfigTells acts (older_of M o c)
  older_tells c (Some v) h = done_tells c (then (begin_row M v c.a c.state) ((M.rows.act v c.a).run)) (settle M (suc c.a) c.b c.n (suc c.steps)) h
  older_tells c None h = done_tells c (M.other c.state) (λ t. record { a = 0; b = 0; n = suc c.n; steps = suc c.steps; state = t }) h

  fault_tells : (o : Option Rule) (c : Config State) (e : Cause) → Tells c.state acts → EndTells acts (fault_end M o c e)
  fault_tells (Some b) c e h = h
  fault_tells None c e h = h

  did_tells : (c : Config State) (r : Result State Cause) → Tells c.state acts → ConfigTells acts (did M c r)
  did_tells c (Ok t) h = tt
  did_tells c (Err e) h = fault_tells (M.fault_rule e) c e h

  younger_tells : (c : Config State) (b : Option Rule) (o : Option Vector) → Tells c.state acts → ConfigTells acts (younger_of M b o c)
  younger_tells c (Some b) o h = h
  younger_tells c None (Some j) h = did_tells c ((M.rows.act j c.b).run c.state) h
  younger_tells c None None h = tt

  in_flight_tells : (t : InFlight) (c : Config State) → Tells c.state acts → ConfigTells acts (step_in_flight M t c)
  in_flight_tells Older c h = older_tells c (M.code (M.rows.view.pc c.state)) h
  in_flight_tells Younger c h =
      younger_tells c (M.rule (M.code (M.rows.view.pc c.state)) (M.code (M.rows.view.pc c.state + 4)) c) (M.code (M.rows.view.pc c.state + 4)) h

  with_tells : (r : Result (Config State) (End State Cause Rule)) → ConfigTells acts r → StepTells (with_acts acts r)
  with_tells (Ok c) h = tt
  with_tells (Err e) h = h

  uncounted_tells : (c : Config State) (r : Result (Config State) (End State Cause Rule)) → ConfigTells acts r → StepTells (with_acts acts (uncounted c r))
  uncounted_tells c (Ok d) h = tt
  uncounted_tells c (Err e) h = h

-- a handler's
returned_tells : (b : Option Breach) (c : Config State) (x : Interrupted) (acts : List Interrupted) (t : State) → Tells t (x ∷ acts)
    → StepTells (returned b c x acts t)
returned_tells None c x acts t h = tt
returned_tells (Some b) c x acts t h = h

flows_tells : (f : Flow) (c : Config State) (x : Interrupted) (acts : List Interrupted) (t : State) → Tells t (x ∷ acts) → StepTells (flows f c x acts t)
flows_tells flow.Next c x acts t h = tt
flows_tells (flow.Break k) c x acts t h = h
flows_tells (flow.Return value) c x acts t h = returned_tells (return_rule (regs_of t) (seen_in t).byte value x.stacked) c x acts t h

module _ (listing : Listing) (s : Sched) where
  went_tells : (c : Config State) (x : Interrupted) (acts : List Interrupted) (r : Result Went Stop) → Tells c.state (x ∷ acts)
      → IfOk r (λ y. Leaves c.state.rest y.state.rest)
      → StepTells (went (program_under listing s (x ∷ acts)) c x acts r)
  went_tells c x acts (Ok y) h left = flows_tells y.flow c x acts y.state (left.number ∙ h.0, h.1)
  went_tells c x acts (Err e) h none = (begun_number listing s (x ∷ acts) c ∙ h.0, h.1)

  handles_tells : (r : Result Instr Fault) (c : Config State) (x : Interrupted) (acts : List Interrupted) → Tells c.state (x ∷ acts)
      → StepTells (handles (program_under listing s (x ∷ acts)) (around_under s (x ∷ acts)) r c x acts)
  handles_tells (Ok (instr.Scalar i)) c x acts h =
      let around = around_under s (x ∷ acts) in
      went_tells c x acts (scalar_in_machine around (instr.Scalar i) c.state) h (scalar_leaves around (instr.Scalar i) c.state)
  handles_tells (Ok (instr.Branch i)) c x acts h =
      let around = around_under s (x ∷ acts) in
      went_tells c x acts (scalar_in_machine around (instr.Branch i) c.state) h (scalar_leaves around (instr.Branch i) c.state)
  handles_tells (Ok (instr.Vector v)) c x acts h =
      uncounted_tells listing s (x ∷ acts) c (older (program_under listing s (x ∷ acts)) c) (in_flight_tells listing s (x ∷ acts) Older c h)
  handles_tells (Err f) c x acts h =
      uncounted_tells listing s (x ∷ acts) c (older (program_under listing s (x ∷ acts)) c) (in_flight_tells listing s (x ∷ acts) Older c h)

  handler_tells : (t : InFlight) (c : Config State) (x : Interrupted) (acts : List Interrupted) → Tells c.state (x ∷ acts)
      → StepTells (handler_step listing s t c x acts)
  handler_tells Older c x acts h = handles_tells (listing c.state.pc) c x acts h
  handler_tells Younger c x acts h =
      uncounted_tells listing s (x ∷ acts) c (younger (program_under listing s (x ∷ acts)) c) (in_flight_tells listing s (x ∷ acts) Younger c h)

  under_tells : (t : InFlight) (c : Config State) (acts : List Interrupted) → Tells c.state acts → StepTells (step_under listing s t c acts)
  under_tells t c [] h = with_tells listing s [] (step_in_flight (program_under listing s []) t c) (in_flight_tells listing s [] t c h)
  under_tells t c (x ∷ acts) h = handler_tells t c x acts h

  -- LETTERS: what goes on is sound, and what does not tells it
  abbrev Steps : NestedStep → Type 0
  Steps r = IfOk r (IsSound s) × StepTells r

  one_step : (t : InFlight) (x : Nested) → IsSound s x → Steps (step listing s t x)
  one_step t x h = (step_sound s listing t x h, under_tells t x.config x.acts (h.number, h.stacked))

  then_steps : (r : NestedStep) (f : Nested → NestedStep) → Steps r → ((y : Nested) → IsSound s y → Steps (f y)) → Steps (then r f)
  then_steps (Ok y) f h k = k y h.0
  then_steps (Err e) f h k = (tt, h.1)

  some_steps : (k : ℕ) (x : Nested) → IsSound s x → Steps (steps listing s k x)
  some_steps zero x h = (h, tt)
  some_steps (suc k) x h = then_steps (step listing s Older x) (steps listing s k) (one_step Older x h) (some_steps k)

  either_steps : (b : Bool) (r q : NestedStep) → Steps r → Steps q → Steps (cond b r q)
  either_steps true r q h k = h
  either_steps false r q h k = k

  letter_steps : (l : ℕ) (x : Nested) → IsSound s x → Steps (letter listing s l x)
  letter_steps l x h =
      either_steps (l == older_letter) _ _ (one_step Older x h)
      (either_steps (l == younger_letter) _ _ (one_step Younger x h) (some_steps (steps_left (vector_of (listing x.config.state.pc)) x.config.a) x h))

  abbrev LettersTell : Result Nested TickEnd → Type 0
  LettersTell (Ok x) = Unit {0}
  LettersTell (Err e) = NestedTells e.end

  then_letters : (k : ℕ) (younger : Bool) (r : NestedStep) (f : Nested → Result Nested TickEnd) → Steps r → ((y : Nested) → IsSound s y → LettersTell (f y))
      → LettersTell (then (at_step k younger r) f)
  then_letters k younger (Ok y) f h rest = rest y h.0
  then_letters k younger (Err e) f h rest = h.1

  letters_tell : (k : ℕ) (ls : List ℕ) (x : Nested) → IsSound s x → LettersTell (letters listing s k ls x)
  letters_tell k [] x h = tt
  letters_tell k (l ∷ ls) x h = then_letters (k + 1) (l == younger_letter) (letter listing s l x) (letters listing s (k + 1) ls) (letter_steps l x h)
      (letters_tell (k + 1) ls)

  -- TICKS
  abbrev RunTells : Run → Type 0
  RunTells x = Tells x.machine.config.state x.machine.acts

  stops_tell : (t k : ℕ) (younger : Bool) (e : NestedEnd) (sps : List Pointers) → NestedTells e → RunTells (stops t k younger e sps)
  stops_tell t k younger (Ended (Stopped c e) []) sps h = h
  stops_tell t k younger (Ended (Stopped c e) (x ∷ acts)) sps h = h
  stops_tell t k younger (Ended (Broken c r) acts) sps h = h
  stops_tell t k younger (Offends what c acts) sps h = h

  running : {P : Type 0} (o : Option Outcome) (q : Outcome) → o ≡ None → o ≡ Some q → P
  running o q none some = absurd (let no : None ≡ Some q = sym none ∙ some in cc)

  enters_tells : (x : Run) (e : ℕ) (r : Option EnterErr) (q : Outcome) → x.outcome ≡ None → IsSound s x.machine → (enters_unless s e r x).outcome ≡ Some q
      → RunTells (enters_unless s e r x)
  enters_tells x e None q none h is = running x.outcome q none is
  enters_tells x e (Some why) q none h is = (h.number, h.stacked)

  picks_tells : (x : Run) (p : Option ℕ) (q : Outcome) → x.outcome ≡ None → IsSound s x.machine → (enters s p x).outcome ≡ Some q → RunTells (enters s p x)
  picks_tells x None q none h is = running x.outcome q none is
  picks_tells x (Some e) q none h is =
      enters_tells x e (entry_refusal (bounds_of s) (regs_of x.machine.config.state) (seen_in x.machine.config.state) e) q none h is

  may_tell : (b : Bool) (x : Run) (q : Outcome) → x.outcome ≡ None → IsSound s x.machine → (cond b (enters s (picks x) x) x).outcome ≡ Some q
      → RunTells (cond b (enters s (picks x) x) x)
  may_tell true x q none h is = picks_tells x (picks x) q none h is
  may_tell false x q none h is = running x.outcome q none is

  judged_tells : (b : Bool) (line : TickLine) (x : Run) (o q : Outcome) → x.outcome ≡ None → IsSound s x.machine
      → (cond b (may_enter s (after_count line x)) (record x { outcome = Some o })).outcome ≡ Some q
      → RunTells (cond b (may_enter s (after_count line x)) (record x { outcome = Some o }))
  judged_tells true line x o q none h is = may_tell s.entries (after_count line x) q none (counted_sound s line.irq x.machine h) is
  judged_tells false line x o q none h is = (h.number, h.stacked)

  ended_tells : (line : TickLine) (x : Run) (r : Result Nested TickEnd) (q : Outcome) → IfOk r (IsSound s) → LettersTell r → (ended s line x r).outcome ≡ Some q
      → RunTells (ended s line x r)
  ended_tells line x (Ok m) q h tells is =
      judged_tells (may_end m.config.a m.config.b) line (record { outcome = None; machine = m; ticks = x.ticks + 1; entries = x.entries }) _ q refl h is
  ended_tells line x (Err e) q h tells is = stops_tell (x.ticks + 1) e.step e.younger e.end x.entries tells

  -- a tick that ended the run
  last_tells : (line : TickLine) (x : Run) (o : Option Outcome) (q : Outcome) → x.outcome ≡ o → (x.outcome ≡ None → IsSound s x.machine) → RunTells x
      → (tick_of listing s line x o).outcome ≡ Some q
      → RunTells (tick_of listing s line x o)
  last_tells line x (Some o) q e sound tells is = tells
  last_tells line x None q e sound tells is =
      ended_tells line x (letters listing s 0 line.letters x.machine) q (letters_sound s listing 0 line.letters x.machine (sound e))
      (letters_tell 0 line.letters x.machine (sound e)) is

  tick_tells : (line : TickLine) (x : Run) (o : Option Outcome) → (tick_of listing s line x x.outcome).outcome ≡ o → (x.outcome ≡ None → IsSound s x.machine)
      → RunTells x
      → RunTells (tick_of listing s line x x.outcome)
  tick_tells line x None e sound tells = let h = next_sound s listing (line ∷ line ∷ []) x sound e in (h.number, h.stacked)
  tick_tells line x (Some q) e sound tells = last_tells line x x.outcome q refl sound tells e

  closed_tells : (left : List TickLine) (x : Run) → RunTells x → RunTells (closed left x)
  closed_tells [] x h = h
  closed_tells (line ∷ left) x h = h

  next_tells : (left : List TickLine) (x : Run) → (x.outcome ≡ None → IsSound s x.machine) → RunTells x → RunTells (next listing s left x)
  next_tells [] x sound tells = tells
  next_tells (line ∷ left) x sound tells =
      closed_tells left (tick_of listing s line x x.outcome) (tick_tells line x (tick_of listing s line x x.outcome).outcome refl sound tells)

  run_tells : (image : List Segment) (t : ℕ) → RunTells (run listing image s t)
  run_tells image zero = closed_tells (ticks_of s.lines) (begin image s) (let h = start_sound image s in (h.number, h.stacked))
  run_tells image (suc t) = next_tells (drop t (ticks_of s.lines)) (run listing image s t) (run_sound s listing image t) (run_tells image t)

pub thread_mode : (listing : Listing) (image : List Segment) (s : Sched) (t : ℕ)
    → ((run listing image s t).machine.config.state.rest.ipsr ≡ 0) ↔ ((run listing image s t).machine.acts ≡ [])
thread_mode listing image s t =
    let tells = run_tells listing s image t in
    none_active (run listing image s t).machine.config.state.rest.ipsr (run listing image s t).machine.acts tells.0 tells.1
