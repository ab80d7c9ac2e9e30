-- The output only grows.
use Rattle.hm_run.specs.Timed.{bounds_of}
use Rattle.std.proofs.Common.{◌≡◌, ℕ, zero, suc, ◌==◌, ◌+◌, ap, refl, sym, ◌∙◌, subst, Bool, true, false, cond, List, [], ◌∷◌, ◌++◌, drop, append_assoc}
use Rattle.std.proofs.Common.{add-zero, add-suc, Option, Some, None, Result, Ok, Err}
use Rattle.std.proofs.lemmas.List.{append-nil}
use Rattle.hm_base.specs.Image.{Segment}
use Rattle.hm_base.specs.declared.Fault.{Fault}
use Rattle.hm_base.specs.declared.Stop.{Stop}
use Rattle.hm_codes.specs.Listing.{Listing}
use Rattle.hm_exc.specs.Entry.{entry_refusal}
use Rattle.hm_exc.specs.Return.{return_rule}
use Rattle.hm_exc.specs.declared.types.Broken.{Broken}
use Rattle.hm_exc.specs.declared.types.EnterErr.{EnterErr}
use Rattle.hm_isa.specs.declared.Flow.{Flow}
use Rattle.hm_isa.specs.declared.Flow.TheVariants as flow
use Rattle.hm_isa.specs.declared.Instr.{Instr}
use Rattle.hm_isa.specs.declared.Instr.TheVariants as instr
use Rattle.hm_isa.specs.declared.Vector.{Vector}
use Rattle.hm_mem.specs.Memory.{Around}
use Rattle.hm_order.specs.Beats.{then}
use Rattle.hm_order.specs.Machine.{Config, End, Stopped, Broken as Breaks, begin, begun, did, done, fault_end, older, older_of, settle, younger, younger_of}
use Rattle.hm_order.specs.InFlight.{InFlight, Older, Younger, step_in_flight}
use Rattle.hm_order.proofs.Results.{ok_err, ok_same, then_ok}
use Rattle.hm_rows.proofs.Context.{either}
use Rattle.hm_rows.specs.Context.{with_context}
use Rattle.hm_rows.specs.Rows.{vector_tree}
use Rattle.hm_beat.specs.Ordered.{of_four}
use Rattle.hm_beat.proofs.Exchange.{rest_stays}
use Rattle.hm_run.proofs.Steps.{past}
use Rattle.hm_run.specs.declared.Cause.{Cause}
use Rattle.hm_run.specs.declared.Cause.TheVariants as cause
use Rattle.hm_run.specs.declared.Outcome.{Outcome}
use Rattle.hm_run.specs.declared.Reason.TheVariants.{Break}
use Rattle.hm_run.specs.Program.{Program, Stopping, answered, asks, breakpoint, doing_in_machine, cause_of, caused, core, done_as}
use Rattle.hm_run.specs.Program.{makes_here, other_here, printed, rows, served, steps_left, vector_of}
use Rattle.hm_run.specs.Stops.{at_break, break_of}
use Rattle.hm_sched.specs.Schedule.{Sched, TickLine, older_letter, ticks_of, younger_letter}
use Rattle.hm_state.specs.State.{State, regs_of}
use Rattle.hm_thumb.specs.Calls.{Asked, Writes, Exits, asked}
use Rattle.hm_thumb.specs.Does as runner
use Rattle.hm_whole.specs.Whole.{Went, scalar_in_machine, seen_in, state_with}
use Rattle.hm_window.specs.Positions.{may_end}
use Rattle.hm_window.specs.declared.rule.Rule.{Rule}
use Rattle.hm_run_laws.specs.Entries.{entered, entered_state, interrupted_by}
use Rattle.hm_run_laws.specs.Nested.{Ended, Interrupted, Nested, NestedEnd, NestedStep, Offends, TickEnd, around_under, at_step, flows, handles, letter}
use Rattle.hm_run_laws.specs.Nested.{letters, returned, step, step_under, steps, uncounted, went, with_acts}
use Rattle.hm_run_laws.specs.Runs.{Pointers, Run, after_count, closed, ended, enters, enters_unless, may_enter, next, picks, run, stopped_under, stops, tick_of}
use Rattle.hm_run_laws.proofs.Hiding.{goes_output}
use Rattle.hm_run_laws.proofs.Laws.{begun_in, caused_ok}
use Rattle.hm_run_laws.proofs.Landing.{landed}
use Rattle.hm_run_laws.specs.Next.{Begins}

abbrev Out : State → State → Type 0
Out s t = Begins s.rest.output t.rest.output

pub begins_same : (xs : List ℕ) → Begins xs xs
begins_same xs = ([], sym (append-nil xs))

begins_then : (xs ys zs : List ℕ) → Begins xs ys → Begins ys zs → Begins xs zs
begins_then xs ys zs h k = (h.0 ++ k.0, k.1 ∙ ap (λ (l : List ℕ). l ++ k.0) h.1 ∙ append_assoc xs h.0 k.0)

out_none : (s : State) → Out s s
out_none s = begins_same s.rest.output

out_same : (s t : State) → t.rest.output ≡ s.rest.output → Out s t
out_same s t e = ([], e ∙ sym (append-nil s.rest.output))

out_then : (s t u : State) → Out s t → Out t u → Out s u
out_then s t u h k = begins_then s.rest.output t.rest.output u.rest.output h k

-- THE CONTEXT
context_output : (s : State) → (with_context s).rest.output ≡ s.rest.output
context_output s = either (λ u. u.rest.output) s refl

context_out : (b : Bool) (s : State) → Out s (cond b (with_context s) s)
context_out true s = out_same s (with_context s) (context_output s)
context_out false s = out_none s

begun_by : (q b : Bool) (s : State) → Out s (cond q (cond b (with_context s) s) s)
begun_by true b s = context_out b s
begun_by false b s = out_none s

-- A STEP, whoever accesses the memory
abbrev StepOut : Config State → Result (Config State) (End State Cause Rule) → Type 0
StepOut c (Ok d) = Out c.state d.state
StepOut c (Err (Stopped d e)) = Out c.state d.state
StepOut c (Err (Breaks d r)) = Out c.state d.state

printed_out : (xs : List ℕ) (s : State) → Out s (printed xs s)
unfolding state_with
printed_out xs s = (xs, refl)

module _ (listing : Listing) (x : Around) where
  abbrev machine : Program
  machine = core listing x

  begun_out : (c : Config State) → Out c.state (begun machine c).state
  begun_out c = begun_by (c.a == 0) (makes_here (listing c.state.pc) (regs_of c.state)) c.state

  begin_out : (v : Vector) (a : ℕ) (s t : State) → begin machine v a s ≡ Ok t → Out s t
  begin_out v zero s t e = subst (Out s) (begun_in v s t e).1 (context_out true s)
  begin_out v (suc a) s t e = subst (Out s) (ok_same e) (out_none s)

  beat_out : (v : Vector) (b : ℕ) (s t : State) → ((rows x).act v b).run s ≡ Ok t → Out s t
  beat_out v b s t e = out_same s t (ap (λ (r : _). r.output) (rest_stays (of_four (vector_tree v x) b) s t (caused_ok _ t e)))

  lands : (over : Bool) (c : Config State) (t : State) → Out c.state t → Out c.state (landed machine over c t).state
  lands true c t h = h
  lands false c t h = h

  row_out : (v : Vector) (c : Config State) (r : Result State Cause) → then (begin machine v c.a c.state) ((machine.rows.act v c.a).run) ≡ r
      → StepOut c (done machine c r (settle machine (suc c.a) c.b c.n (suc c.steps)))
  row_out v c (Ok t) e =
      let one = then_ok (begin machine v c.a c.state) ((machine.rows.act v c.a).run) t e in
      lands (suc c.a == 4) c t (out_then c.state one.0 t (begin_out v c.a c.state one.0 one.1) (beat_out v c.a one.0 t one.2))
  row_out v c (Err e) h = begun_out c

  -- an instruction that is no vector row
  answered_out : (s t : State) (q : Asked) → answered cause_of s q ≡ Ok t → Out s t
  answered_out s t (Exits reason) e = absurd (ok_err (sym e))
  answered_out s t (Writes xs) e = by_room _ e
    where
      by_room : (b : Bool) → cond b (Err cause.Full) (Ok (printed xs s)) ≡ Ok t → Out s t
      by_room true h = absurd (ok_err (sym h))
      by_room false h = subst (Out s) (ok_same h) (printed_out xs s)

  served_out : (s t : State) → served (doing_in_machine x) s ≡ Ok t → Out s t
  served_out s t e =
      let one = then_ok (caused (asked (runner.in_machine x) (regs_of s) (seen_in s))) (answered cause_of s) t e in
      answered_out s t one.0 one.2

  breakpoint_out : (k : ℕ) (s t : State) → breakpoint (doing_in_machine x) k s ≡ Ok t → Out s t
  breakpoint_out k s t e = by_call (asks k) e
    where
      by_call : (b : Bool) → cond b (served (doing_in_machine x) s) (Err (cause.Halt (Break k))) ≡ Ok t → Out s t
      by_call true h = served_out s t h
      by_call false h = absurd (ok_err (sym h))

  scalar_out : (i : Instr) (s : State) (y : Went) → scalar_in_machine x i s ≡ Ok y → Out s y.state
  scalar_out i s y e = out_same s y.state (goes_output s _ y e)

  went_out : (i : Instr) (s t : State) (r : Result Went Stop) → scalar_in_machine x i s ≡ r → done_as cause.Stop r ≡ Ok t → Out s t
  went_out i s t (Ok y) e h = subst (Out s) (ok_same h) (scalar_out i s y e)
  went_out i s t (Err f) e h = absurd (ok_err (sym h))

  by_break : (i : Instr) (s t : State) (o : Option ℕ)
      → at_break (λ k. breakpoint (doing_in_machine x) k s) o (done_as cause.Stop (scalar_in_machine x i s)) ≡ Ok t → Out s t
  by_break i s t (Some k) e = breakpoint_out k s t e
  by_break i s t None e = went_out i s t (scalar_in_machine x i s) refl e

  row_alone : {P : Type 0} (v : Vector) (r : Result Instr Fault) → r ≡ Ok (instr.Vector v) → vector_of r ≡ None → P
  row_alone v r e none = let no : Some v ≡ None = sym (ap vector_of e) ∙ none in absurd cc

  other_out : (r : Result Instr Fault) (s t : State) → vector_of r ≡ None → other_here x r s ≡ Ok t → Out s t
  other_out (Ok (instr.Scalar i)) s t none e = by_break (instr.Scalar i) s t (break_of (instr.Scalar i)) e
  other_out (Ok (instr.Branch i)) s t none e = by_break (instr.Branch i) s t (break_of (instr.Branch i)) e
  other_out (Ok (instr.Vector v)) s t none e = row_alone v (Ok (instr.Vector v)) refl none
  other_out (Err f) s t none e = absurd (ok_err (sym e))

  done_out : (c : Config State) (r : Result State Cause) → ((t : State) → r ≡ Ok t → Out c.state t) → StepOut c (done machine c r (past c))
  done_out c (Ok t) h = h t refl
  done_out c (Err e) h = begun_out c

  by_row : (c : Config State) (o : Option Vector) → vector_of (listing c.state.pc) ≡ o → StepOut c (older_of machine o c)
  by_row c (Some v) e = row_out v c (then (begin machine v c.a c.state) ((machine.rows.act v c.a).run)) refl
  by_row c None e = done_out c (other_here x (listing c.state.pc) c.state) (λ t h. other_out (listing c.state.pc) c.state t e h)

  older_out : (c : Config State) → StepOut c (older machine c)
  older_out c = by_row c (vector_of (listing c.state.pc)) refl

  ended_out : (b : Option Rule) (c : Config State) (e : Cause) → StepOut c (Err (fault_end machine b c e))
  ended_out (Some r) c e = out_none c.state
  ended_out None c e = out_none c.state

  did_out : (j : Vector) (c : Config State) (r : Result State Cause) → (machine.rows.act j c.b).run c.state ≡ r → StepOut c (did machine c r)
  did_out j c (Ok t) e = beat_out j c.b c.state t e
  did_out j c (Err f) e = ended_out (machine.fault_rule f) c f

  younger_by : (b : Option Rule) (o : Option Vector) (c : Config State) → StepOut c (younger_of machine b o c)
  younger_by (Some b) o c = out_none c.state
  younger_by None (Some j) c = did_out j c ((machine.rows.act j c.b).run c.state) refl
  younger_by None None c = out_none c.state

  younger_out : (c : Config State) → StepOut c (younger machine c)
  younger_out c = younger_by _ _ c

  in_flight_out : (t : InFlight) (c : Config State) → StepOut c (step_in_flight machine t c)
  in_flight_out Older c = older_out c
  in_flight_out Younger c = younger_out c

-- A STEP OF WHAT RUNS
abbrev EndOut : State → NestedEnd → Type 0
EndOut s (Ended (Stopped d e) acts) = Out s d.state
EndOut s (Ended (Breaks d r) acts) = Out s d.state
EndOut s (Offends what d acts) = Out s d.state

abbrev NestedOut : State → NestedStep → Type 0
NestedOut s (Ok y) = Out s y.config.state
NestedOut s (Err e) = EndOut s e

with_out : (c : Config State) (acts : List Interrupted) (r : Result (Config State) (End State Cause Rule)) → StepOut c r → NestedOut c.state (with_acts acts r)
with_out c acts (Ok d) h = h
with_out c acts (Err (Stopped d e)) h = h
with_out c acts r h = h

uncounted_out : (c : Config State) (r : Result (Config State) (End State Cause Rule)) → StepOut c r → StepOut c (uncounted c r)
uncounted_out c (Ok d) h = h
uncounted_out c (Err (Stopped d e)) h = h
uncounted_out c r h = h

returned_out : (b : Option Broken) (c : Config State) (x : Interrupted) (acts : List Interrupted) (t : State) → Out c.state t
    → NestedOut c.state (returned b c x acts t)
returned_out None c x acts t h = h
returned_out (Some b) c x acts t h = h

flows_out : (f : Flow) (c : Config State) (x : Interrupted) (acts : List Interrupted) (t : State) → Out c.state t → NestedOut c.state (flows f c x acts t)
flows_out flow.Next c x acts t h = h
flows_out (flow.Break k) c x acts t h = h
flows_out (flow.Return value) c x acts t h = returned_out (return_rule (regs_of t) (seen_in t).byte value x.stacked) c x acts t h

module _ (listing : Listing) (s : Sched) where
  went_nested : (around : Around) (c : Config State) (x : Interrupted) (acts : List Interrupted) (r : Result Went Stop)
      → ((y : Went) → r ≡ Ok y → Out c.state y.state)
      → NestedOut c.state (went (core listing around) c x acts r)
  went_nested around c x acts (Ok y) h = flows_out y.flow c x acts y.state (h y refl)
  went_nested around c x acts (Err e) h = begun_out listing around c

  handles_out : (around : Around) (r : Result Instr Fault) (c : Config State) (x : Interrupted) (acts : List Interrupted)
      → NestedOut c.state (handles (core listing around) around r c x acts)
  handles_out around (Ok (instr.Scalar i)) c x acts =
      went_nested around c x acts (scalar_in_machine around (instr.Scalar i) c.state) (λ y e. scalar_out listing around (instr.Scalar i) c.state y e)
  handles_out around (Ok (instr.Branch i)) c x acts =
      went_nested around c x acts (scalar_in_machine around (instr.Branch i) c.state) (λ y e. scalar_out listing around (instr.Branch i) c.state y e)
  handles_out around (Ok (instr.Vector v)) c x acts = with_out c (x ∷ acts) _ (uncounted_out c _ (older_out listing around c))
  handles_out around (Err f) c x acts = with_out c (x ∷ acts) _ (uncounted_out c _ (older_out listing around c))

  under_out : (t : InFlight) (c : Config State) (acts : List Interrupted) → NestedOut c.state (step_under listing s t c acts)
  under_out t c [] = with_out c [] _ (in_flight_out listing (around_under s []) t c)
  under_out Older c (x ∷ acts) = handles_out (around_under s (x ∷ acts)) (listing c.state.pc) c x acts
  under_out Younger c (x ∷ acts) = with_out c (x ∷ acts) _ (uncounted_out c _ (younger_out listing (around_under s (x ∷ acts)) c))

  end_then : (a b : State) (e : NestedEnd) → Out a b → EndOut b e → EndOut a e
  end_then a b (Ended (Stopped d e) acts) h k = out_then a b d.state h k
  end_then a b (Ended (Breaks d r) acts) h k = out_then a b d.state h k
  end_then a b (Offends what d acts) h k = out_then a b d.state h k

  nested_then : (a b : State) (r : NestedStep) → Out a b → NestedOut b r → NestedOut a r
  nested_then a b (Ok y) h k = out_then a b y.config.state h k
  nested_then a b (Err e) h k = end_then a b e h k

  chained : (a : State) (r : NestedStep) (f : Nested → NestedStep) → NestedOut a r → ((y : Nested) → NestedOut y.config.state (f y)) → NestedOut a (then r f)
  chained a (Ok y) f h k = nested_then a y.config.state (f y) h (k y)
  chained a (Err e) f h k = h

  steps_out : (n : ℕ) (x : Nested) → NestedOut x.config.state (steps listing s n x)
  steps_out zero x = out_none x.config.state
  steps_out (suc n) x = chained x.config.state (step listing s Older x) (steps listing s n) (under_out Older x.config x.acts) (λ y. steps_out n y)

  either_out : (a : State) (b : Bool) (r q : NestedStep) → NestedOut a r → NestedOut a q → NestedOut a (cond b r q)
  either_out a true r q h k = h
  either_out a false r q h k = k

  letter_out : (l : ℕ) (x : Nested) → NestedOut x.config.state (letter listing s l x)
  letter_out l x =
      either_out x.config.state (l == older_letter) (step listing s Older x) _ (under_out Older x.config x.acts)
      (either_out x.config.state (l == younger_letter) (step listing s Younger x) _ (under_out Younger x.config x.acts)
      (steps_out (steps_left (vector_of (listing x.config.state.pc)) x.config.a) x))

  -- LETTERS
  abbrev TickOut : State → Result Nested TickEnd → Type 0
  TickOut a (Ok y) = Out a y.config.state
  TickOut a (Err e) = EndOut a e.end

  at_out : (a : State) (k : ℕ) (b : Bool) (r : NestedStep) → NestedOut a r → TickOut a (at_step k b r)
  at_out a k b (Ok y) h = h
  at_out a k b (Err e) h = h

  tick_then : (a b : State) (r : Result Nested TickEnd) → Out a b → TickOut b r → TickOut a r
  tick_then a b (Ok y) h k = out_then a b y.config.state h k
  tick_then a b (Err e) h k = end_then a b e.end h k

  tick_chained : (a : State) (r : Result Nested TickEnd) (f : Nested → Result Nested TickEnd) → TickOut a r → ((y : Nested) → TickOut y.config.state (f y))
      → TickOut a (then r f)
  tick_chained a (Ok y) f h k = tick_then a y.config.state (f y) h (k y)
  tick_chained a (Err e) f h k = h

  letters_out : (ls : List ℕ) (k : ℕ) (x : Nested) → TickOut x.config.state (letters listing s k ls x)
  letters_out [] k x = out_none x.config.state
  letters_out (l ∷ ls) k x =
      tick_chained x.config.state (at_step (k + 1) (l == younger_letter) (letter listing s l x)) (letters listing s (k + 1) ls)
      (at_out x.config.state (k + 1) (l == younger_letter) (letter listing s l x) (letter_out l x)) (λ y. letters_out ls (k + 1) y)

  -- TICKS
  abbrev RunOut : State → Run → Type 0
  RunOut a x = Out a x.machine.config.state

  stopped_out : (a : State) (acts : List Interrupted) (c : Config State) (e : Stopping) → Out a c.state → Out a (stopped_under acts c e).state
  stopped_out a [] c e h = h
  stopped_out a (x ∷ acts) c e h = h

  stops_out : (a : State) (t k : ℕ) (younger : Bool) (e : NestedEnd) (es : List Pointers) → EndOut a e → RunOut a (stops t k younger e es)
  stops_out a t k younger (Ended (Stopped c e) acts) es h = stopped_out a acts c (record { cause = e; younger = younger }) h
  stops_out a t k younger (Ended (Breaks c r) acts) es h = h
  stops_out a t k younger (Offends what c acts) es h = h

  entered_output : (e : ℕ) (c : Config State) → (entered_state s (interrupted_by e c).stacked c.state).rest.output ≡ c.state.rest.output
  unfolding state_with
  entered_output e c = refl

  unless_out : (a : State) (e : ℕ) (o : Option EnterErr) (x : Run) → RunOut a x → RunOut a (enters_unless s e o x)
  unless_out a e None x h = out_then a x.machine.config.state (entered s e x.machine).config.state h
      (out_same x.machine.config.state (entered s e x.machine).config.state (entered_output e x.machine.config))
  unless_out a e (Some why) x h = h

  enters_out : (a : State) (o : Option ℕ) (x : Run) → RunOut a x → RunOut a (enters s o x)
  enters_out a None x h = h
  enters_out a (Some e) x h = let t = x.machine.config.state in unless_out a e (entry_refusal (bounds_of s) (regs_of t) (seen_in t) e) x h

  may_out : (a : State) (b : Bool) (x : Run) → RunOut a x → RunOut a (cond b (enters s (picks x) x) x)
  may_out a true x h = enters_out a (picks x) x h
  may_out a false x h = h

  judged_out : (a : State) (b : Bool) (line : TickLine) (x : Run) (o : Outcome) → RunOut a x
      → RunOut a (cond b (may_enter s (after_count line x)) (record x { outcome = Some o }))
  judged_out a true line x o h = may_out a s.entries (after_count line x) h
  judged_out a false line x o h = h

  ended_run : (a : State) (line : TickLine) (x : Run) (r : Result Nested TickEnd) → TickOut a r → RunOut a (ended s line x r)
  ended_run a line x (Ok m) h = judged_out a (may_end m.config.a m.config.b) line
      (record { outcome = None; machine = m; ticks = x.ticks + 1; entries = x.entries }) _ h
  ended_run a line x (Err e) h = stops_out a (x.ticks + 1) e.step e.younger e.end x.entries h

  tick_out : (line : TickLine) (x : Run) (o : Option Outcome) → RunOut x.machine.config.state (tick_of listing s line x o)
  tick_out line x (Some o) = out_none x.machine.config.state
  tick_out line x None = ended_run x.machine.config.state line x (letters listing s 0 line.letters x.machine) (letters_out line.letters 0 x.machine)

  closed_run : (a : State) (left : List TickLine) (x : Run) → RunOut a x → RunOut a (closed left x)
  closed_run a [] x h = h
  closed_run a (line ∷ left) x h = h

  next_out : (left : List TickLine) (x : Run) → RunOut x.machine.config.state (next listing s left x)
  next_out [] x = out_none x.machine.config.state
  next_out (line ∷ left) x = closed_run x.machine.config.state left (tick_of listing s line x x.outcome) (tick_out line x x.outcome)

  later_out : (image : List Segment) (t k : ℕ) (m : ℕ) → m ≡ t + k → RunOut (run listing image s t).machine.config.state (run listing image s m)
  later_out image t zero m e =
      subst (λ (i : ℕ). RunOut (run listing image s t).machine.config.state (run listing image s i)) (sym (e ∙ add-zero t))
      (out_none (run listing image s t).machine.config.state)
  later_out image t (suc k) m e =
      subst (λ (i : ℕ). RunOut (run listing image s t).machine.config.state (run listing image s i)) (sym (e ∙ add-suc t k))
      (out_then (run listing image s t).machine.config.state (run listing image s (t + k)).machine.config.state
      (run listing image s (suc (t + k))).machine.config.state
      (later_out image t k (t + k) refl) (next_out (drop (t + k) (ticks_of s.lines)) (run listing image s (t + k))))

pub output_grows : (listing : Listing) (image : List Segment) (s : Sched) (t k : ℕ)
    → Begins (run listing image s t).machine.config.state.rest.output (run listing image s (t + k)).machine.config.state.rest.output
output_grows listing image s t k = later_out listing s image t k (t + k) refl
