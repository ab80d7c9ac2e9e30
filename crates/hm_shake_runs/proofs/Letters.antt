-- Under letters O alone the younger of two instructions never has a beat, so no rule of overlap is broken.
use Rattle.std.proofs.Common.{◌≡◌, ◌≢◌, ℕ, zero, suc, ◌+◌, ◌<◌, arith, refl, sym, subst, Bool, true, false, cond, List, [], ◌∷◌, drop, length, map, Option}
use Rattle.std.proofs.Common.{Some, None, Result, Ok, Err}
use Rattle.std.specs.List.{All}
use Rattle.std.proofs.lemmas.List.Elements.{All-cons, All-drop, All-head, All-map, All-nil, All-tail}
use Rattle.hm_base.specs.Image.{Segment}
use Rattle.hm_base.specs.declared.Fault.{Fault}
use Rattle.hm_base.specs.declared.Stop.{Stop}
use Rattle.hm_codes.specs.Listing.{Listing}
use Rattle.hm_exc.specs.Entry.{entry_refusal}
use Rattle.hm_exc.specs.Return.{return_rule}
use Rattle.hm_exc.specs.declared.types.Activation.{Activation}
use Rattle.hm_exc.specs.declared.types.Broken.{Broken as Difference}
use Rattle.hm_exc.specs.declared.types.EnterErr.{EnterErr}
use Rattle.hm_isa.specs.declared.Flow.{Flow}
use Rattle.hm_isa.specs.declared.Flow.TheVariants as flow
use Rattle.hm_isa.specs.declared.Instr.{Instr}
use Rattle.hm_isa.specs.declared.Instr.TheVariants as instr
use Rattle.hm_isa.specs.declared.Vector.{Vector}
use Rattle.hm_mem.specs.Memory.{Around}
use Rattle.hm_order.specs.Beats.{then}
use Rattle.hm_order.specs.Machine.{Broken, Config, End, Stopped, begin, done, older, older_of, settle}
use Rattle.hm_order.specs.InFlight.{Older}
use Rattle.hm_run.specs.declared.Cause.{Cause}
use Rattle.hm_run.specs.declared.Cause.TheVariants as cause
use Rattle.hm_run.specs.declared.Outcome.{Outcome}
use Rattle.hm_run.specs.declared.Outcome.TheVariants as outcome
use Rattle.hm_run.specs.Program.{Program}
use Rattle.hm_run.specs.Timed.{bounds_of, outcome_of_cause, outcome_of_stop, or_out}
use Rattle.hm_sched.specs.Schedule.{Sched, TickLine, older_letter, repeat, ticks_of}
use Rattle.hm_state.specs.State.{State, regs_of}
use Rattle.hm_whole.specs.Whole.{Went, scalar_in_machine, seen_in}
use Rattle.hm_window.specs.Positions.{may_end}
use Rattle.hm_window.specs.declared.rule.Rule.{Rule}
use Rattle.hm_run_laws.specs.Entries.{refused}
use Rattle.hm_run_laws.specs.Nested.{Ended, Interrupted, Nested, NestedEnd, NestedStep, Offends, TickEnd, around_under, at_step, flows, handles, letters}
use Rattle.hm_run_laws.specs.Nested.{program_under, returned, step, step_under, uncounted, went, with_acts}
use Rattle.hm_run_laws.specs.Runs.{Pointers, Run, after_count, closed, ended, enters, enters_unless, may_enter, next, picks, run, run_out, stacked_of, stops}
use Rattle.hm_run_laws.specs.Runs.{tick_end, tick_of}
use Rattle.hm_run_laws.specs.Runs as runs
use Rattle.hm_shake_runs.specs.Runs.{AreOlder, IsOlder}
use Rattle.hm_shake_runs.specs.Shaken.{shaken, shaken_schedule}
use Rattle.hm_shake_runs.specs.Stretches.{steps, stretch_line}
use Rattle.hm_shake_runs.specs.declared.head.Head.{Head}
use Rattle.hm_shake_runs.specs.declared.plan.Plan.{Plan}
use Rattle.hm_shake_runs.specs.declared.stretches.Stretch.{Stretch}

-- ---- the schedules of runs have letters O alone

older_steps : (n : ℕ) → All (λ (c : ℕ). c ≡ older_letter) (steps n)
older_steps zero = All-nil (λ (c : ℕ). c ≡ older_letter)
older_steps (suc n) = All-cons (λ (c : ℕ). c ≡ older_letter) older_letter (steps n) refl (older_steps n)

pub stretches_older : (xs : List Stretch) → All IsOlder (map stretch_line xs)
stretches_older xs = All-map IsOlder stretch_line xs (λ k d lt. older_steps _)

pub shaken_older : (p : Plan) (h : Head) (irqs : List ℕ) (run : ℕ) → AreOlder (shaken_schedule p h irqs run)
shaken_older p h irqs run = stretches_older (shaken p irqs run)

repeat_older : (n : ℕ) (line : TickLine) (rest : List TickLine) → IsOlder line → All IsOlder rest → All IsOlder (repeat n line rest)
repeat_older zero line rest h all = all
repeat_older (suc n) line rest h all = All-cons IsOlder line (repeat n line rest) h (repeat_older n line rest h all)

ticks_older : (lines : List TickLine) → All IsOlder lines → All IsOlder (ticks_of lines)
ticks_older [] all = All-nil IsOlder
ticks_older (line ∷ lines) all =
    repeat_older line.count line (ticks_of lines) (All-head IsOlder line lines all) (ticks_older lines (All-tail IsOlder line lines all))

-- ---- positions

-- an instruction has begun, and the next has not
record Alone (a b : ℕ) : Type 0 where
  few : a < 4
  none : b ≡ 0

at_zero : Alone 0 0
at_zero = record { few = omega arith; none = refl }

-- so stand all that is interrupted
abbrev AllAlone : List Interrupted → Type 0
AllAlone [] = Unit {0}
AllAlone (x ∷ acts) = Alone x.a x.b × AllAlone acts

-- and what runs
record IsAlone (x : Nested) : Type 0 where
  here : Alone x.config.a x.config.b
  acts : AllAlone x.acts

may_end_zero : (a : ℕ) → a < 4 → may_end a 0 ≡ true
may_end_zero a h = grind arith

may_end_alone : (a b : ℕ) → Alone a b → may_end a b ≡ true
may_end_alone a b h = subst (λ (x : ℕ). may_end a x ≡ true) (sym h.none) (may_end_zero a h.few)

-- ---- steps

-- a step goes on so, or stops
abbrev StepAlone : Result (Config State) (End State Cause Rule) → Type 0
StepAlone (Ok c) = Alone c.a c.b
StepAlone (Err (Stopped c e)) = Unit {0}
StepAlone (Err (Broken c r)) = ⊥

-- an end by no rule
abbrev EndAlone : NestedEnd → Type 0
EndAlone (Ended (Stopped c e) acts) = Unit {0}
EndAlone (Ended (Broken c r) acts) = ⊥
EndAlone (Offends what c acts) = Unit {0}

abbrev GoesAlone : NestedStep → Type 0
GoesAlone (Ok x) = IsAlone x
GoesAlone (Err e) = EndAlone e

module _ (M : Program) where
  lands : (a b n count : ℕ) (t : State) → a < 4 → b ≡ 0 → StepAlone (Ok (settle M (suc a) b n count t))
  lands zero b n count t h none = record { few = omega arith; none = none }
  lands (suc zero) b n count t h none = record { few = omega arith; none = none }
  lands (suc (suc zero)) b n count t h none = record { few = omega arith; none = none }
  lands (suc (suc (suc zero))) b n count t h none = record { few = omega arith; none = refl }
  lands (suc (suc (suc (suc a)))) b n count t h none = absurd (omega arith)

  row_alone : (c : Config State) (r : Result State Cause) → Alone c.a c.b → StepAlone (done M c r (settle M (suc c.a) c.b c.n (suc c.steps)))
  row_alone c (Ok t) h = lands c.a c.b c.n (suc c.steps) t h.few h.none
  row_alone c (Err e) h = tt

  other_alone : (c : Config State) (r : Result State Cause) → StepAlone (done M c r (λ t. record { a = 0; b = 0; n = suc c.n; steps = suc c.steps; state = t }))
  other_alone c (Ok t) = at_zero
  other_alone c (Err e) = tt

  older_by : (o : Option Vector) (c : Config State) → Alone c.a c.b → StepAlone (older_of M o c)
  older_by (Some v) c h = row_alone c (then (begin M v c.a c.state) ((M.rows.act v c.a).run)) h
  older_by None c h = other_alone c (M.other c.state)

  older_alone : (c : Config State) → Alone c.a c.b → StepAlone (older M c)
  older_alone c h = older_by (M.code (M.rows.view.pc c.state)) c h

acts_alone : (acts : List Interrupted) (r : Result (Config State) (End State Cause Rule)) → AllAlone acts → StepAlone r → GoesAlone (with_acts acts r)
acts_alone acts (Ok c) all h = record { here = h; acts = all }
acts_alone acts (Err (Stopped c e)) all h = tt
acts_alone acts (Err (Broken c r)) all h = absurd h

uncounted_alone : (c : Config State) (r : Result (Config State) (End State Cause Rule)) → StepAlone r → StepAlone (uncounted c r)
uncounted_alone c (Ok d) h = h
uncounted_alone c (Err (Stopped d e)) h = tt
uncounted_alone c (Err (Broken d r)) h = absurd h

returned_alone : (o : Option Difference) (c : Config State) (x : Interrupted) (acts : List Interrupted) (t : State) → AllAlone (x ∷ acts)
    → GoesAlone (returned o c x acts t)
returned_alone None c x acts t all = record { here = all.0; acts = all.1 }
returned_alone (Some b) c x acts t all = tt

flows_alone : (f : Flow) (c : Config State) (x : Interrupted) (acts : List Interrupted) (t : State) → AllAlone (x ∷ acts) → GoesAlone (flows f c x acts t)
flows_alone flow.Next c x acts t all = record { here = at_zero; acts = all }
flows_alone (flow.Break k) c x acts t all = tt
flows_alone (flow.Return value) c x acts t all = returned_alone (return_rule (regs_of t) (seen_in t).byte value x.stacked) c x acts t all

went_alone : (M : Program) (c : Config State) (x : Interrupted) (acts : List Interrupted) (r : Result Went Stop) → AllAlone (x ∷ acts)
    → GoesAlone (went M c x acts r)
went_alone M c x acts (Ok y) all = flows_alone y.flow c x acts y.state all
went_alone M c x acts (Err e) all = tt

handles_alone : (M : Program) (around : Around) (r : Result Instr Fault) (c : Config State) (x : Interrupted) (acts : List Interrupted) → Alone c.a c.b
    → AllAlone (x ∷ acts)
    → GoesAlone (handles M around r c x acts)
handles_alone M around (Ok (instr.Scalar i)) c x acts h all = went_alone M c x acts (scalar_in_machine around (instr.Scalar i) c.state) all
handles_alone M around (Ok (instr.Branch i)) c x acts h all = went_alone M c x acts (scalar_in_machine around (instr.Branch i) c.state) all
handles_alone M around (Ok (instr.Vector v)) c x acts h all =
    acts_alone (x ∷ acts) (uncounted c (older M c)) all (uncounted_alone c (older M c) (older_alone M c h))
handles_alone M around (Err f) c x acts h all = acts_alone (x ∷ acts) (uncounted c (older M c)) all (uncounted_alone c (older M c) (older_alone M c h))

module _ (listing : Listing) (s : Sched) where
  step_by : (c : Config State) (acts : List Interrupted) → Alone c.a c.b → AllAlone acts → GoesAlone (step_under listing s Older c acts)
  step_by c [] h all = acts_alone [] (older (program_under listing s []) c) all (older_alone (program_under listing s []) c h)
  step_by c (x ∷ acts) h all =
      handles_alone (program_under listing s (x ∷ acts)) (around_under s (x ∷ acts)) (listing c.state.pc) c x acts h all

  step_alone : (x : Nested) → IsAlone x → GoesAlone (step listing s Older x)
  step_alone x h = step_by x.config x.acts h.here h.acts

  -- ---- letters

  abbrev LettersAlone : Result Nested TickEnd → Type 0
  LettersAlone (Ok x) = IsAlone x
  LettersAlone (Err e) = EndAlone e.end

  at_step_alone : (k : ℕ) (younger : Bool) (r : NestedStep) → GoesAlone r → LettersAlone (at_step k younger r)
  at_step_alone k younger (Ok x) h = h
  at_step_alone k younger (Err e) h = h

  then_alone : (r : Result Nested TickEnd) (f : Nested → Result Nested TickEnd) → LettersAlone r → ((x : Nested) → IsAlone x → LettersAlone (f x))
      → LettersAlone (then r f)
  then_alone (Ok x) f h g = g x h
  then_alone (Err e) f h g = h

  letters_alone : (ls : List ℕ) (k : ℕ) (x : Nested) → All (λ (c : ℕ). c ≡ older_letter) ls → IsAlone x → LettersAlone (letters listing s k ls x)
  letters_alone [] k x all h = h
  letters_alone (l ∷ ls) k x all h =
      subst (λ (c : ℕ). LettersAlone (letters listing s k (c ∷ ls) x)) (sym (All-head (λ (c : ℕ). c ≡ older_letter) l ls all))
      (then_alone (at_step (k + 1) false (step listing s Older x)) (letters listing s (k + 1) ls)
      (at_step_alone (k + 1) false (step listing s Older x) (step_alone x h))
      (λ y g. letters_alone ls (k + 1) y (All-tail (λ (c : ℕ). c ≡ older_letter) l ls all) g))

-- ---- ticks

-- no rule is broken
abbrev NoRule : Outcome → Type 0
NoRule (outcome.RuleBroken t step r) = ⊥
NoRule (outcome.Halted reason n) = Unit {0}
NoRule (outcome.Fault who f pc n) = Unit {0}
NoRule (outcome.HandlerBroken t what) = Unit {0}
NoRule (outcome.TaintedRead t pc addr) = Unit {0}
NoRule (outcome.StackSpent t sp) = Unit {0}
NoRule (outcome.OutputFull t) = Unit {0}
NoRule outcome.OutOfTicks = Unit {0}

-- a run goes on so, or ends by no rule
abbrev GoesOrEnds : Option Outcome → Nested → Type 0
GoesOrEnds None x = IsAlone x
GoesOrEnds (Some o) x = NoRule o

abbrev RunAlone : Run → Type 0
RunAlone x = GoesOrEnds x.outcome x.machine

stop_alone : (t : ℕ) (acts : List Activation) (c : Config State) (pc : ℕ) (e : Stop) → NoRule (outcome_of_stop t acts c pc e)
stop_alone t acts c pc e = grind arith

cause_alone : (t : ℕ) (acts : List Activation) (c : Config State) (pc : ℕ) (e : Cause) → NoRule (outcome_of_cause t acts c pc e)
cause_alone t acts c pc (cause.Halt reason) = tt
cause_alone t acts c pc cause.Full = tt
cause_alone t acts c pc (cause.Stop e) = stop_alone t acts c pc e

stops_alone : (t k : ℕ) (younger : Bool) (e : NestedEnd) (entries : List Pointers) → EndAlone e → RunAlone (stops t k younger e entries)
stops_alone t k younger (Ended (Stopped c e) acts) entries h = cause_alone t (map stacked_of acts) c _ e
stops_alone t k younger (Ended (Broken c r) acts) entries h = absurd h
stops_alone t k younger (Offends what c acts) entries h = tt

refused_alone : (t : ℕ) (c : Config State) (why : EnterErr) → NoRule (refused t c why)
refused_alone t c why = grind arith

-- a run that goes on, and where it stands
abbrev going : Nested → ℕ → List Pointers → Run
going m t entries = record { outcome = None; machine = m; ticks = t; entries = entries }

module _ (listing : Listing) (s : Sched) where
  unless_alone : (e : ℕ) (o : Option EnterErr) (m : Nested) (t : ℕ) (entries : List Pointers) → IsAlone m → RunAlone (enters_unless s e o (going m t entries))
  unless_alone e None m t entries h = record { here = at_zero; acts = (h.here, h.acts) }
  unless_alone e (Some why) m t entries h = refused_alone t m.config why

  enters_alone : (o : Option ℕ) (m : Nested) (t : ℕ) (entries : List Pointers) → IsAlone m → RunAlone (enters s o (going m t entries))
  enters_alone None m t entries h = h
  enters_alone (Some e) m t entries h = unless_alone e (entry_refusal (bounds_of s) (regs_of m.config.state) (seen_in m.config.state) e) m t entries h

  either_alone : (b : Bool) (x y : Run) → RunAlone x → RunAlone y → RunAlone (cond b x y)
  either_alone true x y h k = h
  either_alone false x y h k = k

  first_alone : (b : Bool) (x y : Run) → b ≡ true → RunAlone x → RunAlone (cond b x y)
  first_alone true x y e h = h
  first_alone false x y e h = let no : false ≡ true = e in absurd cc

  entry_alone : (m : Nested) (t : ℕ) (entries : List Pointers) → IsAlone m → RunAlone (may_enter s (going m t entries))
  entry_alone m t entries h = either_alone s.entries (enters s (picks (going m t entries)) (going m t entries)) (going m t entries)
      (enters_alone (picks (going m t entries)) m t entries h) h

  end_alone : (line : TickLine) (m : Nested) (t : ℕ) (entries : List Pointers) → IsAlone m → RunAlone (tick_end s line (going m t entries))
  end_alone line m t entries h =
      first_alone (may_end m.config.a m.config.b) (may_enter s (after_count line (going m t entries))) _ (may_end_alone m.config.a m.config.b h.here)
      (entry_alone (after_count line (going m t entries)).machine t entries (record { here = h.here; acts = h.acts }))

  ended_alone : (line : TickLine) (x : Run) (r : Result Nested TickEnd) → LettersAlone listing s r → RunAlone (ended s line x r)
  ended_alone line x (Ok m) h = end_alone line m (x.ticks + 1) x.entries h
  ended_alone line x (Err e) h = stops_alone (x.ticks + 1) e.step e.younger e.end x.entries h

  tick_alone : (line : TickLine) (x : Run) (o : Option Outcome) → IsOlder line → x.outcome ≡ o → RunAlone x → RunAlone (tick_of listing s line x o)
  tick_alone line x (Some o) all e h = h
  tick_alone line x None all e h =
      let here : IsAlone x.machine = subst (λ (o : Option Outcome). GoesOrEnds o x.machine) e h in
      ended_alone line x (letters listing s 0 line.letters x.machine) (letters_alone listing s line.letters 0 x.machine all here)

  out_alone : (o : Option Outcome) (m : Nested) → GoesOrEnds o m → GoesOrEnds (or_out o) m
  out_alone None m h = tt
  out_alone (Some o) m h = h

  closed_alone : (left : List TickLine) (x : Run) → RunAlone x → RunAlone (closed left x)
  closed_alone [] x h = out_alone x.outcome x.machine h
  closed_alone (line ∷ left) x h = h

  next_alone : (left : List TickLine) (x : Run) → All IsOlder left → RunAlone x → RunAlone (next listing s left x)
  next_alone [] x all h = h
  next_alone (line ∷ left) x all h =
      closed_alone left (tick_of listing s line x x.outcome) (tick_alone line x x.outcome (All-head IsOlder line left all) refl h)

  run_alone : (image : List Segment) (t : ℕ) → AreOlder s → RunAlone (run listing image s t)
  run_alone image zero all = closed_alone (ticks_of s.lines) (runs.begin image s) (record { here = at_zero; acts = tt })
  run_alone image (suc t) all =
      next_alone (drop t (ticks_of s.lines)) (run listing image s t) (All-drop IsOlder t (ticks_of s.lines) (ticks_older s.lines all)) (run_alone image t all)

  -- what a run that ends breaks is no rule
  ends_by : (o : Option Outcome) (m : Nested) (t step : ℕ) (r : Rule) → GoesOrEnds o m → o ≢ Some (outcome.RuleBroken t step r)
  ends_by o m t step r h e = subst (λ (o : Option Outcome). GoesOrEnds o m) e h

  pub breaks_no_rule : (image : List Segment) (t step : ℕ) (r : Rule) → AreOlder s → (run_out listing image s).outcome ≢ Some (outcome.RuleBroken t step r)
  breaks_no_rule image t step r all =
      ends_by (run_out listing image s).outcome (run_out listing image s).machine t step r (run_alone image (length (ticks_of s.lines)) all)
