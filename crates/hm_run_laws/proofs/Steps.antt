-- A step of a handler hides what it changes, and stops for no halt.
use Rattle.std.proofs.Common.{◌≡◌, ℕ, zero, suc, ◌==◌, ap, refl, sym, subst, Bool, true, false, Option, Some, None, Result, Ok, Err}
use Rattle.hm_base.specs.declared.Fault.{Fault}
use Rattle.hm_base.specs.declared.Stop.{Stop}
use Rattle.hm_codes.specs.Listing.{Listing}
use Rattle.hm_isa.specs.declared.Instr.{Instr}
use Rattle.hm_isa.specs.declared.Instr.TheVariants as instr
use Rattle.hm_isa.specs.declared.Vector.{Vector}
use Rattle.hm_mem.specs.Memory.{Around}
use Rattle.hm_mem.specs.Seen.{marks}
use Rattle.hm_order.specs.Beats.{then}
use Rattle.hm_order.specs.Machine.{Config, End, Stopped, Broken, begin, did, done, fault_end, older, older_of, settle, younger, younger_of}
use Rattle.hm_order.proofs.Results.{err_same, ok_err, then_err, then_ok}
use Rattle.hm_run.specs.declared.Cause.{Cause}
use Rattle.hm_run.specs.declared.Cause.TheVariants as cause
use Rattle.hm_run.specs.Program.{Program, caused, core, with_cause, other_here, rows, unless_refused, vector_of}
use Rattle.hm_rows.specs.Context.{with_context}
use Rattle.hm_rows.specs.Rows.{refuse}
use Rattle.hm_state.specs.State.{State}
use Rattle.hm_window.specs.declared.rule.Rule.{Rule}
use Rattle.hm_run_laws.proofs.Hiding.{Hides, beat_hidden, begin_hides, hides_none, hides_then}
use Rattle.hm_run_laws.proofs.Landing.{landed}

-- a stop, and neither a halt nor a full output
abbrev pub IsStop : Cause → Type 0
IsStop (cause.Halt reason) = ⊥
IsStop cause.Full = ⊥
IsStop (cause.Stop e) = Unit {0}

-- What a step of a handler from c comes to: it hides what it changes and leaves what is counted, or it stops.
abbrev pub StepHides : Config State → Result (Config State) (End State Cause Rule) → Type 0
StepHides c (Ok d) = Hides c.state d.state
StepHides c (Err (Stopped d e)) = IsStop e
StepHides c (Err (Broken d r)) = Unit {0}

-- a row's beats and what comes before them stop for no halt
ends_caused : (r : Result State Stop) (e : Cause) → caused r ≡ Err e → IsStop e
ends_caused (Ok s) e h = absurd (ok_err h)
ends_caused (Err f) e h = subst IsStop (err_same h) tt

ends_begun : (o : Option Fault) (s : State) (e : Cause) → with_cause (unless_refused o s) ≡ Err e → IsStop e
ends_begun (Some f) s e h = subst IsStop (err_same h) tt
ends_begun None s e h = absurd (ok_err h)

module _ (listing : Listing) (x : Around) (handler : marks x.actor ≡ true) where
  abbrev machine : Program
  machine = core listing x

  begin_stops : (v : Vector) (a : ℕ) (s : State) (e : Cause) → begin machine v a s ≡ Err e → IsStop e
  begin_stops v zero s e h = ends_begun (refuse v (with_context s)) (with_context s) e h
  begin_stops v (suc a) s e h = absurd (ok_err h)

  beat_stops : (v : Vector) (k : ℕ) (s : State) (e : Cause) → ((rows x).act v k).run s ≡ Err e → IsStop e
  beat_stops v k s e h = ends_caused _ e h

  lands : (over : Bool) (c : Config State) (t : State) → Hides c.state t → Hides c.state (landed machine over c t).state
  lands true c t h = record { bytes = h.bytes; devices = h.devices; output = h.output }
  lands false c t h = h

  row_steps : (v : Vector) (c : Config State) (r : Result State Cause) → then (begin machine v c.a c.state) ((machine.rows.act v c.a).run) ≡ r
      → StepHides c (done machine c r (settle machine (suc c.a) c.b c.n (suc c.steps)))
  row_steps v c (Ok t) e =
      let one = then_ok (begin machine v c.a c.state) ((machine.rows.act v c.a).run) t e in
      lands (suc c.a == 4) c t
      (hides_then c.state one.0 t (begin_hides machine (λ w s. refl) v c.a c.state one.0 one.1) (beat_hidden x handler v c.a one.0 t one.2))
  row_steps v c (Err e) h = then_err (begin machine v c.a c.state) ((machine.rows.act v c.a).run) e h
      (λ k. begin_stops v c.a c.state e k) (λ t k l. beat_stops v c.a t e l)

  vector_steps : (v : Vector) (c : Config State) → StepHides c (older_of machine (Some v) c)
  vector_steps v c = row_steps v c (then (begin machine v c.a c.state) ((machine.rows.act v c.a).run)) refl

  -- a vector row, or the fault where nothing stands
  pub row_hides : (v : Vector) (c : Config State) → listing c.state.pc ≡ Ok (instr.Vector v) → StepHides c (older machine c)
  row_hides v c e = subst (λ (o : Option Vector). StepHides c (older_of machine o c)) (sym (ap vector_of e)) (vector_steps v c)

  pub fault_hides : (f : Fault) (c : Config State) → listing c.state.pc ≡ Err f → StepHides c (older machine c)
  fault_hides f c e =
      subst (λ (o : Option Vector). StepHides c (older_of machine o c)) (sym (ap vector_of e))
      (subst (λ (r : Result Instr Fault). StepHides c
      (done machine c (other_here x r c.state) (λ t. record { a = 0; b = 0; n = suc c.n; steps = suc c.steps; state = t }))) (sym e) tt)

  -- THE YOUNGER
  fault_ends : (b : Option Rule) (c : Config State) (e : Cause) → IsStop e → StepHides c (Err (fault_end machine b c e))
  fault_ends (Some r) c e h = tt
  fault_ends None c e h = h

  did_hides : (j : Vector) (c : Config State) (r : Result State Cause) → (machine.rows.act j c.b).run c.state ≡ r → StepHides c (did machine c r)
  did_hides j c (Ok t) e = beat_hidden x handler j c.b c.state t e
  did_hides j c (Err f) e = fault_ends (machine.fault_rule f) c f (beat_stops j c.b c.state f e)

  younger_by : (b : Option Rule) (o : Option Vector) (c : Config State) → StepHides c (younger_of machine b o c)
  younger_by (Some b) o c = tt
  younger_by None (Some j) c = did_hides j c ((machine.rows.act j c.b).run c.state) refl
  younger_by None None c = hides_none c.state

  pub younger_hides : (c : Config State) → StepHides c (younger machine c)
  younger_hides c = younger_by _ _ c
