-- Which bytes a step taints, of the thread and of a handler.
use Rattle.std.proofs.Common.{◌≡◌, ℕ, zero, suc, ◌==◌, ap, refl, sym, ◌∙◌, subst, Bool, true, false, cond, List, Option, Some, None, Result, Ok, Err, inl}
use Rattle.hm_base.specs.declared.Fault.{Fault}
use Rattle.hm_base.specs.declared.Stop.{Stop}
use Rattle.hm_codes.specs.Listing.{Listing}
use Rattle.hm_isa.specs.declared.Instr.{Instr}
use Rattle.hm_isa.specs.declared.Instr.TheVariants as instr
use Rattle.hm_isa.specs.declared.Vector.{Vector}
use Rattle.hm_mem.specs.Memory.{Around, thread_under, Bounds}
use Rattle.hm_order.specs.Beats.{then}
use Rattle.hm_order.specs.Machine.{Config, End, Stopped, Broken, begin, begun, did, done, fault_end, older, older_of, settle, younger, younger_of}
use Rattle.hm_order.proofs.Results.{ok_err, ok_same, then_ok}
use Rattle.hm_run.proofs.Steps.{past}
use Rattle.hm_run.specs.declared.Cause.{Cause}
use Rattle.hm_run.specs.declared.Cause.TheVariants as cause
use Rattle.hm_run.specs.declared.Reason.TheVariants.{Break}
use Rattle.hm_run.specs.Program.{Program, answered, asks, breakpoint, doing_in_machine, cause_of, caused, core, done_as, makes_here}
use Rattle.hm_run.specs.Program.{other_here, printed, rows, served, vector_of}
use Rattle.hm_run.specs.Stops.{at_break, break_of}
use Rattle.hm_rows.proofs.Context.{context_bytes}
use Rattle.hm_rows.specs.Context.{with_context}
use Rattle.hm_state.specs.State.{State, Byte, Value, regs_of}
use Rattle.hm_thumb.specs.Calls.{Asked, Writes, Exits, asked}
use Rattle.hm_thumb.specs.Does as runner
use Rattle.hm_whole.specs.Whole.{Went, scalar_in_machine, seen_in, state_with}
use Rattle.hm_window.specs.declared.rule.Rule.{Rule}
use Rattle.hm_run_laws.proofs.Laws.{begun_in}
use Rattle.hm_run_laws.proofs.Landing.{landed}
use Rattle.hm_run_laws.proofs.Growing.{Grows, Nothing, grows_none, grows_then, thread_scalar}
use Rattle.hm_run_laws.proofs.Written.{thread_beat}

module _ (P : ℕ → Type 0) where
  -- states with the same bytes
  pub same_bytes : (s t : State) → ((a : ℕ) → t.cell (Byte a) ≡ s.cell (Byte a)) → Grows P s t
  same_bytes s t h a live = inl (sym (ap (λ (v : Value). v.taint) (h a)) ∙ live)

  context_grows : (b : Bool) (s : State) → Grows P s (cond b (with_context s) s)
  context_grows true s = same_bytes s (with_context s) (context_bytes s)
  context_grows false s = grows_none P s

  begun_by : (q b : Bool) (s : State) → Grows P s (cond q (cond b (with_context s) s) s)
  begun_by true b s = context_grows b s
  begun_by false b s = grows_none P s

  abbrev pub StepGrows : Config State → Result (Config State) (End State Cause Rule) → Type 0
  StepGrows c (Ok d) = Grows P c.state d.state
  StepGrows c (Err (Stopped d e)) = Grows P c.state d.state
  StepGrows c (Err (Broken d r)) = Grows P c.state d.state

module _ (listing : Listing) (x : Around) (P : ℕ → Type 0) (beat : (v : Vector) (b : ℕ) (s t : State) → ((rows x).act v b).run s ≡ Ok t → Grows P s t) where
  abbrev machine : Program
  machine = core listing x

  pub begun_grows : (c : Config State) → Grows P c.state (begun machine c).state
  begun_grows c = begun_by P (c.a == 0) (makes_here (listing c.state.pc) (regs_of c.state)) c.state

  begin_grows : (v : Vector) (a : ℕ) (s t : State) → begin machine v a s ≡ Ok t → Grows P s t
  begin_grows v zero s t e = subst (Grows P s) (begun_in v s t e).1 (context_grows P true s)
  begin_grows v (suc a) s t e = subst (Grows P s) (ok_same e) (grows_none P s)

  lands : (over : Bool) (c : Config State) (t : State) → Grows P c.state t → Grows P c.state (landed machine over c t).state
  lands true c t h a live = h a live
  lands false c t h a live = h a live

  row_grows : (v : Vector) (c : Config State) (r : Result State Cause) → then (begin machine v c.a c.state) ((machine.rows.act v c.a).run) ≡ r
      → StepGrows P c (done machine c r (settle machine (suc c.a) c.b c.n (suc c.steps)))
  row_grows v c (Ok t) e =
      let one = then_ok (begin machine v c.a c.state) ((machine.rows.act v c.a).run) t e in
      lands (suc c.a == 4) c t (grows_then P c.state one.0 t (begin_grows v c.a c.state one.0 one.1) (beat v c.a one.0 t one.2))
  row_grows v c (Err e) h = begun_grows c

  pub vector_grows : (v : Vector) (c : Config State) → vector_of (listing c.state.pc) ≡ Some v → StepGrows P c (older machine c)
  vector_grows v c here =
      subst (λ (o : Option Vector). StepGrows P c (older_of machine o c)) (sym here)
      (row_grows v c (then (begin machine v c.a c.state) ((machine.rows.act v c.a).run)) refl)

  done_grows : (c : Config State) (r : Result State Cause) → ((t : State) → r ≡ Ok t → Grows P c.state t) → StepGrows P c (done machine c r (past c))
  done_grows c (Ok t) h = h t refl
  done_grows c (Err e) h = begun_grows c

  -- what is no vector row, by what it comes to
  pub other_grows : (c : Config State) → vector_of (listing c.state.pc) ≡ None
      → ((t : State) → other_here x (listing c.state.pc) c.state ≡ Ok t → Grows P c.state t)
      → StepGrows P c (older machine c)
  other_grows c here h =
      subst (λ (o : Option Vector). StepGrows P c (older_of machine o c)) (sym here) (done_grows c (other_here x (listing c.state.pc) c.state) h)

  pub fault_grows : (f : Fault) (c : Config State) → listing c.state.pc ≡ Err f → StepGrows P c (older machine c)
  fault_grows f c e = other_grows c (ap vector_of e) (λ t h. absurd (ok_err (sym h ∙ ap (λ (r : Result Instr Fault). other_here x r c.state) e)))

  -- THE YOUNGER
  ended_grows : (b : Option Rule) (c : Config State) (e : Cause) → StepGrows P c (Err (fault_end machine b c e))
  ended_grows (Some r) c e = grows_none P c.state
  ended_grows None c e = grows_none P c.state

  did_grows : (j : Vector) (c : Config State) (r : Result State Cause) → (machine.rows.act j c.b).run c.state ≡ r → StepGrows P c (did machine c r)
  did_grows j c (Ok t) e = beat j c.b c.state t e
  did_grows j c (Err f) e = ended_grows (machine.fault_rule f) c f

  younger_by : (b : Option Rule) (o : Option Vector) (c : Config State) → StepGrows P c (younger_of machine b o c)
  younger_by (Some b) o c = grows_none P c.state
  younger_by None (Some j) c = did_grows j c ((machine.rows.act j c.b).run c.state) refl
  younger_by None None c = grows_none P c.state

  pub younger_grows : (c : Config State) → StepGrows P c (younger machine c)
  younger_grows c = younger_by _ _ c

-- AN INSTRUCTION OF THE THREAD that is no vector row
printed_grows : (xs : List ℕ) (s : State) → Grows Nothing s (printed xs s)
unfolding state_with
printed_grows xs s a live = inl live

answered_grows : (s t : State) (q : Asked) → answered cause_of s q ≡ Ok t → Grows Nothing s t
answered_grows s t (Exits reason) e = absurd (ok_err (sym e))
answered_grows s t (Writes xs) e = by_room _ e
  where
    by_room : (b : Bool) → cond b (Err cause.Full) (Ok (printed xs s)) ≡ Ok t → Grows Nothing s t
    by_room true h = absurd (ok_err (sym h))
    by_room false h = subst (Grows Nothing s) (ok_same h) (printed_grows xs s)

module _ (bounds : Bounds) where
  abbrev around : Around
  around = thread_under bounds

  served_grows : (s t : State) → served (doing_in_machine around) s ≡ Ok t → Grows Nothing s t
  served_grows s t e =
      let one = then_ok (caused (asked (runner.in_machine around) (regs_of s) (seen_in s))) (answered cause_of s) t e in
      answered_grows s t one.0 one.2

  breakpoint_grows : (k : ℕ) (s t : State) → breakpoint (doing_in_machine around) k s ≡ Ok t → Grows Nothing s t
  breakpoint_grows k s t e = by_call (asks k) e
    where
      by_call : (b : Bool) → cond b (served (doing_in_machine around) s) (Err (cause.Halt (Break k))) ≡ Ok t → Grows Nothing s t
      by_call true h = served_grows s t h
      by_call false h = absurd (ok_err (sym h))

  went_grows : (i : Instr) (s t : State) (r : Result Went Stop) → scalar_in_machine around i s ≡ r → done_as cause.Stop r ≡ Ok t → Grows Nothing s t
  went_grows i s t (Ok y) e h = subst (Grows Nothing s) (ok_same h) (thread_scalar bounds i s y e)
  went_grows i s t (Err f) e h = absurd (ok_err (sym h))

  by_break : (i : Instr) (s t : State) (o : Option ℕ)
      → at_break (λ k. breakpoint (doing_in_machine around) k s) o (done_as cause.Stop (scalar_in_machine around i s)) ≡ Ok t
      → Grows Nothing s t
  by_break i s t (Some k) e = breakpoint_grows k s t e
  by_break i s t None e = went_grows i s t (scalar_in_machine around i s) refl e

  row_alone : (v : Vector) (s t : State) (r : Result Instr Fault) → r ≡ Ok (instr.Vector v) → vector_of r ≡ None → Grows Nothing s t
  row_alone v s t r e none = let no : Some v ≡ None = sym (ap vector_of e) ∙ none in absurd cc

  other_clean : (r : Result Instr Fault) (s t : State) → vector_of r ≡ None → other_here around r s ≡ Ok t → Grows Nothing s t
  other_clean (Ok (instr.Scalar i)) s t none e = by_break (instr.Scalar i) s t (break_of (instr.Scalar i)) e
  other_clean (Ok (instr.Branch i)) s t none e = by_break (instr.Branch i) s t (break_of (instr.Branch i)) e
  other_clean (Ok (instr.Vector v)) s t none e = row_alone v s t (Ok (instr.Vector v)) refl none
  other_clean (Err f) s t none e = absurd (ok_err (sym e))

  module _ (listing : Listing) where
    by_row : (c : Config State) (o : Option Vector) → vector_of (listing c.state.pc) ≡ o → StepGrows Nothing c (older (core listing around) c)
    by_row c (Some v) e = vector_grows listing around Nothing (thread_beat bounds) v c e
    by_row c None e = other_grows listing around Nothing (thread_beat bounds) c e (λ t h. other_clean (listing c.state.pc) c.state t e h)

    pub thread_older : (c : Config State) → StepGrows Nothing c (older (core listing around) c)
    thread_older c = by_row c (vector_of (listing c.state.pc)) refl

    pub thread_younger : (c : Config State) → StepGrows Nothing c (younger (core listing around) c)
    thread_younger c = younger_grows listing around Nothing (thread_beat bounds) c
