-- What the end of a tick leaves, what stops an instruction, and the start: whole instructions in order agree with each.
use Rattle.std.proofs.Common.{◌≡◌, ℕ, ◌==◌, ◌-◌, ◌%◌, arith, ap, refl, sym, ◌∙◌, subst, inl, ⊎_elim, Bool, true, false, cond, List}
use Rattle.std.proofs.Common.{Option, Some, None, Result, Ok, Err}
use Rattle.hm_base.specs.Image.{Segment}
use Rattle.hm_base.specs.declared.Stop.TheVariants as stop
use Rattle.hm_base.specs.declared.Fault.{Fault}
use Rattle.hm_codes.specs.Listing.{Listing}
use Rattle.hm_exc.specs.declared.types.Activation.{Activation}
use Rattle.hm_isa.specs.declared.Instr.{Instr}
use Rattle.hm_isa.specs.declared.Instr.TheVariants as instr
use Rattle.hm_isa.specs.declared.Vector.{Vector}
use Rattle.hm_mem.specs.Memory.{Around, thread_under, Bounds}
use Rattle.hm_mem.specs.declared.Actor.TheVariants as actor
use Rattle.hm_mem.specs.declared.Dev.{Dev}
use Rattle.hm_order.specs.Beats.{Live, then}
use Rattle.hm_order.specs.Machine.{Config, at_start, Stopped, Broken, Restores, StopsInOrder, did, fault_end, next as next_in_order, next_of, seq, younger}
use Rattle.hm_order.specs.Machine.{younger_of}
use Rattle.hm_order.specs.Position.{Holds, Explains, StopsAt}
use Rattle.hm_order.proofs.Headline.{stop_n, stop_position, unmade}
use Rattle.hm_order.proofs.Results.{err_same, ok_err, ok_same, true_not_false}
use Rattle.hm_beat.specs.Laws.{NoTaint}
use Rattle.hm_rows.specs.Context.{with_context}
use Rattle.hm_rows.specs.Rows.{refuse, vector_whole}
use Rattle.hm_run.specs.declared.Cause.{Cause}
use Rattle.hm_run.specs.declared.Cause.TheVariants as cause
use Rattle.hm_run.specs.declared.Outcome.TheVariants as outcome
use Rattle.hm_window.specs.declared.rule.Rule.{Rule}
use Rattle.hm_window.specs.declared.rule.Rule.TheVariants as rule
use Rattle.hm_run.specs.declared.Who.{Who}
use Rattle.hm_run.specs.declared.Who.TheVariants.{Thread, Handler, Entry}
use Rattle.hm_run.specs.Program.{Program, Stepped, Stopping, alone, breakpoint, doing_alone, cause_of, core, done_as}
use Rattle.hm_run.specs.Program.{is_tainted_cause, makes_here, or_fault, unless_refused, vector_of, whole_here}
use Rattle.hm_whole.specs.Watched.{Watched, In, Beside, view, held, dead}
use Rattle.hm_mem.specs.Devices.{open_devices}
use Rattle.hm_run.specs.Stops as why
use Rattle.hm_run.specs.Stops.{WholeStop, at_break, scalar_break}
use Rattle.hm_run.proofs.Steps.{break_makes}
use Rattle.hm_run.specs.Timed.{who_runs, outcome_of, at_stop, counted_with, with_devices, thread_program}
use Rattle.hm_run.specs.Timed.{bounds_of}
use Rattle.hm_sys.specs.Ticks.{arrived, counted, expired}
use Rattle.hm_sched.specs.Schedule.{Sched}
use Rattle.hm_state.specs.Start.{start, start_under}
use Rattle.hm_state.specs.State.{State, regs_of}
use Rattle.hm_whole.specs.Whole.{Went, scalar_alone}
use Rattle.hm_whole.proofs.Agreement.{same_regs}
use Rattle.hm_run_laws.specs.Overlap.{AgreesAfter, StopsBetween}
use Rattle.hm_run_laws.specs.Sequence.{FaultsAt}
use Rattle.hm_run_laws.proofs.Laws.{laws, clean_of, next_is}

-- THE DEVICES
-- what ticks and interrupts change of the devices is nothing that the thread reads
pub open_cond : (b : Bool) (x y d : Dev) → open_devices x ≡ open_devices d → open_devices y ≡ open_devices d → open_devices (cond b x y) ≡ open_devices d
open_cond true x y d h k = h
open_cond false x y d h k = k

open_expired : (d : Dev) → open_devices (expired d) ≡ open_devices d
open_expired d = open_cond (d.cvr == 0) _ d d refl refl

open_counted : (d : Dev) → open_devices (counted d) ≡ open_devices d
open_counted d = open_cond (d.csr % 2 == 1) _ d d (open_cond (d.cvr == 0) _ _ d refl (open_expired (record d { cvr = d.cvr - 1 }))) refl

pub open_arrived : (irq : List ℕ) (d : Dev) → open_devices (arrived irq (counted d)) ≡ open_devices d
open_arrived irq d = open_counted d

module _ (listing : Listing) (around : Around) (thread : around.actor ≡ actor.Thread) (first : State) where
  abbrev machine : Program
  machine = core listing around

  pub devices_restore : (irq : List ℕ) (s : State) → Restores machine s (with_devices (counted_with irq) s)
  devices_restore irq s = (record { cells = cells; sticky = refl }, refl)
    where
      cells : (c : Watched) → dead c (held (with_devices (counted_with irq) s) c) ≡ false → held (with_devices (counted_with irq) s) c ≡ held s c
      cells (In c) d = refl
      cells Beside d = ap (λ (v : Dev). held (record s { rest = record s.rest { devices = v } }) Beside) (open_arrived irq s.rest.devices)

  -- a younger beat that stops and breaks no rule is tainted
  abbrev pub OnlyTaint : Stepped → Type 0
  OnlyTaint (Ok c) = Unit {0}
  OnlyTaint (Err (Stopped c e)) = is_tainted_cause e ≡ true
  OnlyTaint (Err (Broken c r)) = Unit {0}

  fault_only : (c : Config State) (e : Cause) (b : Bool) → is_tainted_cause e ≡ b
      → OnlyTaint (Err (fault_end machine (cond b None (Some rule.YoungerFault)) c e))
  fault_only c e true h = h
  fault_only c e false h = tt

  did_only : (c : Config State) (r : Result State Cause) → OnlyTaint (did machine c r)
  did_only c (Ok t) = tt
  did_only c (Err e) = fault_only c e (is_tainted_cause e) refl

  pub younger_only : (c : Config State) (b : Option Rule) (o : Option Vector) → OnlyTaint (younger_of machine b o c)
  younger_only c (Some b) o = tt
  younger_only c None (Some j) = did_only c ((machine.rows.act j c.b).run c.state)
  younger_only c None None = tt

  -- STOPS
  -- a vector row stops for a fault alone
  abbrev is_fault : WholeStop → Bool
  is_fault (why.Halt reason) = false
  is_fault why.Full = false
  is_fault (why.Faults f) = true

  or_fault_faults : (q : Result State Fault) (w : WholeStop) → or_fault q ≡ Err w → is_fault w ≡ true
  or_fault_faults (Ok t) w e = absurd (ok_err e)
  or_fault_faults (Err f) w e = ap is_fault (sym (err_same e))

  row_faults : (v : Vector) (o : Option Fault) (s : State) (w : WholeStop) → then (unless_refused o s) (λ u. or_fault (vector_whole v u)) ≡ Err w
      → is_fault w ≡ true
  row_faults v (Some f) s w e = ap is_fault (sym (err_same e))
  row_faults v None s w e = or_fault_faults (vector_whole v s) w e

  no_row_stops : (s : State) (w : WholeStop) → is_fault w ≡ false → next_in_order machine s ≡ Err w → (o : Option Vector) → vector_of (listing s.pc) ≡ o
      → o ≡ None
  no_row_stops s w other e None here = refl
  no_row_stops s w other e (Some v) here =
      true_not_false (is_fault w)
      (row_faults v (refuse v (with_context s)) (with_context s) w (sym (ap (λ (o : Option Vector). next_of machine o s) here) ∙ e)) other

  -- an instruction that stops for something else is a breakpoint, and makes no context
  done_faults : (q : Result Went Fault) (w : WholeStop) → done_as why.Faults q ≡ Err w → is_fault w ≡ true
  done_faults (Ok x) w e = absurd (ok_err e)
  done_faults (Err f) w e = ap is_fault (sym (err_same e))

  breaks_first : (f : ℕ → Result State WholeStop) (o : Option ℕ) (q : Result Went Fault) (w : WholeStop) → is_fault w ≡ false
      → at_break f o (done_as why.Faults q) ≡ Err w → o ≡ None → ⊥
  breaks_first f (Some k) q w other e none = cc
  breaks_first f None q w other e none = true_not_false (is_fault w) (done_faults q w e) other

  makes_none : (x : Result Instr Fault) (s : State) (w : WholeStop) → is_fault w ≡ false → vector_of x ≡ None → whole_here x s ≡ Err w
      → makes_here x (regs_of s) ≡ false
  makes_none (Ok (instr.Scalar i)) s w other none e =
      break_makes (instr.Scalar i) (regs_of s) (breaks_first (λ k. breakpoint doing_alone k s) (scalar_break i) (scalar_alone (instr.Scalar i) s) w other e)
  makes_none (Ok (instr.Branch i)) s w other none e = absurd (true_not_false (is_fault w) (done_faults (scalar_alone (instr.Branch i) s) w e) other)
  makes_none (Ok (instr.Vector v)) s w other none e = absurd cc
  makes_none (Err f) s w other none e = refl

  -- the order's state is one
  one_order : (n : ℕ) (s t : State) → seq machine n first ≡ Ok s → seq machine n first ≡ Ok t → s ≡ t
  one_order n s t e f = ok_same (sym e ∙ f)

  -- so the machine halts between two instructions, at one that makes no context
  stops_between : (d : Config State) (w : WholeStop) (h : StopsAt machine first d (cause_of w)) → is_fault w ≡ false → StopsInOrder machine first d.n w
      → StopsBetween machine first d.n w d
  stops_between d w h other k =
      let y = h.holds.order in
      let same : k.state ≡ y = one_order d.n k.state y k.runs (ap (λ (n : ℕ). seq machine n first) (stop_n machine first d (cause_of w) h) ∙ h.holds.runs) in
      let none : vector_of (listing y.pc) ≡ None
      = no_row_stops y w other (ap (λ (s : State). next_in_order machine s) (sym same) ∙ k.stop) (vector_of (listing y.pc)) refl in
      let place : (h.before.a ≡ 0) × (h.before.b ≡ 0) =
      ⊎_elim (λ p. (p.a, p.b)) (λ p. let no : None ≡ Some p.row = sym none ∙ p.here in absurd cc) h.holds.place in
      let at : d.a ≡ 0 = ap (λ (c : Config State). c.a) h.left ∙ place.0 in
      let before : State = h.before.state in
      let live : Live view before y = ⊎_elim (λ p. p.live) (λ p. let no : None ≡ Some p.row = sym none ∙ p.here in absurd cc) h.holds.place in
      let alone_stops : alone listing y ≡ Err w = sym (next_is listing around y) ∙ ap (λ (s : State). next_in_order machine s) (sym same) ∙ k.stop in
      let makes : makes_here (listing before.pc) (regs_of before) ≡ false
      = (λ j. makes_here (listing (h.holds.pc j)) (same_regs before y live h.holds.pc j)) ∙ makes_none (listing y.pc) y w other none alone_stops in
      let still : machine.made before ≡ before = ap (λ (b : Bool). cond b (with_context before) before) makes in
      let io = unmade machine first d (cause_of w) h at still in
      record {
        order = io.state;
        stops = record { runs = io.runs; stop = ap (λ (s : State). next_in_order machine s) (one_order d.n io.state k.state io.runs k.runs) ∙ k.stop };
        a = at;
        b = ap (λ (c : Config State). c.b) h.left ∙ place.1;
        live = io.live;
        pc = io.pc;
      }

  -- the stop of the next instruction in order, where the cause is none of taint
  abbrev pub NextStops : ℕ → Cause → Type 0
  NextStops n (cause.Halt reason) = StopsInOrder machine first n (why.Halt reason)
  NextStops n cause.Full = StopsInOrder machine first n why.Full
  NextStops n (cause.Stop (stop.Fault f)) = StopsInOrder machine first n (why.Faults f)
  NextStops n (cause.Stop (stop.Tainted addr)) = Unit {0}
  NextStops n (cause.Stop (stop.Denied addr)) = Unit {0}

  next_stops_of : (n : ℕ) (w : WholeStop) → StopsInOrder machine first n w → NextStops n (cause_of w)
  next_stops_of n (why.Halt reason) h = h
  next_stops_of n w h = h

  tainted_stops : (n : ℕ) (e : Cause) → is_tainted_cause e ≡ true → NextStops n e
  tainted_stops n (cause.Stop (stop.Tainted addr)) t = tt
  tainted_stops n (cause.Stop (stop.Denied addr)) t = tt
  tainted_stops n e t = absurd cc

  pub next_stops : (n : ℕ) (e : Cause) → Explains machine first n e → NextStops n e
  next_stops n e h = ⊎_elim (tainted_stops n e) (λ q. subst (NextStops n) q.1 (next_stops_of n q.0 q.2)) h

  -- a fault is that of an older instruction, at the program counter of the instructions in order
  faults_at : (c : Config State) (f : Fault) → StopsAt machine first c (cause.Stop (stop.Fault f)) → StopsInOrder machine first c.n (why.Faults f)
      → FaultsAt machine first c.n f c.state.pc
  faults_at c f h k =
      let e : Cause = cause.Stop (stop.Fault f) in
      let same : k.state ≡ h.holds.order =
      one_order c.n k.state h.holds.order k.runs (ap (λ (n : ℕ). seq machine n first) (stop_n machine first c e h) ∙ h.holds.runs) in
      record {
        state = k.state;
        stops = record { runs = k.runs; stop = k.stop };
        at = ap (λ (s : State). s.pc) same ∙ sym h.holds.pc ∙ sym (stop_position machine (laws listing around thread) first c e h).pc;
      }

  fault_keeps : (who : Who) (f : Fault) (pc n : ℕ) (d : Config State) → FaultsAt machine first n f pc
      → AgreesAfter machine first (Some (outcome.Fault who f pc n)) d
  fault_keeps Thread f pc n d h = h
  fault_keeps Handler f pc n d h = tt
  fault_keeps Entry f pc n d h = tt

  pub stop_keeps : (t : ℕ) (acts : List Activation) (c : Config State) (e : Cause) (younger : Bool) → StopsAt machine first c e
      → (younger ≡ true → is_tainted_cause e ≡ true) → NextStops c.n e
      → let stopping : Stopping = record { cause = e; younger = younger } in
      AgreesAfter machine first (Some (outcome_of t acts c stopping)) (at_stop c stopping)
  stop_keeps t acts c (cause.Halt reason) younger h only k =
      let between = stops_between c (why.Halt reason) h refl k in
      record {
        before = c.n;
        number = refl;
        between = record { order = between.order; stops = between.stops; a = between.a; b = between.b; live = between.live; pc = between.pc };
      }
  stop_keeps t acts c cause.Full younger h only k =
      let between = stops_between c why.Full h refl k in
      record { order = between.order; stops = between.stops; a = between.a; b = between.b; live = between.live; pc = between.pc }
  stop_keeps t acts c (cause.Stop (stop.Fault f)) true h only k = let no : false ≡ true = only refl in absurd cc
  stop_keeps t acts c (cause.Stop (stop.Fault f)) false h only k =
      let e : Stopping = record { cause = cause.Stop (stop.Fault f); younger = false } in
      fault_keeps (who_runs acts) f c.state.pc c.n (at_stop c e) (faults_at c f h k)
  stop_keeps t acts c e younger h only k = tt

-- THE START
-- under whatever region and floor the machine starts, the instructions in order start alike
pub first_alike : (image : List Segment) (bounds : Bounds) → Live view (start_under bounds image) (start image)
unfolding start_under
first_alike image bounds = record { cells = cells; sticky = refl }
  where
    cells : (c : Watched) → dead c (held (start_under bounds image) c) ≡ false → held (start_under bounds image) c ≡ held (start image) c
    cells c d = grind arith

first_pc : (image : List Segment) (bounds : Bounds) → (start_under bounds image).pc ≡ (start image).pc
unfolding start_under
first_pc image bounds = refl

clean_first : (image : List Segment) → NoTaint (start image)
unfolding start_under
clean_first image = λ a. refl

pub clean_start : (bounds : Bounds) (image : List Segment) → NoTaint (start_under bounds image)
unfolding start_under
clean_start bounds image = λ a. refl

pub begun : (listing : Listing) (image : List Segment) (s : Sched) → Holds (thread_program listing s) (start image) (at_start (start_under (bounds_of s) image))
begun listing image s = record {
  order = start image;
  runs = refl;
  clean = clean_of listing (thread_under (bounds_of s)) (start image) (clean_first image);
  pc = first_pc image (bounds_of s);
  count = omega arith;
  place = inl (record { a = refl; b = refl; live = first_alike image (bounds_of s) });
}
