-- What a step leaves of what stands beside the cells: the exception number, who accesses the memory, a sound IT byte and priorities.
use Rattle.std.proofs.Common.{◌≡◌, ◌≢◌, ℕ, zero, suc, ◌==◌, ◌+◌, ap, refl, sym, ◌∙◌, subst, Bool, true, false, cond, not, ◌&&◌, ◌||◌, nat_eq, nat_lt, eqb-true}
use Rattle.std.proofs.Common.{List, length, Option, Some, None, Result, Ok, Err, arith}
use Rattle.std.proofs.lemmas.Bool.{and_parts}
use Rattle.std.specs.Prelude.{IfOk, is_none}
use Rattle.hm_base.specs.declared.Fault.{Fault}
use Rattle.hm_base.specs.declared.FaultKind.TheVariants.{InvState}
use Rattle.hm_base.specs.declared.Place.TheVariants.{Ltp}
use Rattle.hm_base.specs.declared.Stop.{Stop}
use Rattle.hm_beat.specs.Ordered.{of_four}
use Rattle.hm_beat.specs.Trees.{action}
use Rattle.hm_beat.proofs.Exchange.{rest_stays}
use Rattle.hm_codes.specs.Listing.{Listing}
use Rattle.hm_exc.specs.Frame.{is_between}
use Rattle.hm_isa.specs.declared.Instr.{Instr}
use Rattle.hm_isa.specs.declared.Instr.TheVariants as instr
use Rattle.hm_isa.specs.declared.Vector.{Vector}
use Rattle.hm_run_laws.proofs.Priorities.{step-levels}
use Rattle.hm_run_laws.proofs.KeptSteps.{settled-sound, step-number, step-sound, step-main}
use Rattle.hm_run_laws.specs.Blocks.{IsBlockByte}
use Rattle.hm_run_laws.specs.Levels.{HasLevels}
use Rattle.hm_mem.proofs.Stops.{neither_stops}
use Rattle.hm_mem.specs.Memory.{Around}
use Rattle.hm_order.specs.Beats.{then}
use Rattle.hm_order.specs.Machine.{Config, End, begin, did, done, older, older_of, settle, younger, younger_of}
use Rattle.hm_order.proofs.Results.{ok_same, then_ok}
use Rattle.hm_regs.specs.Stacks.{HandlerOnMain}
use Rattle.hm_regs.specs.declared.Regs.{Regs}
use Rattle.hm_rows.proofs.Context.{context_fresh, context_ready, fresh}
use Rattle.hm_rows.specs.Context.{with_context}
use Rattle.hm_rows.specs.Rows.{refuse, vector_tree, writes_lr}
use Rattle.hm_run.proofs.Steps.{past}
use Rattle.hm_run.specs.declared.Cause.{Cause}
use Rattle.hm_run.specs.declared.Cause.TheVariants as cause
use Rattle.hm_run.specs.declared.Reason.TheVariants.{Break}
use Rattle.hm_run.specs.Program.{Program, answered, asks, breakpoint, doing_in_machine, cause_of, caused, core, done_as}
use Rattle.hm_run.specs.Program.{is_ready, most_output, other_here, printed, refusal_rule, rows, served}
use Rattle.hm_run.specs.Program.{vector_of}
use Rattle.hm_run.specs.Stops.{at_break, break_of}
use Rattle.hm_state.specs.State.{State, Rest, at, cells, regs_of}
use Rattle.hm_thumb.specs.Calls.{Asked, Writes, Exits, asked}
use Rattle.hm_thumb.specs.Does as runner
use Rattle.hm_thumb.specs.Steps.{Stepped, step}
use Rattle.hm_thumb.specs.declared.Way.TheVariants as way
use Rattle.hm_whole.specs.Whole.{Went, goes_from, scalar_in_machine, seen_in, state_with}
use Rattle.hm_window.specs.declared.rule.Rule.{Rule}
use Rattle.hm_run_laws.proofs.Entering.{byte_in, number_in, spsel_in}
use Rattle.hm_run_laws.proofs.Laws.{begun_in, caused_ok, no_refusal, none_of}
use Rattle.hm_run_laws.proofs.Landing.{landed}
use Rattle.hm_run_laws.specs.Sound.{FitsInside}

-- AN INSTRUCTION leaves these
pub record Leaves (r q : Rest) : Type 0 where
  pub number : q.ipsr ≡ r.ipsr
  pub around : q.around ≡ r.around
  pub selects : (r.ipsr ≢ 0 → r.spsel ≡ false) → q.ipsr ≢ 0 → q.spsel ≡ false
  pub levels : HasLevels r.devices → HasLevels q.devices
  pub block : IsBlockByte r.it → IsBlockByte q.it

-- A BEAT leaves more, and so does a context that is made
pub record Same (r q : Rest) : Type 0 where
  pub number : q.ipsr ≡ r.ipsr
  pub around : q.around ≡ r.around
  pub spsel : q.spsel ≡ r.spsel
  pub devices : q.devices ≡ r.devices
  pub it : q.it ≡ r.it

pub same_leaves : (r q : Rest) → Same r q → Leaves r q
same_leaves r q h = record {
  number = h.number;
  around = h.around;
  selects = λ m n. h.spsel ∙ m (λ e. n (h.number ∙ e));
  levels = subst HasLevels (sym h.devices);
  block = subst IsBlockByte (sym h.it);
}

same_none : (r : Rest) → Same r r
same_none r = record { number = refl; around = refl; spsel = refl; devices = refl; it = refl }

same_then : (r q p : Rest) → Same r q → Same q p → Same r p
same_then r q p h k = record {
  number = k.number ∙ h.number;
  around = k.around ∙ h.around;
  spsel = k.spsel ∙ h.spsel;
  devices = k.devices ∙ h.devices;
  it = k.it
      ∙ h.it;
}

same_of : (r q : Rest) → q ≡ r → Same r q
same_of r q e = subst (Same r) (sym e) (same_none r)

context_same : (s : State) → Same s.rest (with_context s).rest
context_same s = subst (λ (t : State). Same s.rest t.rest) (sym (context_fresh s)) (one_of s.rest.fpca)
  where
    one_of : (b : Bool) → Same s.rest (cond b s (fresh s)).rest
    one_of true = same_none s.rest
    one_of false = record { number = refl; around = refl; spsel = refl; devices = refl; it = refl }

-- A ROW THAT IS NOT REFUSED stands in no IT block
free_it : (v : Vector) (s : State) → refuse v s ≡ None → s.rest.it ≡ 0
free_it v s h = eqb-true s.rest.it 0
    (by_test (nat_eq s.rest.it 0) (writes_lr v && nat_lt (at Ltp s) 4 && s.rest.fpca) (record { kind = InvState; addr = s.pc }) h)
  where
    by_test : (b y : Bool) (f : Fault) → cond (not b || y) (Some f) None ≡ None → b ≡ true
    by_test true y f e = refl
    by_test false y f e = absurd cc

past_first : (a b : ℕ) → is_between (record { a = suc a; b = b }) ≡ false
past_first a b = by_first (suc a == 0) refl
  where
    by_first : (t : Bool) → (suc a == 0) ≡ t → (t && (b == 0)) ≡ false
    by_first true e = let zero_is : suc a ≡ 0 = eqb-true (suc a) 0 e in absurd (omega arith)
    by_first false e = refl

-- no IT block is open, and there is a context
abbrev Ready : Rest → Type 0
Ready r = (r.it ≡ 0) × (r.fpca ≡ true)

ready_same : (r q : Rest) → q ≡ r → Ready r → Ready q
ready_same r q e h = subst Ready (sym e) h

ready_younger : (w : Vector) (s : State) → refusal_rule (Some w) s ≡ None → Ready s.rest
ready_younger w s h =
    let parts = and_parts s.rest.fpca (is_none (refuse w s)) (no_refusal (is_ready w s) h) in
    (free_it w s (none_of (refuse w s) parts.1), parts.0)

-- what a beat of a row leaves
pub record RowLeaves (c d : Config State) : Type 0 where
  pub same : Same c.state.rest d.state.rest
  pub inside : FitsInside d

module _ (listing : Listing) (x : Around) where
  abbrev machine : Program
  machine = core listing x

  beat_stays : (v : Vector) (b : ℕ) (s t : State) → ((rows x).act v b).run s ≡ Ok t → t.rest ≡ s.rest
  beat_stays v b s t e = let tree = of_four (vector_tree v x) b in rest_stays tree s t (caused_ok ((action cells tree).run s) t e)

  row_begins : (v : Vector) (a b : ℕ) (s t : State) → (is_between (record { a = a; b = b }) ≡ false → Ready s.rest) → begin machine v a s ≡ Ok t
      → Same s.rest t.rest × Ready t.rest
  row_begins v zero b s t inside e =
      let begun = begun_in v s t e in
      subst (λ (q : State). Same s.rest q.rest × Ready q.rest) begun.1 (context_same s, (free_it v (with_context s) begun.0, context_ready s))
  row_begins v (suc a) b s t inside e = subst (λ (q : State). Same s.rest q.rest × Ready q.rest) (ok_same e) (same_none s.rest, inside (past_first a b))

  lands : (over : Bool) (c : Config State) (t : State) → Same c.state.rest t.rest → Ready t.rest → RowLeaves c (landed machine over c t)
  lands true c t h z = record { same = h; inside = λ e. z }
  lands false c t h z = record { same = h; inside = λ e. z }

  row_leaves : (v : Vector) (c : Config State) (r : Result State Cause) → FitsInside c → then (begin machine v c.a c.state) ((machine.rows.act v c.a).run) ≡ r
      → IfOk (done machine c r (settle machine (suc c.a) c.b c.n (suc c.steps))) (RowLeaves c)
  row_leaves v c (Ok t) inside e =
      let one = then_ok (begin machine v c.a c.state) ((machine.rows.act v c.a).run) t e in
      let begun = row_begins v c.a c.b c.state one.0 inside one.1 in
      let stays : t.rest ≡ one.0.rest = beat_stays v c.a one.0 t one.2 in
      lands (suc c.a == 4) c t (same_then c.state.rest one.0.rest t.rest begun.0 (same_of one.0.rest t.rest stays)) (ready_same one.0.rest t.rest stays begun.1)
  row_leaves v c (Err f) inside e = tt

  pub vector_leaves : (v : Vector) (c : Config State) → FitsInside c → vector_of (listing c.state.pc) ≡ Some v → IfOk (older machine c) (RowLeaves c)
  vector_leaves v c inside here =
      subst (λ (o : Option Vector). IfOk (older_of machine o c) (RowLeaves c)) (sym here)
      (row_leaves v c (then (begin machine v c.a c.state) ((machine.rows.act v c.a).run)) inside refl)

  -- THE YOUNGER
  did_leaves : (j : Vector) (c : Config State) (r : Result State Cause) → Ready c.state.rest → (machine.rows.act j c.b).run c.state ≡ r
      → IfOk (did machine c r) (RowLeaves c)
  did_leaves j c (Ok t) z e =
      let stays : t.rest ≡ c.state.rest = beat_stays j c.b c.state t e in
      record { same = same_of c.state.rest t.rest stays; inside = λ h. ready_same c.state.rest t.rest stays z }
  did_leaves j c (Err f) z e = tt

  younger_by : (b : Option Rule) (o : Option Vector) (c : Config State) → FitsInside c → (b ≡ None → refusal_rule o c.state ≡ None)
      → IfOk (younger_of machine b o c) (RowLeaves c)
  younger_by (Some b) o c inside ready = tt
  younger_by None (Some j) c inside ready = did_leaves j c ((machine.rows.act j c.b).run c.state) (ready_younger j c.state (ready refl)) refl
  younger_by None None c inside ready = record { same = same_none c.state.rest; inside = inside }

  pub younger_leaves : (c : Config State) → FitsInside c → IfOk (younger machine c) (RowLeaves c)
  younger_leaves c inside = younger_by (machine.rule (machine.code (machine.rows.view.pc c.state)) (machine.code (machine.rows.view.pc c.state + 4)) c)
      (machine.code (machine.rows.view.pc c.state + 4)) c inside
      (λ h. (neither_stops _ (refusal_rule (machine.code (machine.rows.view.pc c.state + 4)) c.state) h).1)

-- AN INSTRUCTION that is no vector row
goes_leave : (s : State) (r : Regs) → r.ipsr ≡ s.rest.ipsr → r.it ≡ s.rest.it → r.spsel ≡ s.rest.spsel → (q : Result Stepped Stop)
    → IfOk q (λ y. y.regs.ipsr ≡ r.ipsr)
    → (HandlerOnMain r → IfOk q (λ y. HandlerOnMain y.regs))
    → (IsBlockByte r.it → IfOk q (λ y. IsBlockByte y.regs.it)) → (HasLevels s.rest.devices → IfOk q (λ y. HasLevels y.seen.devices))
    → IfOk (goes_from s q) (λ y. Leaves s.rest y.state.rest)
unfolding state_with
goes_leave s r here there stack (Ok q) number main block levels =
    record {
      number = number ∙ here;
      around = refl;
      selects = λ m. main (λ n. stack ∙ m (λ e. n (here ∙ e)));
      levels = levels;
      block = λ h. block (subst IsBlockByte (sym there) h);
    }
goes_leave s r here there stack (Err f) number main block levels = tt

pub scalar_leaves : (x : Around) (i : Instr) (s : State) → IfOk (scalar_in_machine x i s) (λ y. Leaves s.rest y.state.rest)
scalar_leaves x i s =
    let R = runner.in_machine x in
    let r = regs_of s in
    goes_leave s r (number_in s) (byte_in s) (spsel_in s) (step R i r (seen_in s)) (step-number R i r (seen_in s)) (step-main R i r (seen_in s))
    (step-sound R i r (seen_in s)) (step-levels R i r (seen_in s))

-- a breakpoint
printed_leaves : (xs : List ℕ) (s : State) → Leaves s.rest (printed xs s).rest
unfolding state_with regs_of
printed_leaves xs s = record {
  number = refl;
  around = refl;
  selects = λ m n. m n;
  levels = λ h. h;
  block = λ h. settled-sound 2 way.On (regs_of s) (regs_of s) h (refl, refl, λ n. refl);
}

abbrev Kept : State → State → Type 0
Kept s t = Leaves s.rest t.rest

then_if : {A B E : Type 0} (P : B → Type 0) (r : Result A E) (f : A → Result B E) → ((a : A) → IfOk (f a) P) → IfOk (then r f) P
then_if P (Ok a) f h = h a
then_if P (Err e) f h = tt

answered_leaves : (s : State) (q : Asked) → IfOk (answered cause_of s q) (Kept s)
answered_leaves s (Exits reason) = tt
answered_leaves s (Writes xs) = by_room (nat_lt most_output (length s.rest.output + length xs))
  where
    by_room : (b : Bool) → IfOk (cond b (Err cause.Full) (Ok (printed xs s))) (Kept s)
    by_room true = tt
    by_room false = printed_leaves xs s

breakpoint_leaves : (x : Around) (k : ℕ) (s : State) → IfOk (breakpoint (doing_in_machine x) k s) (Kept s)
breakpoint_leaves x k s = by_call (asks k)
  where
    by_call : (b : Bool) → IfOk (cond b (served (doing_in_machine x) s) (Err (cause.Halt (Break k)))) (Kept s)
    by_call true = then_if (Kept s) (caused (asked (runner.in_machine x) (regs_of s) (seen_in s))) (answered cause_of s) (answered_leaves s)
    by_call false = tt

done_leaves : (s : State) (r : Result Went Stop) → IfOk r (λ y. Leaves s.rest y.state.rest) → IfOk (done_as cause.Stop r) (Kept s)
done_leaves s (Ok y) h = h
done_leaves s (Err f) h = tt

by_break : (x : Around) (i : Instr) (s : State) (o : Option ℕ)
    → IfOk (at_break (λ k. breakpoint (doing_in_machine x) k s) o (done_as cause.Stop (scalar_in_machine x i s))) (Kept s)
by_break x i s (Some k) = breakpoint_leaves x k s
by_break x i s None = done_leaves s (scalar_in_machine x i s) (scalar_leaves x i s)

row_none : {P : Type 0} (v : Vector) → vector_of (Ok (instr.Vector v)) ≡ None → P
row_none v e = let differ : Some v ≡ None = e in absurd cc

other_leaves : (x : Around) (r : Result Instr Fault) (s : State) → vector_of r ≡ None → IfOk (other_here x r s) (Kept s)
other_leaves x (Ok (instr.Scalar i)) s none = by_break x (instr.Scalar i) s (break_of (instr.Scalar i))
other_leaves x (Ok (instr.Branch i)) s none = by_break x (instr.Branch i) s (break_of (instr.Branch i))
other_leaves x (Ok (instr.Vector v)) s none = row_none v none
other_leaves x (Err f) s none = tt

-- A STEP, of the thread
pub record StepLeaves (c d : Config State) : Type 0 where
  pub left : Leaves c.state.rest d.state.rest
  pub inside : FitsInside d

module _ (listing : Listing) (x : Around) where
  row_steps : (c : Config State) (r : Result (Config State) (End State Cause Rule)) → IfOk r (RowLeaves c) → IfOk r (StepLeaves c)
  row_steps c (Ok d) h = record { left = same_leaves c.state.rest d.state.rest h.same; inside = h.inside }
  row_steps c (Err e) h = tt

  other_steps : (c : Config State) (r : Result State Cause) → IfOk r (Kept c.state) → IfOk (done (core listing x) c r (past c)) (StepLeaves c)
  other_steps c (Ok t) h = record { left = h; inside = λ (e : true ≡ false). absurd cc }
  other_steps c (Err e) h = tt

  by_row : (c : Config State) (o : Option Vector) → FitsInside c → vector_of (listing c.state.pc) ≡ o → IfOk (older (core listing x) c) (StepLeaves c)
  by_row c (Some v) inside e = row_steps c (older (core listing x) c) (vector_leaves listing x v c inside e)
  by_row c None inside e =
      subst (λ (o : Option Vector). IfOk (older_of (core listing x) o c) (StepLeaves c)) (sym e)
      (other_steps c (other_here x (listing c.state.pc) c.state) (other_leaves x (listing c.state.pc) c.state e))

  pub older_leaves : (c : Config State) → FitsInside c → IfOk (older (core listing x) c) (StepLeaves c)
  older_leaves c inside = by_row c (vector_of (listing c.state.pc)) inside refl

  -- what is no instruction stops
  pub fault_leaves : (f : Fault) (c : Config State) → listing c.state.pc ≡ Err f → IfOk (older (core listing x) c) (RowLeaves c)
  fault_leaves f c e =
      subst (λ (o : Option Vector). IfOk (older_of (core listing x) o c) (RowLeaves c)) (sym (ap vector_of e))
      (subst (λ (r : Result Instr Fault). IfOk (done (core listing x) c (other_here x r c.state) (past c)) (RowLeaves c)) (sym e) tt)

  pub younger_steps : (c : Config State) → FitsInside c → IfOk (younger (core listing x) c) (StepLeaves c)
  younger_steps c inside = row_steps c (younger (core listing x) c) (younger_leaves listing x c inside)
