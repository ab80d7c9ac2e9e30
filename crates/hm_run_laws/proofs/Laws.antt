-- The machine of a program keeps the laws of the machine that overlaps beats.
use Rattle.std.proofs.Common.{◌≡◌, ℕ, zero, suc, ◌<◌, ◌≤◌, arith, ◌&&◌, ◌||◌, ap, refl, sym, ◌∙◌, subst, Bool, true, false, not, ltb, nat_lt, cond, Option}
use Rattle.std.proofs.Common.{Some, None, Result, Ok, Err, inl, inr, ⊎_elim}
use Rattle.std.proofs.lemmas.Bool.{and_parts}
use Rattle.std.proofs.lemmas.Bool.Decides.{nat_tests}
use Rattle.std.specs.Option.{is_none}
use Rattle.std.specs.Prelude.{option_map}
use Rattle.hm_base.specs.declared.Fault.{Fault}
use Rattle.hm_base.specs.declared.Place.{Place}
use Rattle.hm_base.specs.declared.Place.TheVariants.{R, QWord, Ltp, Sticky}
use Rattle.hm_base.specs.declared.Stop.TheVariants as stop
use Rattle.hm_base.specs.declared.Stop.{Stop}
use Rattle.hm_codes.specs.Listing.{Listing}
use Rattle.hm_isa.specs.declared.Instr.{Instr}
use Rattle.hm_isa.specs.declared.Instr.TheVariants as instr
use Rattle.hm_isa.specs.declared.Vector.{Vector}
use Rattle.hm_mem.proofs.Stops.{neither_stops}
use Rattle.hm_mem.specs.Memory.{Around, thread_under}
use Rattle.hm_mem.specs.declared.Actor.TheVariants.{Thread}
use Rattle.hm_order.specs.Beats.{ActionLaws, AgreeOn, Alike, Apart, BeatLaws, Live, AlikeAs, Same, SameBeat, SameTouch, StopsBy, beats, then}
use Rattle.hm_order.specs.Machine.{CoreLaws, Clean, Config, Lawful, next, next_of}
use Rattle.hm_order.proofs.Results.{decide, err_same, ok_err, ok_same}
use Rattle.hm_state.specs.State.{State, At, Byte, Cell, Value, Rest, at, cells, regs_of}
use Rattle.hm_state.proofs.Cells.{cell_laws}
use Rattle.hm_base.specs.Stops.{is_tainted}
use Rattle.hm_beat.specs.Laws as cell
use Rattle.hm_mem.specs.Seen.{as_stops}
use Rattle.hm_beat.specs.Ordered.{nothing, of_four, ordered}
use Rattle.hm_beat.specs.Rows.{Tree, retired}
use Rattle.hm_beat.specs.Trees.{action, view as cell_view}
use Rattle.hm_beat.proofs.Ordered.{ordered_laws}
use Rattle.hm_beat.proofs.Trees.{keeps_laws}
use Rattle.hm_rows.specs.Context.{context_cell, with_context}
use Rattle.hm_rows.specs.Rows.{refuse, vector_tree, vector_whole, writes_lr}
use Rattle.hm_run.specs.declared.Cause.{Cause}
use Rattle.hm_run.specs.declared.Cause.TheVariants as cause
use Rattle.hm_window.specs.declared.rule.Rule.{Rule}
use Rattle.hm_window.specs.declared.rule.Rule.TheVariants as rule
use Rattle.hm_beat.specs.declared.clash.Clash.{Clash}
use Rattle.hm_beat.specs.Meeting.{clash_with}
use Rattle.hm_beat.proofs.Remaining.{left_apart}
use Rattle.hm_beat.proofs.Exchange.{rest_stays}
use Rattle.hm_window.specs.Overlap.{first_rule, is_too_early, rule_of_clash}
use Rattle.hm_run.specs.Program.{alone, begins, doing_alone, doing_in_machine, cause_of, caused, core, done_as, with_cause, is_ready}
use Rattle.hm_run.specs.Program.{is_tainted_cause, lifted, makes_here, on_cell, or_fault, other_here, other_row, ready_state}
use Rattle.hm_run.specs.Program.{refusal_rule, rows, step_rule, unless_refused, vector_of, whole_here}
use Rattle.hm_whole.specs.Watched.{GoesAlike, Watched, In, Beside, Held, InCell, Besides, open_rest, held, dead, view}
use Rattle.hm_run.specs.Stops.{Faults, WholeStop, break_of}
use Rattle.hm_rows.proofs.Rows.{keeps_lr, row_laws}
use Rattle.hm_rows.proofs.Context.{context_fresh, context_pc, context_ready, context_there, fresh}
use Rattle.hm_whole.specs.Whole.{Went, scalar_alone, scalar_in_machine}
use Rattle.hm_whole.proofs.Agreement.{whole-live}
use Rattle.hm_run_laws.proofs.Breakpoints.{Leaves, TaintedOrAlike, asked_alike, break_alike}
use Rattle.hm_run_laws.proofs.Vectors.{context_clean, four_are, not_refused, ready_counts, ready_same, refuse_same, retire, row_beats, row_pc}
use Rattle.hm_run_laws.proofs.Wholes.{leaves, under_thread, watched_clean}

-- VIEWS
abbrev pub value_in : Value → Held → Value
value_in v (InCell w) = w
value_in v (Besides r) = v

abbrev rest_in : Rest → Held → Rest
rest_in r (InCell v) = r
rest_in r (Besides t) = t

-- what the machine and the order agree on, cell by cell
pub record Agree (s t : State) : Type 0 where
  pub places : (p : Place) → s.cell (At p) ≡ t.cell (At p)
  pub bytes : (a : ℕ) → (s.cell (Byte a)).taint ≡ false → s.cell (Byte a) ≡ t.cell (Byte a)
  pub sticky : s.sticky ≡ t.sticky
  pub rest : open_rest s.rest ≡ open_rest t.rest

pub agree : (s t : State) → Live view s t → Agree s t
agree s t h = record {
  places = λ p. ap (value_in (s.cell (At p))) (h.cells (In (At p)) refl);
  bytes = λ a clean. ap (value_in (s.cell (Byte a))) (h.cells (In (Byte a)) clean);
  sticky = h.sticky;
  rest = ap (rest_in (open_rest s.rest)) (h.cells Beside refl);
}

pub live_of : (s t : State) → Agree s t → Live view s t
live_of s t h = record { cells = cells; sticky = h.sticky }
  where
    cells : (w : Watched) → dead w (held s w) ≡ false → held s w ≡ held t w
    cells (In (At p)) d = ap InCell (h.places p)
    cells (In (Byte a)) d = ap InCell (h.bytes a d)
    cells Beside d = ap Besides h.rest

-- THE CONTEXT OF STATES THAT AGREE
fresh_agree : (s t : State) → Agree s t → Agree (fresh s) (fresh t)
fresh_agree s t h = record {
  places = places;
  bytes = h.bytes;
  sticky = refl;
  rest = ap (λ (r : Rest). open_rest (record r { fpca = true; fpscr_low = 0; fpscr_middle = 0; vpr_top = 0 })) h.rest;
}
  where
    places : (p : Place) → context_cell s (At p) ≡ context_cell t (At p)
    places (R n) = h.places (R n)
    places (QWord k) = h.places (QWord k)
    places Sticky = h.places Sticky
    places p = refl

context_agree : (s t : State) → Agree s t → Agree (with_context s) (with_context t)
context_agree s t h = by_context s.rest.fpca refl (sym (ap (λ (r : Rest). r.fpca) h.rest))
  where
    by_context : (b : Bool) → s.rest.fpca ≡ b → t.rest.fpca ≡ b → Agree (with_context s) (with_context t)
    by_context true e f =
        subst (λ (u : State). Agree u (with_context t)) (sym (context_there s e)) (subst (λ (u : State). Agree s u) (sym (context_there t f)) h)
    by_context false e f =
        let new_s : with_context s ≡ fresh s = context_fresh s ∙ ap (λ (b : Bool). cond b s (fresh s)) e in
        let new_t : with_context t ≡ fresh t = context_fresh t ∙ ap (λ (b : Bool). cond b t (fresh t)) f in
        subst (λ (u : State). Agree u (with_context t)) (sym new_s) (subst (λ (u : State). Agree (fresh s) u) (sym new_t) (fresh_agree s t h))

-- WHAT AN INSTRUCTION THAT IS NO VECTOR ROW DOES IN THEM
done_alike : (r : Result Went Stop) (q : Result Went Fault) → GoesAlike r q → TaintedOrAlike (done_as cause.Stop r) (done_as Faults q)
done_alike (Ok x) (Ok y) (inl h) = absurd h
done_alike (Ok x) (Ok y) (inr h) = inr (h.live, h.pc)
done_alike (Ok x) (Err f) (inl h) = absurd h
done_alike (Ok x) (Err f) (inr h) = absurd h
done_alike (Err e) (Ok y) (inl h) = inl h
done_alike (Err e) (Ok y) (inr h) = absurd h
done_alike (Err e) (Err f) (inl h) = inl h
done_alike (Err e) (Err f) (inr h) = inr (ap cause.Stop h)

module _ (x : Around) (thread : x.actor ≡ Thread) where
  by_thread : (i : Instr) (s t : State) → Live view s t → s.pc ≡ t.pc → TaintedOrAlike (other_row (doing_in_machine x) i s) (other_row doing_alone i t)
  by_thread i s t h e =
      subst (λ (y : Around). TaintedOrAlike (other_row (doing_in_machine y) i s) (other_row doing_alone i t)) (sym (under_thread x thread))
      (break_alike _ _ (break_of i) _ _ (asked_alike s t h e x.bounds)
      (done_alike (scalar_in_machine (thread_under x.bounds) i s) (scalar_alone i t) (whole-live x.bounds i s t h e)))

  other_alike : (r : Result Instr Fault) (s t : State) → vector_of r ≡ None → Live view s t → s.pc ≡ t.pc → TaintedOrAlike (other_here x r s) (whole_here r t)
  other_alike (Ok (instr.Scalar i)) s t none h e = by_thread (instr.Scalar i) s t h e
  other_alike (Ok (instr.Branch i)) s t none h e = by_thread (instr.Branch i) s t h e
  other_alike (Ok (instr.Vector v)) s t none h e = absurd cc
  other_alike (Err f) s t none h e = inr refl

  other_live : (listing : Listing) (s t : State) → Live view s t → s.pc ≡ t.pc → vector_of (listing t.pc) ≡ None
      → TaintedOrAlike (other_here x (listing s.pc) s) (alone listing t)
  other_live listing s t h e none =
      subst (λ (pc : ℕ). TaintedOrAlike (other_here x (listing s.pc) s) (whole_here (listing pc) t)) e
      (other_alike (listing s.pc) s t (ap (λ (pc : ℕ). vector_of (listing pc)) e ∙ none) h e)

-- THE NEXT INSTRUCTION
module _ (listing : Listing) (around : Around) where
  next_at : (s : State) (r : Result Instr Fault) → listing s.pc ≡ r → next_of (core listing around) (vector_of r) s ≡ alone listing s
  next_at s (Ok (instr.Vector v)) e = sym (ap (λ (r : Result Instr Fault). whole_here r s) e)
  next_at s r e = refl

  -- it is the one at the program counter
  pub next_is : (s : State) → next (core listing around) s ≡ alone listing s
  next_is s = next_at s (listing s.pc) refl

  -- clean states have no tainted byte
  pub clean_of : (s : State) → cell.NoTaint s → Clean (core listing around) s
  clean_of s h = watched_clean s h

  clean_bytes : (s : State) → Clean (core listing around) s → cell.NoTaint s
  clean_bytes s h a = h (In (Byte a))

  clean_after : around.actor ≡ Thread → (s t : State) → Clean (core listing around) s → alone listing s ≡ Ok t → Clean (core listing around) t
  clean_after thread s t h e = clean_of t (subst Leaves e (leaves around thread (listing s.pc) s (clean_bytes s h)))

-- STOPS AND RULES
pub untainted : (w : WholeStop) → is_tainted_cause (cause_of w) ≡ false
untainted w = grind arith

pub no_refusal : (b : Bool) → cond b None (Some rule.YoungerFault) ≡ None → b ≡ true
no_refusal true e = refl
no_refusal false e = let no : Some rule.YoungerFault ≡ None = e in absurd cc

-- BEATS, from what they do to the cells to what the machine sees
pub caused_ok : (r : Result State Stop) (t : State) → caused r ≡ Ok t → r ≡ Ok t
caused_ok (Ok s) t e = ap Ok (ok_same e)
caused_ok (Err f) t e = absurd (ok_err (sym e))

pub caused_then : (q : Result State Stop) (f : State → Result State Cause) (g : State → Result State Stop) → ((t : State) → f t ≡ caused (g t))
    → then (caused q) f ≡ caused (then q g)
caused_then (Ok t) f g h = h t
caused_then (Err e) f g h = refl

-- below four, the beat of a number is the one that is given for it
pub of_four_is : (t : ℕ → Tree) (k : ℕ) → k < 4 → of_four t k ≡ t k
of_four_is t k low = let test : nat_lt k 4 ≡ true = grind (arith, nat_tests) in ap (λ (b : Bool). cond b (t k) nothing) test

stops_caused : (r : Result State Stop) → StopsBy is_tainted r → StopsBy is_tainted_cause (caused r)
stops_caused (Ok s) h = h
stops_caused (Err (stop.Fault f)) h = h
stops_caused r h = h

alike_caused : (p : Cell → Bool) (r q : Result State Stop) → Alike (AgreeOn (cell_view Rest cells) p) r q
    → Alike (AgreeOn view (on_cell p)) (caused r) (caused q)
alike_caused p (Ok s) (Ok t) h = agree_on
  where
    agree_on : (w : Watched) → on_cell p w ≡ true → held s w ≡ held t w
    agree_on (In c) e = ap InCell (h c e)
    agree_on Beside e = absurd cc
alike_caused p (Err e) (Err f) h = ap cause.Stop h
alike_caused p (Ok s) (Err f) h = h
alike_caused p (Err e) (Ok t) h = h

module _ (b : Tree) where
  touch_lifted : (s t : State) → SameTouch (action cells b) s t → SameTouch (lifted (action cells b)) s t
  touch_lifted s t h = record { uses = uses; sets = sets }
    where
      uses : (w : Watched) → on_cell ((action cells b).uses s) w ≡ on_cell ((action cells b).uses t) w
      uses (In c) = h.uses c
      uses Beside = refl

      sets : (w : Watched) → on_cell ((action cells b).sets s) w ≡ on_cell ((action cells b).sets t) w
      sets (In c) = h.sets c
      sets Beside = refl

  beat_lifted : (s t : State) → SameBeat (cell_view Rest cells) (action cells b) s t → SameBeat view (lifted (action cells b)) s t
  beat_lifted s t h = record {
    touch = touch_lifted s t h.touch;
    marks = λ u e. h.marks u (caused_ok ((action cells b).run s) u e);
    result = alike_caused ((action cells b).sets s) ((action cells b).run s) ((action cells b).run t) h.result;
  }

  laws_lifted : ActionLaws view (lifted (action cells b))
  laws_lifted = record {
    frame = frame;
    flag = λ s t e. (keeps_laws cells cell_laws b).flag s t (caused_ok ((action cells b).run s) t e);
    stays = λ s t e. (keeps_laws cells cell_laws b).stays s t (caused_ok ((action cells b).run s) t e);
    depends = λ s t h. beat_lifted s t ((keeps_laws cells cell_laws b).depends s t (λ c e. ap (value_in (s.cell c)) (h (In c) e)));
  }
    where
      frame : (s t : State) → caused ((action cells b).run s) ≡ Ok t → (w : Watched) → on_cell ((action cells b).sets s) w ≡ false → held t w ≡ held s w
      frame s t e (In c) unset = ap InCell ((keeps_laws cells cell_laws b).frame s t (caused_ok ((action cells b).run s) t e) c unset)
      frame s t e Beside unset = ap (λ (r : Rest). Besides (open_rest r)) (rest_stays b s t (caused_ok ((action cells b).run s) t e))

module _ (x : Around) (thread : x.actor ≡ Thread) where
  -- the rows over the cells alone keep the laws
  over_cells : BeatLaws (ordered Vector (λ v. vector_tree v x) writes_lr)
  over_cells = ordered_laws Vector vector_tree vector_whole row_laws writes_lr keeps_lr x thread

  may_loop : (v : Vector) (s : State) → is_ready v s ≡ true → (not (writes_lr v) || not (ltb (at Ltp s) 4)) ≡ true
  may_loop v s ready = decide (writes_lr v)
      (λ w. decide (ltb (at Ltp s) 4)
      (λ l. absurd (ready_counts v s ready w l))
      (λ l. λ j. not (w j) || not (l j)))
      (λ w. λ j. not (w j) || not (ltb (at Ltp s) 4))

  size_kept : (v : Vector) (k : ℕ) (s : State) → (action cells (of_four (vector_tree v x) k)).sets s (At Ltp) ≡ false
  size_kept v k s = one_of (nat_lt k 4)
    where
      one_of : (b : Bool) → (action cells (cond b (vector_tree v x k) nothing)).sets s (At Ltp) ≡ false
      one_of true = (row_laws v).size x k s
      one_of false = refl

  valid : (v j : Vector) (k : ℕ) (s t : State) → caused ((action cells (of_four (vector_tree v x) k)).run s) ≡ Ok t → is_ready j t ≡ is_ready j s
  valid v j k s t e =
      let b = of_four (vector_tree v x) k in
      let run : (action cells b).run s ≡ Ok t = caused_ok ((action cells b).run s) t e in
      let rest : t.rest ≡ s.rest = rest_stays b s t run in
      ready_same j t s (ap (λ (r : Rest). r.it) rest) (ap (λ (y : Value). y.n) ((keeps_laws cells cell_laws b).frame s t run (At Ltp) (size_kept v k s)))
      (ap (λ (r : Rest). r.fpca) rest)

  ready_live : (j : Vector) (s t : State) → Live view s t → is_ready j s ≡ is_ready j t
  ready_live j s t h =
      let a = agree s t h in
      ready_same j s t (ap (λ (r : Rest). r.it) a.rest) (ap (λ (y : Value). y.n) (a.places Ltp)) (ap (λ (r : Rest). r.fpca) a.rest)

  beat_laws : BeatLaws (rows x)
  beat_laws = record {
    action = λ v k. laws_lifted (of_four (vector_tree v x) k);
    valid = valid;
    later = λ v k m s t ready e low. touch_lifted (of_four (vector_tree v x) m) s t
        (over_cells.later v k m s t (may_loop v s ready) (caused_ok ((action cells (of_four (vector_tree v x) k)).run s) t e) low);
    live = λ v k s t ready h. ⊎_elim
        (λ stops. inl (stops_caused ((action cells (of_four (vector_tree v x) k)).run s) stops))
        (λ same. inr (beat_lifted (of_four (vector_tree v x) k) s t same))
        (over_cells.live v k s t (may_loop v s ready) (λ c uses alive. ap (value_in (s.cell c)) (h (In c) uses alive)));
    ready_live = ready_live;
  }

  -- WHAT THE RULES LET THROUGH
  apart_lifted : (t u : Tree) (s : State) → Apart (action cells t) (action cells u) s → Apart (lifted (action cells t)) (lifted (action cells u)) s
  apart_lifted t u s h = record { uses = uses; used = used; sets = sets }
    where
      uses : (w : Watched) → on_cell ((action cells u).sets s) w ≡ true → on_cell ((action cells t).uses s) w ≡ false
      uses (In c) e = h.uses c e
      uses Beside e = refl

      used : (w : Watched) → on_cell ((action cells t).sets s) w ≡ true → on_cell ((action cells u).uses s) w ≡ false
      used (In c) e = h.used c e
      used Beside e = refl

      sets : (w : Watched) → on_cell ((action cells u).sets s) w ≡ true → on_cell ((action cells t).sets s) w ≡ false
      sets (In c) e = h.sets c e
      sets Beside e = refl

  clash_apart : (v w : Vector) (c : Config State) → clash_with (vector_tree v x) c.a (vector_tree w x c.b) c.state ≡ None → c.b < 2
      → (k : ℕ) → c.a ≤ k → k < 4 → Apart ((rows x).act v k) ((rows x).act w c.b) c.state
  clash_apart v w c none few k low high =
      let below : c.b < 4 = omega arith in
      subst (λ (t : Tree). Apart (lifted (action cells t)) ((rows x).act w c.b) c.state) (sym (of_four_is (vector_tree v x) k high))
      (subst (λ (u : Tree). Apart (lifted (action cells (vector_tree v x k))) (lifted (action cells u)) c.state) (sym (of_four_is (vector_tree w x) c.b below))
      (apart_lifted (vector_tree v x k) (vector_tree w x c.b) c.state
      (left_apart (vector_tree v) (vector_tree w) _ _ (row_laws v) (row_laws w) x c.a c.b c.state none k low high)))

  no_clash : (o : Option Clash) → option_map rule_of_clash o ≡ None → o ≡ None
  no_clash (Some y) e = let no : Some (rule_of_clash y) ≡ None = e in absurd cc
  no_clash None e = refl

  in_time : (b : Bool) (r : Option Rule) → cond b (Some rule.Order) r ≡ None → (b ≡ false) × (r ≡ None)
  in_time true r e = let no : Some rule.Order ≡ None = e in absurd cc
  in_time false r e = (refl, e)

  lawful : (listing : Listing) (o p : Option Vector) (c : Config State) → step_rule x o p c ≡ None → Lawful (core listing x) o p c
  lawful listing None p c e = let no : Some rule.NotVector ≡ None = e in absurd cc
  lawful listing (Some v) None c e = let no : Some rule.NotVector ≡ None = e in absurd cc
  lawful listing (Some v) (Some w) c e =
      let clash = clash_with (vector_tree v x) c.a (vector_tree w x c.b) c.state in
      let free = neither_stops (first_rule (Some (vector_tree v x)) (Some (vector_tree w x)) c.a c.b c.state) (refusal_rule (Some w) c.state) e in
      let time = in_time (is_too_early c.a c.b) (option_map rule_of_clash clash) free.0 in
      let late = late_of c time.0 in
      record {
        older = v;
        younger = w;
        here = refl;
        there = refl;
        late = late.0;
        few = late.1;
        ready = no_refusal (is_ready w c.state) free.1;
        apart = clash_apart v w c (no_clash clash time.1) late.1;
      }
    where
      late_of : (c : Config State) → is_too_early c.a c.b ≡ false → (2 ≤ c.a) × (c.b < 2)
      late_of c e = (grind (arith, nat_tests), grind (arith, nat_tests))

  -- WHOLE ROWS
  beats_caused : (v : Vector) (n k : ℕ) (s : State) → beats (rows x) v k n s ≡ caused (row_beats x v k n s)
  beats_caused v zero k s = refl
  beats_caused v (suc n) k s = caused_then ((action cells (of_four (vector_tree v x) k)).run s) (beats (rows x) v (suc k) n) (row_beats x v (suc k) n)
      (beats_caused v n (suc k))

  same_over : (s : State) → Same view s (retired s)
  same_over s = record { cells = λ w. elim w as (λ w. held s w ≡ held (retired s) w) [ In c ↦ refl | Beside ↦ refl ]; sticky = refl }

  four_same : (r : Result State Stop) (q : Result State Fault) → then r retire ≡ as_stops q → AlikeAs cause_of (Same view) (caused r) (or_fault q)
  four_same (Ok s) (Ok t) e = subst (λ (u : State). Same view s u) (ok_same e) (same_over s)
  four_same (Ok s) (Err f) e = absurd (ok_err e)
  four_same (Err w) (Ok t) e = absurd (ok_err (sym e))
  four_same (Err w) (Err f) e = ap cause.Stop (err_same e)

  whole_from : (v : Vector) (s : State) → cell.NoTaint s → (q : Result State WholeStop) → ready_state v s ≡ q
      → AlikeAs cause_of (Same view) (then (with_cause q) (beats (rows x) v 0 4)) (then q (λ t. or_fault (vector_whole v t)))
  whole_from v s clean (Err w) e = refl
  whole_from v s clean (Ok t) e =
      let free = not_refused (refuse v (with_context s)) (with_context s) t e in
      let there : t.rest.fpca ≡ true = ap (λ (u : State). u.rest.fpca) (sym free.1) ∙ context_ready s in
      subst (λ (r : Result State Cause). AlikeAs cause_of (Same view) r (or_fault (vector_whole v t))) (sym (beats_caused v 4 0 t))
      (four_same (row_beats x v 0 4 t) (vector_whole v t)
      (four_are x thread v t there (ap (refuse v) (sym free.1) ∙ free.0) (subst cell.NoTaint free.1 (context_clean s clean))))

-- HOW A ROW BEGINS
machine_ok : (r : Result State WholeStop) (t : State) → with_cause r ≡ Ok t → r ≡ Ok t
machine_ok (Ok s) t e = ap Ok (ok_same e)
machine_ok (Err w) t e = absurd (ok_err (sym e))

pub begun_in : (v : Vector) (s t : State) → begins v s ≡ Ok t → (refuse v (with_context s) ≡ None) × (with_context s ≡ t)
begun_in v s t e = not_refused (refuse v (with_context s)) (with_context s) t (machine_ok (ready_state v s) t e)

start_ready : (v : Vector) (s t : State) → begins v s ≡ Ok t → is_ready v t ≡ true
start_ready v s t e =
    let h = begun_in v s t e in
    subst (λ (u : State). is_ready v u ≡ true) h.1 (λ j. context_ready s j && is_none (h.0 j))

start_pc : (v : Vector) (s t : State) → begins v s ≡ Ok t → t.pc ≡ s.pc
start_pc v s t e = ap (λ (u : State). u.pc) (sym (begun_in v s t e).1) ∙ context_pc s

made_pc : (b : Bool) (s : State) → (cond b (with_context s) s).pc ≡ s.pc
made_pc true s = context_pc s
made_pc false s = refl

pub none_of : (o : Option Fault) → is_none o ≡ true → o ≡ None
none_of None e = refl
none_of (Some f) e = absurd cc

started : (v : Vector) (s : State) → is_ready v s ≡ true → begins v s ≡ Ok s
started v s ready =
    let h = and_parts s.rest.fpca (is_none (refuse v s)) ready in
    ap (λ (t : State). with_cause (unless_refused (refuse v t) t)) (context_there s h.0)
    ∙ ap (λ (o : Option Fault). with_cause (unless_refused o s)) (none_of (refuse v s) h.1)

begin_alike : (o : Option Fault) (s t : State) → Live view s t → Alike (Live view) (with_cause (unless_refused o s)) (with_cause (unless_refused o t))
begin_alike (Some f) s t h = refl
begin_alike None s t h = h

start_live : (v : Vector) (s t : State) → Live view s t → s.pc ≡ t.pc → Alike (Live view) (begins v s) (begins v t)
start_live v s t h pc =
    let a = context_agree s t (agree s t h) in
    let same : refuse v (with_context s) ≡ refuse v (with_context t)
    = refuse_same v (with_context s) (with_context t) (ap (λ (r : Rest). r.it) a.rest) (ap (λ (y : Value). y.n) (a.places Ltp))
    (ap (λ (r : Rest). r.fpca) a.rest)
    (context_pc s ∙ pc ∙ sym (context_pc t)) in
    subst (λ (o : Option Fault). Alike (Live view) (begins v s) (with_cause (unless_refused o (with_context t)))) same
    (begin_alike (refuse v (with_context s)) (with_context s) (with_context t) (live_of (with_context s) (with_context t) a))

pub laws : (listing : Listing) (around : Around) → around.actor ≡ Thread → CoreLaws (core listing around)
laws listing around thread = record {
  rows = beat_laws around thread;
  whole = λ v s clean. whole_from around thread v s (clean_bytes listing around s clean) (ready_state v s) refl;
  whole_pc = λ v s t e. row_pc v s t e;
  clean = λ s t h e. clean_after listing around thread s t h (sym (next_is listing around s) ∙ e);
  start_ready = start_ready;
  start_pc = start_pc;
  made_pc = λ s. made_pc (makes_here (listing s.pc) (regs_of s)) s;
  started = started;
  start_live = start_live;
  jump_pc = λ p s. refl;
  jump_same = λ p s. record { cells = λ c. elim c as (λ c. held (record s { pc = p }) c ≡ held s c) [ In d ↦ refl | Beside ↦ refl ]; sticky = refl };
  other_live = λ s t h e none clean. other_live around thread listing s t h e none;
  untainted = untainted;
  lawful = lawful around thread listing;
  faults = λ e. no_refusal (is_tainted_cause e);
}
