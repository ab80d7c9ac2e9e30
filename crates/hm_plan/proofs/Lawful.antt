-- A tick of a beat of the older and one of the younger goes on only where two may overlap.
use Rattle.std.proofs.Common.{◌≡◌, ◌⊎◌, ℕ, zero, suc, ◌+◌, ◌==◌, ◌<◌, arith, Bool, true, false, cond, List, [], ◌∷◌, drop}
use Rattle.std.proofs.Common.{Option, Some, None, Result, Ok, Err, inl, inr, refl, sym, ◌∙◌, ap, subst}
use Rattle.std.proofs.lemmas.Bool.Decides.{nat_tests}
use Rattle.hm_base.specs.Image.{Segment}
use Rattle.hm_codes.specs.Listing.{Listing}
use Rattle.hm_isa.specs.declared.Vector.{Vector}
use Rattle.hm_order.specs.Beats.{then}
use Rattle.hm_order.specs.Machine.{Config, begin, Stopped, did, done, older, older_of, settle, younger, younger_of}
use Rattle.hm_order.proofs.Results.{ok_err, ok_same}
use Rattle.hm_run_laws.proofs.Order.{out_ends}
use Rattle.hm_run_laws.proofs.Quiet.{alone_is, run_still}
use Rattle.hm_run_laws.specs.Nested.{Ended, Nested, NestedEnd, TickEnd, at_step, letters, with_acts}
use Rattle.hm_run_laws.specs.Runs.{Pointers, Run, after_count, begin as begin_run, closed, ended, enters, may_enter, next, picks, run, stops, tick, tick_of}
use Rattle.hm_plan_laws.proofs.Loops.{runs_on}
use Rattle.hm_plan_laws.proofs.Open.{rule_none}
use Rattle.hm_plan_laws.specs.Ends.{IsGreedyAt}
use Rattle.hm_plan_laws.specs.Greedy.{IsReady}
use Rattle.hm_plan_laws.specs.Planned.{plan_line}
use Rattle.hm_plan_laws.specs.declared.Greedy.TheVariants as greedy
use Rattle.hm_run.specs.Bare.{bare, bare_program}
use Rattle.hm_run.specs.Program.{Program, Stepped}
use Rattle.hm_run.specs.declared.Cause.{Cause}
use Rattle.hm_run.specs.declared.Outcome.{Outcome}
use Rattle.hm_sched.specs.Schedule.{Sched, TickLine, ticks_of, younger_letter}
use Rattle.hm_state.specs.State.{State}
use Rattle.hm_window.specs.Positions.{may_end}
use Rattle.hm_window.specs.declared.rule.Rule.{Rule}

-- where a tick may end
ends_at : (a b : ℕ) → may_end a b ≡ true → ((b ≡ 0) × (a < 4)) ⊎ ((a ≡ 3) × (b ≡ 1))
ends_at a b e = grind (arith, nat_tests)

-- the tick of both
abbrev pub both : TickLine
both = plan_line 1 greedy.Two

-- where letters do not all go on the run has ended
stops_ended : (t k : ℕ) (younger : Bool) (e : NestedEnd) (es : List Pointers) → (stops t k younger e es).outcome ≡ None → ⊥
stops_ended t k younger (Ended (Stopped c w) acts) es out = cc
stops_ended t k younger e es out = cc

module _ (listing : Listing) where
  abbrev M : Program
  M = bare_program listing

  -- with no row behind the older a rule is broken
  no_row : (v : Option Vector) (c : Config State) → M.rule v None c ≡ None → ⊥
  no_row None c e = absurd cc
  no_row (Some i) c e = absurd cc

  -- where a step of the younger leaves the position
  record Second (c d : Config State) : Type 0 where
    a : d.a ≡ c.a
    b : d.b ≡ suc c.b

  did_at : (c d : Config State) (r : Result State Cause) → did M c r ≡ Ok d → Second c d
  did_at c d (Ok t) e = let is = ok_same e in record { a = ap (λ (x : Config State). x.a) (sym is); b = ap (λ (x : Config State). x.b) (sym is) }
  did_at c d (Err w) e = absurd (ok_err (sym e))

  second_at : (v o : Option Vector) (c d : Config State) (r : Option Rule) → M.rule v o c ≡ r → younger_of M r o c ≡ Ok d → Second c d
  second_at v o c d (Some b) is e = absurd (ok_err (sym e))
  second_at v None c d None is e = absurd (no_row v c is)
  second_at v (Some j) c d None is e = did_at c d ((M.rows.act j c.b).run c.state) e

  second : (c d : Config State) → younger M c ≡ Ok d → Second c d
  second c d e = second_at (M.code c.state.pc) (M.code (c.state.pc + 4)) c d (M.rule (M.code c.state.pc) (M.code (c.state.pc + 4)) c) refl e

  -- and one of the older: between two instructions or where the younger stood, or one beat on
  abbrev First : Config State → Config State → Type 0
  First c d = ((d.a ≡ 0) × (d.b ≡ 0)) ⊎ ((c.a ≡ 3) × (d.a ≡ c.b) × (d.b ≡ 0)) ⊎ ((d.a ≡ suc c.a) × (d.b ≡ c.b))

  settled : (c : Config State) (t : State) → First c (settle M (suc c.a) c.b c.n (suc c.steps) t)
  settled c t = elim (suc c.a == 4) as (λ b. (suc c.a == 4) ≡ b
      → First c (cond b (record { a = c.b; b = 0; n = suc c.n; steps = suc c.steps; state = M.jump (t.pc + 4) t })
      (record { a = suc c.a; b = c.b; n = c.n; steps = suc c.steps; state = t }))) [
        | true ↦ λ e. inr (inl (grind (arith, nat_tests), refl, refl))
        | false ↦ λ e. inr (inr (refl, refl))
      ] refl

  done_at : (c d : Config State) (r : Result State Cause) (f : State → Config State) → ((t : State) → First c (f t)) → done M c r f ≡ Ok d → First c d
  done_at c d (Ok t) f h e = subst (First c) (ok_same e) (h t)
  done_at c d (Err w) f h e = absurd (ok_err (sym e))

  first_at : (o : Option Vector) (c d : Config State) → older_of M o c ≡ Ok d → First c d
  first_at (Some i) c d e = done_at c d (then (begin M i c.a c.state) ((M.rows.act i c.a).run)) (settle M (suc c.a) c.b c.n (suc c.steps)) (settled c) e
  first_at None c d e = done_at c d (M.other c.state) (λ t. record { a = 0; b = 0; n = suc c.n; steps = suc c.steps; state = t }) (λ t. inl (refl, refl)) e

  first : (c d : Config State) → older M c ≡ Ok d → First c d
  first c d e = first_at (M.code c.state.pc) c d e

  -- what the two letters come to
  second_goes : (m : Nested) (q : Stepped) → then (at_step 2 true (with_acts [] q)) (letters listing (bare []) 2 []) ≡ Ok m → q ≡ Ok m.config
  second_goes m (Ok g) e = ap (λ (x : Nested). Ok x.config) (ok_same e)
  second_goes m (Err w) e = absurd (ok_err (sym e))

  both_go : (m : Nested) (q : Stepped) → then (at_step 1 false (with_acts [] q)) (letters listing (bare []) 1 (younger_letter ∷ [])) ≡ Ok m
      → (d : Config State) × (q ≡ Ok d) × (younger M d ≡ Ok m.config)
  both_go m (Ok d) e = (d, refl, second_goes m (younger M d) e)
  both_go m (Err w) e = absurd (ok_err (sym e))

  -- behind both, judged by where they leave the position
  judged_end : (b : Bool) (x y : Run) (o : Outcome) → (cond b x (record y { outcome = Some o })).outcome ≡ None → b ≡ true
  judged_end true x y o e = refl
  judged_end false x y o e = absurd cc

  ended_ok : (x : Run) (r : Result Nested TickEnd) → (ended (bare []) both x r).outcome ≡ None
      → (m : Nested) × (r ≡ Ok m) × (may_end m.config.a m.config.b ≡ true)
  ended_ok x (Ok m) out =
      let y : Run = record { outcome = None; machine = m; ticks = x.ticks + 1; entries = x.entries } in
      (m, refl, judged_end (may_end m.config.a m.config.b) (after_count both y) y _ out)
  ended_ok x (Err e) out = absurd (stops_ended (x.ticks + 1) e.step e.younger e.end x.entries out)

  -- where both steps leave a position at which a tick may end, two beats of the older were done before, and none of the younger
  stood : (c d f : Config State) → First c d → Second d f → may_end c.a c.b ≡ true → may_end f.a f.b ≡ true → (c.a ≡ 2) × (c.b ≡ 0)
  stood c d f one two from to = at (ends_at c.a c.b from) (ends_at f.a f.b to) one where
    at : ((c.b ≡ 0) × (c.a < 4)) ⊎ ((c.a ≡ 3) × (c.b ≡ 1)) → ((f.b ≡ 0) × (f.a < 4)) ⊎ ((f.a ≡ 3) × (f.b ≡ 1)) → First c d → (c.a ≡ 2) × (c.b ≡ 0)
    at p (inl q) one = let none = q.0 in let some = two.b in absurd (omega arith)
    at p (inr q) (inl o) = let three = q.0 in let same = two.a in let zero_a = o.0 in absurd (omega arith)
    at (inl p) (inr q) (inr (inl o)) = let three = q.0 in let same = two.a in let back = o.1 in let none = p.0 in absurd (omega arith)
    at (inr p) (inr q) (inr (inl o)) = let three = q.0 in let same = two.a in let back = o.1 in let some = p.1 in absurd (omega arith)
    at p (inr q) (inr (inr o)) =
        let three = q.0 in let one_more = q.1 in let same = two.a in let next = two.b in let a = o.0 in let b = o.1 in (omega arith, omega arith)

  goes_ready : (x : Run) → x.outcome ≡ None → x.machine.acts ≡ [] → may_end x.machine.config.a x.machine.config.b ≡ true
      → (tick listing (bare []) both x).outcome ≡ None → IsReady M x.machine.config
  goes_ready x none quiet from out =
      let c = x.machine.config in
      let t : (ended (bare []) both x (letters listing (bare []) 0 both.letters x.machine)).outcome ≡ None
      = ap (λ (o : Option Outcome). (tick_of listing (bare []) both x o).outcome) (sym none) ∙ out in
      let e = ended_ok x (letters listing (bare []) 0 both.letters x.machine) t in
      let f = e.0.config in
      let g = both_go e.0 (older M c) (ap (letters listing (bare []) 0 both.letters) (sym (alone_is x.machine quiet)) ∙ e.1) in
      let at = stood c g.0 f (first c g.0 g.1) (second g.0 f g.2) from e.2 in
      record {
        a = at.0;
        b = at.1;
        third = g.0;
        goes = g.1;
        no_rule = rule_none M (M.rule (M.code (M.rows.view.pc g.0.state)) (M.code (M.rows.view.pc g.0.state + 4)) g.0)
            (M.code (M.rows.view.pc g.0.state + 4)) g.0 f g.2;
        first = f;
        follows = g.2;
      }

-- ---- a run without entries that is not over stands where a tick may end

abbrev Stands : Run → Type 0
Stands x = x.outcome ≡ None → may_end x.machine.config.a x.machine.config.b ≡ true

module _ (listing : Listing) (s : Sched) (none : s.entries ≡ false) where
  end_stands : (line : TickLine) (y : Run) (o : Outcome) (b : Bool) → may_end y.machine.config.a y.machine.config.b ≡ b
      → Stands (cond b (may_enter s (after_count line y)) (record y { outcome = Some o }))
  end_stands line y o true e =
      let x = after_count line y in
      subst (λ (b : Bool). Stands (cond b (enters s (picks x) x) x)) (sym none) (λ out. e)
  end_stands line y o false e = λ out. absurd cc

  ended_stands : (line : TickLine) (x : Run) (r : Result Nested TickEnd) → Stands (ended s line x r)
  ended_stands line x (Ok m) =
      end_stands line (record { outcome = None; machine = m; ticks = x.ticks + 1; entries = x.entries }) _ (may_end m.config.a m.config.b) refl
  ended_stands line x (Err e) = λ out. absurd (stops_ended (x.ticks + 1) e.step e.younger e.end x.entries out)

  tick_stands : (line : TickLine) (x : Run) (o : Option Outcome) → x.outcome ≡ o → Stands (tick_of listing s line x o)
  tick_stands line x (Some o) e = λ out. absurd cc
  tick_stands line x None e = ended_stands line x (letters listing s 0 line.letters x.machine)

  closed_stands : (left : List TickLine) (x : Run) → Stands x → Stands (closed left x)
  closed_stands [] x h = λ out. absurd (out_ends x.outcome out)
  closed_stands (line ∷ left) x h = h

  next_stands : (left : List TickLine) (x : Run) → Stands x → Stands (next listing s left x)
  next_stands [] x h = h
  next_stands (line ∷ left) x h = closed_stands left (tick listing s line x) (tick_stands line x x.outcome refl)

  run_stands : (image : List Segment) (t : ℕ) → Stands (run listing image s t)
  run_stands image zero = closed_stands (ticks_of s.lines) (begin_run image s) (λ out. refl)
  run_stands image (suc t) = next_stands (drop t (ticks_of s.lines)) (run listing image s t) (run_stands image t)

-- before a tick of a plan, where the tick of both would go on, two may overlap
pub overlaps : (listing : Listing) (image : List Segment) (n t : ℕ) (s : Sched) (line : TickLine) → s.entries ≡ false → IsGreedyAt listing image n s t line
    → (tick listing (bare []) both (run listing image s t)).outcome ≡ None → IsReady (bare_program listing) (run listing image s t).machine.config
overlaps listing image n t s line none greedy out =
    let x = run listing image s t in
    let on = runs_on n x greedy.goes in
    goes_ready listing x on (run_still listing image s t none).0 (run_stands listing s none image t on) out
