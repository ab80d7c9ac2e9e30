-- The steps of the older instruction.
use Rattle.std.specs.Prelude.{IsOk}
use Rattle.std.proofs.Common.{subst, ◌≡◌, ℕ, zero, suc, ◌+◌, ◌==◌, ◌<◌, arith, ap, refl, sym, ◌∙◌, add-one, Bool, true, false, not, IsTrue, cond, List, Option}
use Rattle.std.proofs.Common.{Some, None, Result, Ok, Err}
use Rattle.std.proofs.lemmas.Bool.Decides.{nat_tests}
use Rattle.hm_base.specs.declared.Fault.{Fault}
use Rattle.hm_base.specs.declared.Stop.{Stop}
use Rattle.hm_base.specs.declared.Stop.TheVariants as stop
use Rattle.hm_beat.specs.Laws.{AnswersBeat}
use Rattle.hm_beat.specs.Ordered.{of_four}
use Rattle.hm_beat.specs.Trees.{action}
use Rattle.hm_codes.specs.Listing.{Listing}
use Rattle.hm_cpu.specs.Cpus.{config_of, state_in}
use Rattle.hm_cpu.specs.declared.cpu.Cpu.{Cpu}
use Rattle.hm_isa.specs.declared.Instr.{Instr}
use Rattle.hm_isa.specs.declared.Vector.{Vector}
use Rattle.hm_lane.specs.Predicate as lane
use Rattle.hm_mem.specs.Memory.{Around, Memory, memory_of}
use Rattle.hm_order.specs.Beats.{then}
use Rattle.hm_order.specs.Machine as order
use Rattle.hm_order.specs.Machine.{Config, begin, begun, done, older, settle}
use Rattle.hm_run_laws.proofs.Laws.{caused_ok}
use Rattle.hm_run_laws.proofs.Vectors.{beat_pc}
use Rattle.hm_regs.specs.Place.{Counted, InRange}
use Rattle.hm_regs.specs.declared.Regs.{Regs}
use Rattle.hm_rows.proofs.Context.{context_is, context_there}
use Rattle.hm_rows.specs.Context.{with_context}
use Rattle.hm_rows.specs.Rows.{refuse, vector_tree}
use Rattle.hm_run.proofs.Steps.{break_makes, makes_other, makes_row, no_row, older_vector, older_other, other_is, past}
use Rattle.hm_run.specs.declared.Cause.{Cause}
use Rattle.hm_run.specs.declared.Cause.TheVariants as cause
use Rattle.hm_run.specs.Program.{Program, breakpoint, doing_in_machine, core, done_as, with_cause, made_here, makes_here}
use Rattle.hm_run.specs.Program.{other_here, other_row, rows, unless_refused, vector_of}
use Rattle.hm_run.specs.Stops.{at_break, break_of}
use Rattle.hm_state.proofs.Beside.{pc_is}
use Rattle.hm_state.proofs.Registers.{registers_are}
use Rattle.hm_state.specs.State.{State, cells, regs_of, state_of}
use Rattle.hm_thumb.specs.Families.{is_vector_row}
use Rattle.hm_thumb.specs.Rows.{made, makes_context}
use Rattle.hm_whole.specs.Whole.{scalar_in_machine}

-- BEATS
-- the context that is made
pub context_made : (old new : Regs) (m : Memory) (output : List ℕ) → new ≡ lane.with_context old → state_of new m output ≡ with_context (state_of old m output)
context_made old new m output e = ap (λ (r : Regs). state_of r m output) e ∙ context_is old m output

-- what comes before a beat
pub begins_first : (listing : Listing) (around : Around) (v : Vector) (done : ℕ) (s t : State) (o : Option Fault)
    → done ≡ 0 → t ≡ with_context s → refuse v t ≡ o → with_cause (unless_refused o t) ≡ begin (core listing around) v done s
begins_first listing around v done s t o first made e =
    ap (λ (q : Option Fault). with_cause (unless_refused q t)) (sym e)
    ∙ ap (λ (u : State). with_cause (unless_refused (refuse v u) u)) made
    ∙ ap (λ (k : ℕ). begin (core listing around) v k s) (sym first)

-- one that stops changes nothing
pub beat_still : (q : Result State Stop) (x : Result Unit Stop) (e : Stop) (r t : Regs) (m n : Memory) (output : List ℕ)
    → x ≡ Err e → AnswersBeat q x r m t n output → (t ≡ r) × (n ≡ m)
beat_still (Ok s) x e r t m n output stop h = absurd (let no : IsOk {T = Unit {0}} {E = Stop} (Err e) = subst (λ (q : Result Unit Stop). IsOk q) stop h.0 in cc)
beat_still (Err f) x e r t m n output stop h = (h.1, h.2)

-- the beat leaves the program counter
pub beat_stays : (v : Vector) (b : ℕ) (old new : Regs) (m n : Memory) (output : List ℕ)
    → Ok (state_of new n output) ≡ ((rows m.around).act v b).run (state_of old m output) → new.pc ≡ old.pc
unfolding state_of
beat_stays v b old new m n output e =
    beat_pc (of_four (vector_tree v m.around) b) (state_of old m output) (state_of new n output)
    (caused_ok ((action cells (of_four (vector_tree v m.around) b)).run (state_of old m output)) (state_of new n output) (sym e))

-- a row that has its four beats
pub settled : (listing : Listing) (around : Around) (r : Regs) (m : Memory) (output : List ℕ) (a b n steps : ℕ) → a ≡ 4
    → record { a = b; b = 0; n = n + 1; steps = steps; state = state_of (record r { pc = r.pc + 4 }) m output }
    ≡ settle (core listing around) a b n steps (state_of r m output)
unfolding state_of
settled listing around r m output a b n steps four =
    let s : State = state_of r m output in
    let test : (a == 4) ≡ true = grind (arith, nat_tests, four) in
    let there : Config State = record { a = b; b = 0; n = suc n; steps = steps; state = record s { pc = r.pc + 4 } } in
    (λ j. record { a = b; b = 0; n = add-one n j; steps = steps; state = pc_is r m output (r.pc + 4) j })
    ∙ sym (ap (λ (q : Bool). cond q there (record { a = a; b = b; n = n; steps = steps; state = s })) test)

module _ (listing : Listing) (x : Cpu) where
  abbrev M : Program
  M = core listing (memory_of x.mem).around

  -- the context that a row makes before its first beat
  row_begun : (v : Vector) (t : State) → vector_of (listing x.regs.pc) ≡ Some v → (x.window.a ≡ 0 → t ≡ with_context (state_in x))
      → (0 < x.window.a → t ≡ state_in x)
      → begun M (config_of x) ≡ record (config_of x) { state = t }
  unfolding state_of
  row_begun v t row first later = either x.window.a refl
    where
      c : Config State
      c = config_of x

      either : (a : ℕ) → x.window.a ≡ a → begun M (config_of x) ≡ record (config_of x) { state = t }
      either zero e =
          let test : (x.window.a == 0) ≡ true = grind (arith, nat_tests, e) in
          ap (λ (q : Bool). record c { state = cond q (M.made c.state) c.state }) test
          ∙ ap (λ (q : Bool). record c { state = cond q (with_context c.state) c.state }) (makes_row (listing x.regs.pc) v (regs_of c.state) row)
          ∙ ap (λ (s : State). record c { state = s }) (sym (first e))
      either (suc a) e =
          let test : (x.window.a == 0) ≡ false = grind (arith, nat_tests, e) in
          let some : 0 < x.window.a = omega (arith, e) in
          ap (λ (q : Bool). record c { state = cond q (M.made c.state) c.state }) test ∙ ap (λ (s : State). record c { state = s }) (sym (later some))

  -- a row that is refused
  pub row_refused : (v : Vector) (t : State) (e : Cause) → vector_of (listing x.regs.pc) ≡ Some v → x.window.a ≡ 0
      → t ≡ with_context (state_in x) → Err e ≡ begin M v x.window.a (state_in x)
      → Err (order.Stopped (record { a = x.window.a; b = x.window.b; n = x.retired; steps = x.older_steps; state = t }) e) ≡ older M (config_of x)
  unfolding state_of
  row_refused v t e row first made stop =
      let c : Config State = config_of x in
      sym (older_vector listing (memory_of x.mem).around c v row
      ∙ ap (λ (r : Result State Cause). done M c (then r ((rows (memory_of x.mem).around).act v c.a).run) (settle M (suc c.a) c.b c.n (suc c.steps))) (sym stop)
      ∙ ap (λ (d : Config State). Err (order.Stopped d e)) (row_begun v t row (λ zero. made) (λ some. absurd (omega (arith, some, first)))))

  -- a beat that stops
  pub row_stops : (v : Vector) (s : State) (e : Cause) → vector_of (listing x.regs.pc) ≡ Some v
      → (x.window.a ≡ 0 → s ≡ with_context (state_in x)) → (0 < x.window.a → s ≡ state_in x)
      → Ok s ≡ begin M v x.window.a (state_in x) → Err e ≡ ((rows (memory_of x.mem).around).act v x.window.a).run s
      → Err (order.Stopped (record { a = x.window.a; b = x.window.b; n = x.retired; steps = x.older_steps; state = s }) e) ≡ older M (config_of x)
  unfolding state_of
  row_stops v s e row first later ready stop =
      let c : Config State = config_of x in
      sym (older_vector listing (memory_of x.mem).around c v row
      ∙ ap (λ (r : Result State Cause). done M c (then r ((rows (memory_of x.mem).around).act v c.a).run) (settle M (suc c.a) c.b c.n (suc c.steps)))
      (sym ready)
      ∙ ap (λ (r : Result State Cause). done M c r (settle M (suc c.a) c.b c.n (suc c.steps))) (sym stop)
      ∙ ap (λ (d : Config State). Err (order.Stopped d e)) (row_begun v s row first later))

  -- a beat that is done
  pub row_done : (v : Vector) (s t : State) (d : Config State) → vector_of (listing x.regs.pc) ≡ Some v
      → Ok s ≡ begin M v x.window.a (state_in x) → Ok t ≡ ((rows (memory_of x.mem).around).act v x.window.a).run s
      → d ≡ settle M (x.window.a + 1) x.window.b x.retired (x.older_steps + 1) t → Ok d ≡ older M (config_of x)
  unfolding state_of
  row_done v s t d row ready e there =
      let c : Config State = config_of x in
      ap Ok there
      ∙ (λ j. Ok (settle M (add-one x.window.a j) x.window.b x.retired (add-one x.older_steps j) t))
      ∙ sym (older_vector listing (memory_of x.mem).around c v row
      ∙ ap (λ (r : Result State Cause). done M c (then r ((rows (memory_of x.mem).around).act v c.a).run) (settle M (suc c.a) c.b c.n (suc c.steps)))
      (sym ready)
      ∙ ap (λ (r : Result State Cause). done M c r (settle M (suc c.a) c.b c.n (suc c.steps))) (sym e))

  -- no context is made
  unmade : (q : Bool) (s : State) → makes_here (listing x.regs.pc) (regs_of s) ≡ false
      → record (config_of x) { state = cond q (made_here (listing x.regs.pc) s) s } ≡ record (config_of x) { state = s }
  unmade true s none = ap (λ (b : Bool). record (config_of x) { state = cond b (with_context s) s }) none
  unmade false s none = refl

  -- WHERE NOTHING STANDS at the program counter
  pub none_stands : (f : Fault) → listing x.regs.pc ≡ Err f → Err (order.Stopped (config_of x) (cause.Stop (stop.Fault f))) ≡ older M (config_of x)
  unfolding state_of
  none_stands f here =
      sym (older_other listing (memory_of x.mem).around (config_of x) (ap vector_of here)
      ∙ ap (λ (z : Result Instr Fault). done M (config_of x) (other_here (memory_of x.mem).around z (state_in x)) (past (config_of x))) here
      ∙ ap (λ (d : Config State). Err (order.Stopped d (cause.Stop (stop.Fault f)))) (unmade (x.window.a == 0) (state_in x)
      (ap (λ (z : Result Instr Fault). makes_here z (regs_of (state_in x))) here)))

  -- OTHER INSTRUCTIONS
  module _ (i : Instr) (here : listing x.regs.pc ≡ Ok i) (other : IsTrue (not (is_vector_row i))) where
    row_none : vector_of (listing x.regs.pc) ≡ None
    row_none = ap vector_of here ∙ no_row i other

    -- what a step of it comes to
    other_comes : (r : Result State Cause) → other_row (doing_in_machine (memory_of x.mem).around) i (state_in x) ≡ r
        → older M (config_of x) ≡ done M (config_of x) r (past (config_of x))
    unfolding state_of
    other_comes r e =
        older_other listing (memory_of x.mem).around (config_of x) row_none
        ∙ ap (λ (z : Result Instr Fault). done M (config_of x) (other_here (memory_of x.mem).around z (state_in x)) (past (config_of x))) here
        ∙ ap (λ (r : Result State Cause). done M (config_of x) r (past (config_of x))) (other_is (memory_of x.mem).around i (state_in x) other ∙ e)

    makes_is : (r : Regs) → makes_here (listing x.regs.pc) r ≡ makes_context i r
    makes_is r = ap (λ (z : Result Instr Fault). makes_here z r) here ∙ makes_other i r other

    -- a breakpoint, and any other
    pub by_break : (k : ℕ) → Some k ≡ break_of i
        → other_row (doing_in_machine (memory_of x.mem).around) i (state_in x) ≡ breakpoint (doing_in_machine (memory_of x.mem).around) k (state_in x)
    by_break k is = ap (λ (o : Option ℕ). at_break (λ k. breakpoint (doing_in_machine (memory_of x.mem).around) k (state_in x)) o
        (done_as cause.Stop (scalar_in_machine (memory_of x.mem).around i (state_in x)))) (sym is)

    pub by_none : None ≡ break_of i
        → other_row (doing_in_machine (memory_of x.mem).around) i (state_in x) ≡ done_as cause.Stop (scalar_in_machine (memory_of x.mem).around i (state_in x))
    by_none is = ap (λ (o : Option ℕ). at_break (λ k. breakpoint (doing_in_machine (memory_of x.mem).around) k (state_in x)) o
        (done_as cause.Stop (scalar_in_machine (memory_of x.mem).around i (state_in x)))) (sym is)

    -- one that is done
    pub other_done : (t : State) → other_row (doing_in_machine (memory_of x.mem).around) i (state_in x) ≡ Ok t
        → Ok (record { a = 0; b = 0; n = x.retired + 1; steps = x.older_steps + 1; state = t }) ≡ older M (config_of x)
    unfolding state_of
    other_done t going =
        (λ j. Ok (record { a = 0; b = 0; n = add-one x.retired j; steps = add-one x.older_steps j; state = t })) ∙ sym (other_comes (Ok t) going)

    -- a breakpoint that stops: it makes no context
    pub break_stops : (k : ℕ) (e : Cause) → Some k ≡ break_of i → Err e ≡ breakpoint (doing_in_machine (memory_of x.mem).around) k (state_in x)
        → Err (order.Stopped (config_of x) e) ≡ older M (config_of x)
    unfolding state_of
    break_stops k e is stop =
        let none : makes_context i (regs_of (state_in x)) ≡ false = break_makes i (regs_of (state_in x)) (λ n. let no : Some k ≡ None = is ∙ n in cc) in
        sym (other_comes (Err e) (by_break k is ∙ sym stop)
        ∙ ap (λ (d : Config State). Err (order.Stopped d e)) (unmade (x.window.a == 0) (state_in x) (makes_is (regs_of (state_in x)) ∙ none)))

    fpca_here : (state_in x).rest.fpca ≡ x.regs.fpca
    unfolding state_of
    fpca_here = refl

    -- the context that it makes, by whether the position is before its first beat
    ready : IsTrue x.regs.fpca → with_context (state_in x) ≡ state_in x
    ready there = context_there (state_in x) (fpca_here ∙ (let is : x.regs.fpca ≡ true = cc in is))

    either_still : (b : Bool) → with_context (state_in x) ≡ state_in x → state_in x ≡ cond b (with_context (state_in x)) (state_in x)
    either_still true e = sym e
    either_still false e = refl

    by_position : (a : ℕ) → x.window.a ≡ a → (0 < x.window.a → IsTrue x.regs.fpca) → (s : State)
        → s ≡ cond (makes_context i x.regs) (with_context (state_in x)) (state_in x)
        → cond (a == 0) s (state_in x) ≡ cond (makes_context i x.regs) (with_context (state_in x)) (state_in x)
    by_position zero e context s h = h
    by_position (suc a) e context s h =
        let some : 0 < x.window.a = omega (arith, e) in
        let test : (suc a == 0) ≡ false = grind (arith, nat_tests) in
        ap (λ (q : Bool). cond q s (state_in x)) test ∙ either_still (makes_context i x.regs) (ready (context some))

    chosen : (b : Bool) → cond b (with_context (state_in x)) (state_in x) ≡ state_of (cond b (lane.with_context x.regs) x.regs) (memory_of x.mem) x.output.items
    chosen true = sym (context_is x.regs (memory_of x.mem) x.output.items)
    chosen false = refl

    made_is : InRange x.regs → Counted x.regs
        → made_here (listing x.regs.pc) (state_in x) ≡ cond (makes_context i x.regs) (with_context (state_in x)) (state_in x)
    made_is range counted =
        ap (λ (b : Bool). cond b (with_context (state_in x)) (state_in x))
        (makes_is (regs_of (state_in x)) ∙ ap (makes_context i) (registers_are x.regs (memory_of x.mem) x.output.items counted range.fpscr_fits range.vpr_fits))

    pub begun_is : InRange x.regs → Counted x.regs → (0 < x.window.a → IsTrue x.regs.fpca)
        → begun M (config_of x) ≡ record (config_of x) { state = state_of (made i x.regs) (memory_of x.mem) x.output.items }
    unfolding state_of
    begun_is range counted context =
        ap (λ (s : State). record (config_of x) { state = s })
        (by_position x.window.a refl context (made_here (listing x.regs.pc) (state_in x)) (made_is range counted) ∙ chosen (makes_context i x.regs))

    -- one that stops
    pub other_stops : (e : Cause) (t : Regs) (n : Memory) → InRange x.regs → Counted x.regs → (0 < x.window.a → IsTrue x.regs.fpca) → None ≡ break_of i
        → Err e ≡ done_as cause.Stop (scalar_in_machine (memory_of x.mem).around i (state_in x)) → t ≡ made i x.regs → n ≡ memory_of x.mem
        → Err (order.Stopped (record { a = x.window.a; b = x.window.b; n = x.retired; steps = x.older_steps; state = state_of t n x.output.items }) e)
        ≡ older M (config_of x)
    other_stops e t n range counted context none stop registers memory =
        (λ j. Err (order.Stopped (record (config_of x) { state = state_of (registers j) (memory j) x.output.items }) e))
        ∙ ap (λ (c : Config State). Err (order.Stopped c e)) (sym (begun_is range counted context))
        ∙ sym (other_comes (Err e) (by_none none ∙ sym stop))
