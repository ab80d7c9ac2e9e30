-- The steps of the older instruction to its end, between two instructions, do what the whole of the next one does alone.
use Rattle.std.proofs.Common.{◌≡◌, ℕ, zero, suc, ap, refl, sym, ◌∙◌, subst, true, Option, None, Some, Result, Ok, Err}
use Rattle.hm_base.specs.declared.Fault.{Fault}
use Rattle.hm_base.specs.declared.Stop.{Stop}
use Rattle.hm_codes.specs.Listing.{Listing}
use Rattle.hm_isa.specs.declared.Instr.{Instr}
use Rattle.hm_isa.specs.declared.Instr.TheVariants as instr
use Rattle.hm_isa.specs.declared.Vector.{Vector}
use Rattle.hm_mem.specs.Memory.{Around, thread_under}
use Rattle.hm_mem.specs.declared.Actor.TheVariants.{Thread}
use Rattle.hm_order.specs.Beats.{then}
use Rattle.hm_order.specs.Machine.{Config, Stopped, begun, done, older, settle}
use Rattle.hm_state.specs.State.{State, At, Byte, cells}
use Rattle.hm_beat.specs.Trees.{action}
use Rattle.hm_beat.specs.Laws.{NoTaint}
use Rattle.hm_beat.specs.Ordered.{of_four}
use Rattle.hm_rows.specs.Context.{with_context}
use Rattle.hm_rows.specs.Rows.{refuse, vector_tree, vector_whole}
use Rattle.hm_rows.proofs.Context.{context_pc, context_ready}
use Rattle.hm_run.specs.declared.Cause.{Cause}
use Rattle.hm_run.specs.declared.Cause.TheVariants as cause
use Rattle.hm_run.specs.Program.{Program, Stepped, alone, doing_alone, doing_in_machine, cause_of, caused, core, done_as, with_cause}
use Rattle.hm_run.specs.Program.{or_fault, other_here, other_row, ready_state, rows, steps_left, vector_of, vector_row}
use Rattle.hm_run.specs.Program.{whole_here}
use Rattle.hm_run.specs.Stops.{Faults, WholeStop, break_of}
use Rattle.hm_run.proofs.Steps.{older_other, older_vector, past}
use Rattle.hm_whole.specs.Watched as watched
use Rattle.hm_mem.specs.Seen.{as_stops}
use Rattle.hm_whole.specs.Watched.{GoesClean, In, Beside}
use Rattle.hm_whole.specs.Whole.{Went, scalar_alone}
use Rattle.hm_whole.proofs.Agreement.{whole-clean, whole-same}
use Rattle.hm_run_laws.proofs.Breakpoints.{Leaves, break_leaves, break_same, breakpoint_leaves, breakpoint_same}
use Rattle.hm_run_laws.proofs.Vectors.{beat_pc, context_clean, four_are, not_refused, retire, row_beats, row_leaves}

-- between two instructions: n are done, in k steps
abbrev pub between : ℕ → ℕ → State → Config State
between n k s = record { a = 0; b = 0; n = n; steps = k; state = s }

-- so many steps of the older instruction
abbrev pub older_steps : Program → ℕ → Config State → Stepped
older_steps M zero c = Ok c
older_steps M (suc k) c = then (older M c) (older_steps M k)

-- the older instruction to its end
abbrev pub to_end : Program → Config State → Stepped
to_end M c = older_steps M (steps_left (M.code c.state.pc) c.a) c

-- WHAT AN INSTRUCTION LEAVES: no taint
pub watched_clean : (s : State) → NoTaint s → watched.Clean s
watched_clean s h (In (At p)) = refl
watched_clean s h (In (Byte a)) = h a
watched_clean s h Beside = refl

done_leaves : (q : Result Went Fault) → GoesClean q → Leaves (done_as Faults q)
done_leaves (Ok x) h = λ a. h (In (Byte a))
done_leaves (Err f) h = tt

other_leaves : (i : Instr) (s : State) → NoTaint s → Leaves (other_row doing_alone i s)
other_leaves i s h = break_leaves _ (break_of i) (done_as Faults (scalar_alone i s)) (breakpoint_leaves s h)
    (done_leaves (scalar_alone i s) (whole-clean i s (watched_clean s h)))

module _ (around : Around) (thread : around.actor ≡ Thread) where
  row_kept : (v : Vector) (s : State) → NoTaint s → (r : Result State WholeStop) → vector_row v s ≡ r → Leaves r
  row_kept v s clean (Ok t) e = row_leaves around thread v s t clean e
  row_kept v s clean (Err w) e = tt

  pub leaves : (r : Result Instr Fault) (s : State) → NoTaint s → Leaves (whole_here r s)
  leaves (Ok (instr.Scalar i)) s h = other_leaves (instr.Scalar i) s h
  leaves (Ok (instr.Branch i)) s h = other_leaves (instr.Branch i) s h
  leaves (Ok (instr.Vector v)) s h = row_kept v s h (vector_row v s) refl
  leaves (Err f) s h = tt

-- WITHOUT TAINT an instruction that is no vector row comes in the machine to what it comes to alone
done_same : (q : Result Went Fault) → done_as cause.Stop (as_stops q) ≡ with_cause (done_as Faults q)
done_same (Ok x) = refl
done_same (Err f) = refl

pub under_thread : (x : Around) → x.actor ≡ Thread → x ≡ thread_under x.bounds
under_thread x e = λ j. record { actor = e j; bounds = x.bounds }

module _ (x : Around) (thread : x.actor ≡ Thread) where
  same_is : (i : Instr) (s : State) → NoTaint s → other_row (doing_in_machine x) i s ≡ with_cause (other_row doing_alone i s)
  same_is i s clean =
      ap (λ (y : Around). other_row (doing_in_machine y) i s) (under_thread x thread)
      ∙ break_same _ _ (break_of i) _ _ (λ k. breakpoint_same x.bounds k s clean)
      (ap (done_as cause.Stop) (whole-same x.bounds i s (watched_clean s clean)) ∙ done_same (scalar_alone i s))

  other_is : (r : Result Instr Fault) (s : State) → vector_of r ≡ None → NoTaint s → other_here x r s ≡ with_cause (whole_here r s)
  other_is (Ok (instr.Scalar i)) s none clean = same_is (instr.Scalar i) s clean
  other_is (Ok (instr.Branch i)) s none clean = same_is (instr.Branch i) s clean
  other_is (Ok (instr.Vector v)) s none clean = absurd cc
  other_is (Err f) s none clean = refl

-- STEPS to its end come to what the instruction comes to alone: it is done, in some number of steps, or it stops so and is not retired.
abbrev pub Comes : ℕ → Result State WholeStop → Stepped → Type 0
Comes n (Ok t) r = (j : ℕ) × (r ≡ Ok (between (suc n) j t))
Comes n (Err w) r = (d : Config State) × (d.n ≡ n) × (r ≡ Err (Stopped d (cause_of w)))

-- the same of beats
abbrev BeatsCome : ℕ → Result State Stop → Stepped → Type 0
BeatsCome n (Ok t) r = (j : ℕ) × (r ≡ Ok (between (suc n) j t))
BeatsCome n (Err e) r = (d : Config State) × (d.n ≡ n) × (r ≡ Err (Stopped d (cause.Stop e)))

whole_comes : (n : ℕ) (q : Result State Fault) (r : Stepped) → BeatsCome n (as_stops q) r → Comes n (or_fault q) r
whole_comes n (Ok t) r h = h
whole_comes n (Err f) r h = h

module _ (listing : Listing) (around : Around) (thread : around.actor ≡ Thread) where
  abbrev machine : Program
  machine = core listing around

  -- inside a row, a beats of which are done
  abbrev inside : ℕ → ℕ → ℕ → State → Config State
  inside a n k s = record { a = a; b = 0; n = n; steps = k; state = s }

  -- a beat, where it is known what comes behind it
  beat_comes : (v : Vector) (a j n k : ℕ) (c : Config State) (q : Result State Stop) → c.n ≡ n
      → ((t : State) → q ≡ Ok t → BeatsCome n (then (row_beats around v (suc a) j t) retire) (older_steps machine j (settle machine (suc a) 0 n (suc k) t)))
      → BeatsCome n (then (then q (row_beats around v (suc a) j)) retire)
      (then (done machine c (caused q) (settle machine (suc a) 0 n (suc k))) (older_steps machine j))
  beat_comes v a j n k c (Ok t) same next = next t refl
  beat_comes v a j n k c (Err e) same next = (begun machine c, same, refl)

  abbrev Here : Vector → State → Type 0
  Here v s = vector_of (listing s.pc) ≡ Some v

  here_still : (v : Vector) (s t : State) → Here v s → t.pc ≡ s.pc → Here v t
  here_still v s t here same = ap (λ (p : ℕ). vector_of (listing p)) same ∙ here

  -- a beat past the first
  later_beat : (v : Vector) (a j n k : ℕ) (s : State) → Here v s
      → ((t : State) → Here v t → BeatsCome n (then (row_beats around v (suc (suc a)) j t) retire)
      (older_steps machine j (settle machine (suc (suc a)) 0 n (suc k) t)))
      → BeatsCome n (then (row_beats around v (suc a) (suc j) s) retire) (older_steps machine (suc j) (inside (suc a) n k s))
  later_beat v a j n k s here next =
      let b = of_four (vector_tree v around) (suc a) in
      subst (λ (r : Stepped). BeatsCome n (then (row_beats around v (suc a) (suc j) s) retire) (then r (older_steps machine j)))
      (sym (older_vector listing around (inside (suc a) n k s) v here))
      (beat_comes v (suc a) j n k (inside (suc a) n k s) ((action cells b).run s) refl (λ t e. next t (here_still v s t here (beat_pc b s t e))))

  from_third : (v : Vector) (n k : ℕ) (s : State) → Here v s → BeatsCome n (then (row_beats around v 3 1 s) retire) (older_steps machine 1 (inside 3 n k s))
  from_third v n k s here = later_beat v 2 0 n k s here (λ t there. (suc k, refl))

  from_second : (v : Vector) (n k : ℕ) (s : State) → Here v s → BeatsCome n (then (row_beats around v 2 2 s) retire) (older_steps machine 2 (inside 2 n k s))
  from_second v n k s here = later_beat v 1 1 n k s here (λ t there. from_third v n (suc k) t there)

  from_first : (v : Vector) (n k : ℕ) (s : State) → Here v s → BeatsCome n (then (row_beats around v 1 3 s) retire) (older_steps machine 3 (inside 1 n k s))
  from_first v n k s here = later_beat v 0 2 n k s here (λ t there. from_second v n (suc k) t there)

  -- a row from its start
  row_comes : (v : Vector) (n k : ℕ) (s : State) → NoTaint s → Here v s → (q : Result State WholeStop) → ready_state v s ≡ q
      → Comes n (then q (λ t. or_fault (vector_whole v t)))
      (then (done machine (between n k s) (then (with_cause q) ((rows around).act v 0).run) (settle machine 1 0 n (suc k))) (older_steps machine 3))
  row_comes v n k s clean here (Err w) e = (begun machine (between n k s), refl, refl)
  row_comes v n k s clean here (Ok t) e =
      let free = not_refused (refuse v (with_context s)) (with_context s) t e in
      let is : with_context s ≡ t = free.1 in
      let there : t.rest.fpca ≡ true = ap (λ (u : State). u.rest.fpca) (sym is) ∙ context_ready s in
      let here_too : Here v t = here_still v s t here (ap (λ (u : State). u.pc) (sym is) ∙ context_pc s) in
      let ready : refuse v t ≡ None = ap (refuse v) (sym is) ∙ free.0 in
      let b = of_four (vector_tree v around) 0 in
      whole_comes n (vector_whole v t) _
      (subst (λ (r : Result State Stop). BeatsCome n r
      (then (done machine (between n k s) (caused ((action cells b).run t)) (settle machine 1 0 n (suc k))) (older_steps machine 3)))
      (four_are around thread v t there ready (subst NoTaint is (context_clean s clean)))
      (beat_comes v 0 3 n k (between n k s) ((action cells b).run t) refl (λ u e. from_first v n (suc k) u (here_still v t u here_too (beat_pc b t u e)))))

  row_step : (v : Vector) (n k : ℕ) (s : State) → NoTaint s → listing s.pc ≡ Ok (instr.Vector v)
      → Comes n (alone listing s) (to_end machine (between n k s))
  row_step v n k s clean e =
      let here : Here v s = ap vector_of e in
      subst (λ (r : Result Instr Fault). Comes n (whole_here r s) (to_end machine (between n k s))) (sym e)
      (subst (λ (o : Option Vector). Comes n (vector_row v s) (older_steps machine (steps_left o 0) (between n k s))) (sym here)
      (subst (λ (r : Stepped). Comes n (vector_row v s) (then r (older_steps machine 3))) (sym (older_vector listing around (between n k s) v here))
      (row_comes v n k s clean here (ready_state v s) refl)))

  -- an instruction that is no vector row
  other_comes : (n k : ℕ) (s : State) (q : Result State WholeStop)
      → Comes n q (then (done machine (between n k s) (with_cause q) (past (between n k s))) (older_steps machine 0))
  other_comes n k s (Ok t) = (suc k, refl)
  other_comes n k s (Err w) = (begun machine (between n k s), refl, refl)

  other_step : (n k : ℕ) (s : State) → NoTaint s → vector_of (listing s.pc) ≡ None
      → Comes n (alone listing s) (to_end machine (between n k s))
  other_step n k s clean none =
      subst (λ (o : Option Vector). Comes n (alone listing s) (older_steps machine (steps_left o 0) (between n k s))) (sym none)
      (subst (λ (r : Stepped). Comes n (alone listing s) (then r (older_steps machine 0)))
      (sym (older_other listing around (between n k s) none
      ∙ ap (λ (r : Result State Cause). done machine (between n k s) r (past (between n k s))) (other_is around thread (listing s.pc) s none clean)))
      (other_comes n k s (alone listing s)))

  step_of : (n k : ℕ) (s : State) → NoTaint s → (r : Result Instr Fault) → listing s.pc ≡ r
      → Comes n (alone listing s) (to_end machine (between n k s))
  step_of n k s clean (Ok (instr.Scalar i)) e = other_step n k s clean (ap vector_of e)
  step_of n k s clean (Ok (instr.Branch i)) e = other_step n k s clean (ap vector_of e)
  step_of n k s clean (Ok (instr.Vector v)) e = row_step v n k s clean e
  step_of n k s clean (Err f) e = other_step n k s clean (ap vector_of e)

  -- the whole of the next instruction, in one step or in four
  pub whole_step : (n k : ℕ) (s : State) → NoTaint s → Comes n (alone listing s) (to_end machine (between n k s))
  whole_step n k s clean = step_of n k s clean (listing s.pc) refl
