-- Breakpoints: in the machine and alone.
use Rattle.std.proofs.Common.{◌≡◌, ℕ, ◌+◌, ◌++◌, ap, refl, subst, Bool, true, false, cond, length, nat_lt, List, Option, Some, None, Result, Ok, Err, inl, inr}
use Rattle.std.proofs.Common.{◌⊎◌, ◌∙◌}
use Rattle.hm_base.specs.declared.Fault.{Fault}
use Rattle.hm_base.specs.declared.Stop.{Stop}
use Rattle.hm_mem.specs.Memory.{thread_under, Bounds}
use Rattle.hm_order.specs.Beats.{AlikeAs, Live, StopsBy, then}
use Rattle.hm_regs.specs.declared.Regs.{Regs}
use Rattle.hm_beat.specs.Laws.{NoTaint}
use Rattle.hm_run.specs.declared.Cause.{Cause}
use Rattle.hm_run.specs.declared.Cause.TheVariants as cause
use Rattle.hm_run.specs.declared.Reason.{Reason}
use Rattle.hm_run.specs.declared.Reason.TheVariants.{Break}
use Rattle.hm_run.specs.Program.{answered, asks, breakpoint, doing_alone, doing_in_machine, cause_of, caused, with_cause}
use Rattle.hm_run.specs.Program.{is_tainted_cause, itself, most_output, or_fault, printed}
use Rattle.hm_run.specs.Stops as why
use Rattle.hm_run.specs.Stops.{WholeStop, at_break}
use Rattle.hm_state.specs.State.{State, regs_of}
use Rattle.hm_thumb.specs.Calls.{Asked, Writes, Exits, asked}
use Rattle.hm_thumb.specs.Does as runner
use Rattle.hm_mem.specs.Seen.{as_stops}
use Rattle.hm_thumb.specs.Laws.{ReadsAlike}
use Rattle.hm_thumb.specs.Steps.{settled}
use Rattle.hm_thumb.specs.declared.Way.TheVariants as way
use Rattle.hm_thumb.proofs.Texts.{asked-live, asked-same}
use Rattle.hm_whole.specs.Watched.{view}
use Rattle.hm_whole.specs.Whole.{seen_in, state_with}
use Rattle.hm_whole.proofs.Agreement.{pc_agrees, same_output, same_regs, seen_live, states_agree}

-- from states that agree where the first is live: in the machine it stops as tainted, or does what it does alone
abbrev pub AlikeBoth : Result State Cause → Result State WholeStop → Type 0
AlikeBoth r q = AlikeAs cause_of (λ u v. Live view u v × (u.pc ≡ v.pc)) r q

abbrev pub TaintedOrAlike : Result State Cause → Result State WholeStop → Type 0
TaintedOrAlike r q = StopsBy is_tainted_cause r ⊎ AlikeBoth r q

pub break_alike : (f : ℕ → Result State Cause) (g : ℕ → Result State WholeStop) (o : Option ℕ) (r : Result State Cause) (q : Result State WholeStop)
    → ((k : ℕ) → TaintedOrAlike (f k) (g k)) → TaintedOrAlike r q → TaintedOrAlike (at_break f o r) (at_break g o q)
break_alike f g (Some k) r q h l = h k
break_alike f g None r q h l = l

-- what a breakpoint asks: from states that agree where the first is live
printed_alike : (b c : Bool) (u v : State) → b ≡ c → Live view u v × (u.pc ≡ v.pc)
    → AlikeBoth (cond b (Err cause.Full) (Ok u)) (cond c (Err why.Full) (Ok v))
printed_alike true true u v e h = refl
printed_alike true false u v e h = absurd cc
printed_alike false true u v e h = absurd cc
printed_alike false false u v e h = h

served_alike : (f : Asked → Result State Cause) (g : Asked → Result State WholeStop) (r : Result Asked Stop) (q : Result Asked Fault)
    → ((x : Asked) → AlikeBoth (f x) (g x)) → ReadsAlike r q → TaintedOrAlike (then (caused r) f) (then (or_fault q) g)
served_alike f g (Ok x) (Ok y) h (inl l) = absurd l
served_alike f g (Ok x) (Ok y) h (inr l) = inr (subst (λ z. AlikeBoth (f x) (g z)) l (h x))
served_alike f g (Ok x) (Err e) h (inl l) = absurd l
served_alike f g (Ok x) (Err e) h (inr l) = absurd l
served_alike f g (Err e) (Ok y) h (inl l) = inl l
served_alike f g (Err e) (Ok y) h (inr l) = absurd l
served_alike f g (Err e) (Err d) h (inl l) = inl l
served_alike f g (Err e) (Err d) h (inr l) = inr (ap cause.Stop l)

breakpoint_alike : (b : Bool) (reason : Reason) (r : Result State Cause) (q : Result State WholeStop) → TaintedOrAlike r q
    → TaintedOrAlike (cond b r (Err (cause.Halt reason))) (cond b q (Err (why.Halt reason)))
breakpoint_alike true reason r q h = h
breakpoint_alike false reason r q h = inr refl

module _ (s t : State) (live : Live view s t) (at : s.pc ≡ t.pc) where
  answered_alike : (x : Asked) → AlikeBoth (answered cause_of s x) (answered itself t x)
  answered_alike (Writes xs) =
      let same : s.rest.output ≡ t.rest.output = same_output s t live in
      let r = settled 2 way.On (regs_of s) in
      let q = settled 2 way.On (regs_of t) in
      let regs : r ≡ q = ap (settled 2 way.On) (same_regs s t live at) in
      let out : s.rest.output ++ xs ≡ t.rest.output ++ xs = ap (λ o. o ++ xs) same in
      printed_alike _ _ _ _ (ap (λ o. nat_lt most_output (length o + length xs)) same) (
        states_agree r q regs (seen_in s) (seen_in t) (seen_live s t live) s.rest.around t.rest.around _ _ out,
        pc_agrees r q regs (seen_in s) (seen_in t) (seen_live s t live) s.rest.around t.rest.around _ _ out,
      )
  answered_alike (Exits reason) = refl

  pub asked_alike : (bounds : Bounds) (k : ℕ) → TaintedOrAlike (breakpoint (doing_in_machine (thread_under bounds)) k s) (breakpoint doing_alone k t)
  asked_alike bounds k =
      breakpoint_alike (asks k) (Break k) _ _
      (served_alike (answered cause_of s) (answered itself t) _ _ answered_alike
      (subst (λ (r : Regs). ReadsAlike (asked (runner.in_machine (thread_under bounds)) (regs_of s) (seen_in s)) (asked runner.alone r (seen_in t)))
      (same_regs s t live at)
      (asked-live bounds (seen_in s) (seen_in t) (seen_live s t live) (regs_of s))))

-- WHAT IT LEAVES: no taint
abbrev pub Leaves : Result State WholeStop → Type 0
Leaves (Ok t) = NoTaint t
Leaves (Err w) = Unit {0}

pub break_leaves : (f : ℕ → Result State WholeStop) (o : Option ℕ) (r : Result State WholeStop) → ((k : ℕ) → Leaves (f k)) → Leaves r → Leaves (at_break f o r)
break_leaves f (Some k) r h l = h k
break_leaves f None r h l = l

module _ (s : State) (clean : NoTaint s) where
  printed_leaves : (b : Bool) (xs : List ℕ) → Leaves (cond b (Err why.Full) (Ok (printed xs s)))
  unfolding state_with
  printed_leaves true xs = tt
  printed_leaves false xs = clean

  answered_leaves : (x : Asked) → Leaves (answered itself s x)
  answered_leaves (Writes xs) = printed_leaves _ xs
  answered_leaves (Exits reason) = tt

  served_leaves : (q : Result Asked Fault) → Leaves (then (or_fault q) (answered itself s))
  served_leaves (Ok x) = answered_leaves x
  served_leaves (Err f) = tt

  either_leaves : (b : Bool) (reason : Reason) (r : Result State WholeStop) → Leaves r → Leaves (cond b r (Err (why.Halt reason)))
  either_leaves true reason r h = h
  either_leaves false reason r h = tt

  pub breakpoint_leaves : (k : ℕ) → Leaves (breakpoint doing_alone k s)
  breakpoint_leaves k = either_leaves (asks k) (Break k) _ (served_leaves _)

-- WITHOUT TAINT it comes in the machine to what it comes to alone
pub break_same : (f : ℕ → Result State Cause) (g : ℕ → Result State WholeStop) (o : Option ℕ) (r : Result State Cause) (q : Result State WholeStop)
    → ((k : ℕ) → f k ≡ with_cause (g k)) → r ≡ with_cause q → at_break f o r ≡ with_cause (at_break g o q)
break_same f g (Some k) r q h l = h k
break_same f g None r q h l = l

room_same : (b : Bool) (u : State) → cond b (Err cause.Full) (Ok u) ≡ with_cause (cond b (Err why.Full) (Ok u))
room_same true u = refl
room_same false u = refl

answered_same : (s : State) (x : Asked) → answered cause_of s x ≡ with_cause (answered itself s x)
answered_same s (Writes xs) = room_same _ (printed xs s)
answered_same s (Exits reason) = refl

served_same : (s : State) (q : Result Asked Fault) → then (caused (as_stops q)) (answered cause_of s) ≡ with_cause (then (or_fault q) (answered itself s))
served_same s (Ok x) = answered_same s x
served_same s (Err f) = refl

either_same : (b : Bool) (reason : Reason) (r : Result State Cause) (q : Result State WholeStop) → r ≡ with_cause q
    → cond b r (Err (cause.Halt reason)) ≡ with_cause (cond b q (Err (why.Halt reason)))
either_same true reason r q h = h
either_same false reason r q h = refl

pub breakpoint_same : (bounds : Bounds) (k : ℕ) (s : State) → NoTaint s
    → breakpoint (doing_in_machine (thread_under bounds)) k s ≡ with_cause (breakpoint doing_alone k s)
breakpoint_same bounds k s clean =
    either_same (asks k) (Break k) _ _
    (ap (λ q. then (caused q) (answered cause_of s)) (asked-same bounds (seen_in s) clean (regs_of s))
    ∙ served_same s (asked runner.alone (regs_of s) (seen_in s)))
