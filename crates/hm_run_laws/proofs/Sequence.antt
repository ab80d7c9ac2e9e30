-- The two words for whole instructions in order say the same.
use Rattle.std.proofs.Common.{◌≡◌, ◌↔◌, ℕ, zero, suc, ◌+◌, ◌<◌, ◌≤◌, arith, ap, refl, sym, ◌∙◌, subst, List, Result, Ok, Err, add-one}
use Rattle.hm_base.specs.Image.{Segment}
use Rattle.hm_base.specs.declared.Fault.{Fault}
use Rattle.hm_codes.specs.Listing.{Listing}
use Rattle.hm_mem.specs.Memory.{Around}
use Rattle.hm_order.specs.Beats.{then}
use Rattle.hm_order.specs.Machine.{next, seq}
use Rattle.hm_order.proofs.Results.{ok_same, ok_err}
use Rattle.hm_run.specs.declared.Reason.{Reason}
use Rattle.hm_run.specs.InOrder.{InOrder, Running, Halted, Full, Faulted, after, one_more, in_order}
use Rattle.hm_run.specs.Program.{Program, alone, core}
use Rattle.hm_run.specs.Stops as why
use Rattle.hm_run.specs.Stops.{WholeStop}
use Rattle.hm_state.specs.Start.{start}
use Rattle.hm_state.specs.State.{State}
use Rattle.hm_run_laws.specs.Sequence.{StopsFrom, FaultsAt}
use Rattle.hm_run_laws.proofs.Laws.{next_is}

-- a number of instructions that an order tells is no more than were asked for
abbrev Bounded : ℕ → InOrder → Type 0
Bounded n (Running s) = Unit {0}
Bounded n (Halted reason k s) = k ≤ n
Bounded n (Full k s) = k ≤ n
Bounded n (Faulted kind pc addr k) = k < n

bounded_after : (n : ℕ) (s : State) (r : Result State WholeStop) → Bounded (suc n) (after n s r)
bounded_after n s (Ok t) = tt
bounded_after n s (Err (why.Halt reason)) = omega arith
bounded_after n s (Err why.Full) = omega arith
bounded_after n s (Err (why.Faults f)) = omega arith

module _ (listing : Listing) where
  bounded_more : (n : ℕ) (y : InOrder) → Bounded n y → Bounded (suc n) (one_more listing n y)
  bounded_more n (Running s) h = bounded_after n s (alone listing s)
  bounded_more n (Halted reason k s) h = omega arith
  bounded_more n (Full k s) h = omega arith
  bounded_more n (Faulted kind pc addr k) h = omega arith

  pub bounded : (image : List Segment) (n : ℕ) → Bounded n (in_order listing image n)
  bounded image zero = tt
  bounded image (suc n) = bounded_more n (in_order listing image n) (bounded image n)

module _ (listing : Listing) (image : List Segment) (around : Around) where
  abbrev machine : Program
  machine = core listing around

  -- both go on, in one state, or neither does
  abbrev Joined : Result State WholeStop → InOrder → Type 0
  Joined (Ok s) (Running t) = s ≡ t
  Joined (Ok s) (Halted reason k t) = ⊥
  Joined (Ok s) (Full k t) = ⊥
  Joined (Ok s) (Faulted kind pc addr k) = ⊥
  Joined (Err w) (Running t) = ⊥
  Joined (Err w) (Halted reason k t) = Unit {0}
  Joined (Err w) (Full k t) = Unit {0}
  Joined (Err w) (Faulted kind pc addr k) = Unit {0}

  joined_after : (n : ℕ) (s : State) (r : Result State WholeStop) → Joined r (after n s r)
  joined_after n s (Ok t) = refl
  joined_after n s (Err (why.Halt reason)) = tt
  joined_after n s (Err why.Full) = tt
  joined_after n s (Err (why.Faults f)) = tt

  joined_more : (n : ℕ) (r : Result State WholeStop) (y : InOrder) → Joined r y → Joined (then r (next machine)) (one_more listing n y)
  joined_more n (Ok s) (Running t) h =
      subst (λ (q : Result State WholeStop). Joined q (after n t (alone listing t))) (sym (next_is listing around t) ∙ ap (next machine) (sym h))
      (joined_after n t (alone listing t))
  joined_more n (Ok s) (Halted reason k t) h = absurd h
  joined_more n (Ok s) (Full k t) h = absurd h
  joined_more n (Ok s) (Faulted kind pc addr k) h = absurd h
  joined_more n (Err w) (Running t) h = absurd h
  joined_more n (Err w) (Halted reason k t) h = tt
  joined_more n (Err w) (Full k t) h = tt
  joined_more n (Err w) (Faulted kind pc addr k) h = tt

  joined : (n : ℕ) → Joined (seq machine n (start image)) (in_order listing image n)
  joined zero = refl
  joined (suc n) = joined_more n (seq machine n (start image)) (in_order listing image n) (joined n)

  to_running : (r : Result State WholeStop) (y : InOrder) (s : State) → Joined r y → r ≡ Ok s → y ≡ Running s
  to_running (Ok u) (Running t) s h e = ap Running (sym h ∙ ok_same e)
  to_running (Ok u) (Halted reason k t) s h e = absurd h
  to_running (Ok u) (Full k t) s h e = absurd h
  to_running (Ok u) (Faulted kind pc addr k) s h e = absurd h
  to_running (Err w) y s h e = absurd (ok_err (sym e))

  from_running : (r : Result State WholeStop) (y : InOrder) (s : State) → Joined r y → y ≡ Running s → r ≡ Ok s
  from_running (Ok u) (Running t) s h e = let same : t ≡ s = cc in ap Ok (h ∙ same)
  from_running (Ok u) (Halted reason k t) s h e = absurd h
  from_running (Ok u) (Full k t) s h e = absurd h
  from_running (Ok u) (Faulted kind pc addr k) s h e = absurd h
  from_running (Err w) (Running t) s h e = absurd h
  from_running (Err w) (Halted reason k t) s h e = absurd cc
  from_running (Err w) (Full k t) s h e = absurd cc
  from_running (Err w) (Faulted kind pc addr k) s h e = absurd cc

  -- THE FIRST LAW: they go on alike
  pub runs_to : (n : ℕ) (s : State) → seq machine n (start image) ≡ Ok s → in_order listing image n ≡ Running s
  runs_to n s e = to_running (seq machine n (start image)) (in_order listing image n) s (joined n) e

  pub runs_from : (n : ℕ) (s : State) → in_order listing image n ≡ Running s → seq machine n (start image) ≡ Ok s
  runs_from n s e = from_running (seq machine n (start image)) (in_order listing image n) s (joined n) e

  pub running : (n : ℕ) (s : State) → (seq machine n (start image) ≡ Ok s) ↔ (in_order listing image n ≡ Running s)
  running n s = (runs_to n s, runs_from n s)

  -- and they stop alike
  pub stop_to : (n : ℕ) (s : State) (w : WholeStop) → StopsFrom machine (start image) n s w → in_order listing image (n + 1) ≡ after n s (Err w)
  stop_to n s w h =
      ap (in_order listing image) (add-one n) ∙ ap (one_more listing n) (runs_to n s h.runs)
      ∙ ap (after n s) (sym (next_is listing around s) ∙ h.stop)

  -- what a stop of the instruction after n can only come from
  record From (n : ℕ) (y : InOrder) : Type 0 where
    state : State
    runs : in_order listing image n ≡ Running state
    is : after n state (alone listing state) ≡ y

  abbrev Next : ℕ → InOrder → Type 0
  Next n (Running s) = Unit {0}
  Next n (Halted reason k s) = k ≡ n + 1
  Next n (Full k s) = k ≡ n + 1
  Next n (Faulted kind pc addr k) = k ≡ n

  from_at : (n : ℕ) (x y : InOrder) → in_order listing image n ≡ x → Bounded n x → one_more listing n x ≡ y → Next n y → From n y
  from_at n (Running s) y e b h k = record { state = s; runs = e; is = h }
  from_at n (Halted reason i s) y e b h k = let same : Next n (Halted reason i s) = subst (Next n) (sym h) k in absurd (omega arith)
  from_at n (Full i s) y e b h k = let same : Next n (Full i s) = subst (Next n) (sym h) k in absurd (omega arith)
  from_at n (Faulted kind pc addr i) y e b h k = let same : Next n (Faulted kind pc addr i) = subst (Next n) (sym h) k in absurd (omega arith)

  from : (n : ℕ) (y : InOrder) → in_order listing image (n + 1) ≡ y → Next n y → From n y
  from n y e k = from_at n (in_order listing image n) y refl (bounded listing image n) (ap (in_order listing image) (sym (add-one n)) ∙ e) k

  abbrev Halts : ℕ → State → Reason → State → Result State WholeStop → Type 0
  Halts n u reason s r = after n u r ≡ Halted reason (n + 1) s → (u ≡ s) × (r ≡ Err (why.Halt reason))

  halts_from : (n : ℕ) (u : State) (reason : Reason) (s : State) (r : Result State WholeStop) → Halts n u reason s r
  halts_from n u reason s (Ok t) e = absurd cc
  halts_from n u reason s (Err (why.Halt other)) e = let same : other ≡ reason = cc in (cc, ap (λ (q : Reason). Err (why.Halt q)) same)
  halts_from n u reason s (Err why.Full) e = absurd cc
  halts_from n u reason s (Err (why.Faults f)) e = absurd cc

  full_from : (n : ℕ) (u s : State) (r : Result State WholeStop) → after n u r ≡ Full (n + 1) s → (u ≡ s) × (r ≡ Err why.Full)
  full_from n u s (Ok t) e = absurd cc
  full_from n u s (Err (why.Halt other)) e = absurd cc
  full_from n u s (Err why.Full) e = (cc, refl)
  full_from n u s (Err (why.Faults f)) e = absurd cc

  fault_from : (n : ℕ) (u : State) (f : Fault) (pc : ℕ) (r : Result State WholeStop) → after n u r ≡ Faulted f.kind pc f.addr n
      → (u.pc ≡ pc) × (r ≡ Err (why.Faults f))
  fault_from n u f pc (Ok t) e = absurd cc
  fault_from n u f pc (Err (why.Halt other)) e = absurd cc
  fault_from n u f pc (Err why.Full) e = absurd cc
  fault_from n u f pc (Err (why.Faults g)) e =
      let kind : g.kind ≡ f.kind = cc in
      let addr : g.addr ≡ f.addr = cc in
      (cc, λ i. Err (why.Faults (record { kind = kind i; addr = addr i })))

  stops_from : (n : ℕ) (u s : State) (w : WholeStop) → in_order listing image n ≡ Running u → u ≡ s → alone listing u ≡ Err w
      → StopsFrom machine (start image) n s w
  stops_from n u s w runs same stop = subst (λ (x : State). StopsFrom machine (start image) n x w) same
      (record { runs = runs_from n u runs; stop = next_is listing around u ∙ stop })

  pub halted : (n : ℕ) (reason : Reason) (s : State)
      → StopsFrom machine (start image) n s (why.Halt reason) ↔ (in_order listing image (n + 1) ≡ Halted reason (n + 1) s)
  halted n reason s = (
    stop_to n s (why.Halt reason),
    λ e.
        let h = from n (Halted reason (n + 1) s) e refl in
        let k = halts_from n h.state reason s (alone listing h.state) h.is in
        stops_from n h.state s (why.Halt reason) h.runs k.0 k.1,
  )

  pub full : (n : ℕ) (s : State) → StopsFrom machine (start image) n s why.Full ↔ (in_order listing image (n + 1) ≡ Full (n + 1) s)
  full n s = (
    stop_to n s why.Full,
    λ e.
        let h = from n (Full (n + 1) s) e refl in
        let k = full_from n h.state s (alone listing h.state) h.is in
        stops_from n h.state s why.Full h.runs k.0 k.1,
  )

  pub faulted : (n : ℕ) (f : Fault) (pc : ℕ)
      → FaultsAt machine (start image) n f pc ↔ (in_order listing image (n + 1) ≡ Faulted f.kind pc f.addr n)
  faulted n f pc = (
    λ h. stop_to n h.state (why.Faults f) h.stops ∙ ap (λ (p : ℕ). Faulted f.kind p f.addr n) h.at,
    λ e.
        let h = from n (Faulted f.kind pc f.addr n) e refl in
        let k = fault_from n h.state f pc (alone listing h.state) h.is in
        record { state = h.state; stops = stops_from n h.state h.state (why.Faults f) h.runs refl k.1; at = k.0 },
  )
