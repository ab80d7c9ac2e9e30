-- Which bytes an instruction that is no vector row taints.
use Rattle.std.proofs.Common.{◌≡◌, ◌⊎◌, ℕ, zero, suc, ◌+◌, ◌-◌, ◌<◌, ◌≤◌, Bool, true, false, cond, not, ◌&&◌, ◌||◌, List, [], ◌∷◌, length, Option, Some, None}
use Rattle.std.proofs.Common.{Result, Ok, Err, inl, inr, ⊎_elim, refl, sym, ◌∙◌, ap, subst, arith, add-zero}
use Rattle.std.proofs.lemmas.Bool.{and_parts, not-false}
use Rattle.std.proofs.lemmas.Bool.Decides.{nat_tests}
use Rattle.hm_base.specs.declared.Stop.{Stop}
use Rattle.hm_isa.specs.declared.Instr.{Instr}
use Rattle.hm_mem.specs.Devices.{IsLen, sets_pending, device_word}
use Rattle.hm_mem.specs.Memory.{Around, thread_under, Bounds}
use Rattle.hm_mem.specs.Seen.{Seen, after_load, after_store, covers, fault_kind, is_allowed, is_denied, lies_in_sram, marks, some_byte}
use Rattle.hm_mem.specs.Seen.{stop_of}
use Rattle.hm_base.specs.Results.{unless}
use Rattle.hm_mem.specs.declared.Access.{Access}
use Rattle.hm_mem.proofs.Stops.{none_barred, neither_stops}
use Rattle.hm_order.proofs.Results.{decide, ok_err, ok_same, true_not_false}
use Rattle.hm_state.specs.State.{State, Byte, regs_of}
use Rattle.hm_regs.specs.declared.Regs.{Regs}
use Rattle.hm_thumb.specs.Does.{Does, Ends, Faults, Loads, Stores, Done, after_loads, after_stores, behind, first_stop, in_machine, run, words}
use Rattle.hm_thumb.specs.Laws.{under_handler}
use Rattle.hm_isa.specs.Code.{width_of}
use Rattle.hm_thumb.specs.Rows.{in_block}
use Rattle.hm_thumb.specs.Steps.{Stepped, finish, step}
use Rattle.hm_whole.specs.Whole.{Went, goes_from, scalar_in_machine, seen_in, state_with}
use Rattle.hm_run_laws.specs.Blocks.{EndsKeep}
use Rattle.hm_run_laws.proofs.Instructions.{block-keep}

-- a byte that is tainted in t is tainted in s, or one of these
abbrev pub SeenGrows : (ℕ → Type 0) → Seen → Seen → Type 0
SeenGrows P s t = (a : ℕ) → t.taint a ≡ true → (s.taint a ≡ true) ⊎ P a

abbrev pub Grows : (ℕ → Type 0) → State → State → Type 0
Grows P s t = (a : ℕ) → (t.cell (Byte a)).taint ≡ true → ((s.cell (Byte a)).taint ≡ true) ⊎ P a

-- none is
abbrev pub Nothing : ℕ → Type 0
Nothing a = ⊥

-- a byte to which a handler with this frame may store
abbrev pub Allowed : ℕ → Bounds → ℕ → Type 0
Allowed frame bounds a = is_allowed bounds frame a ≡ true

pub seen_none : (P : ℕ → Type 0) (s : Seen) → SeenGrows P s s
seen_none P s a h = inl h

seen_then : (P : ℕ → Type 0) (s t u : Seen) → SeenGrows P s t → SeenGrows P t u → SeenGrows P s u
seen_then P s t u h k a e = ⊎_elim (λ f. h a f) (λ p. inr p) (k a e)

pub grows_none : (P : ℕ → Type 0) (s : State) → Grows P s s
grows_none P s a h = inl h

pub grows_then : (P : ℕ → Type 0) (s t u : State) → Grows P s t → Grows P t u → Grows P s u
grows_then P s t u h k a e = ⊎_elim (λ f. h a f) (λ p. inr p) (k a e)

-- BYTES OF AN ACCESS
or_first : (x y : Bool) → (x || y) ≡ false → x ≡ false
or_first true y h = absurd cc
or_first false y h = refl

or_second : (x y : Bool) → (x || y) ≡ false → y ≡ false
or_second true y h = absurd cc
or_second false y h = h

module _ (p : ℕ → Bool) (a : ℕ) where
  at_once : p a ≡ false → p (a + 0) ≡ false
  at_once h = subst (λ (n : ℕ). p n ≡ false) (sym (add-zero a)) h

  one : some_byte 1 p a ≡ false → (k : ℕ) → k < 1 → p (a + k) ≡ false
  one h zero l = at_once (or_first (p a) _ (or_first _ _ h))
  one h (suc k) l = absurd (omega arith)

  two : some_byte 2 p a ≡ false → (k : ℕ) → k < 2 → p (a + k) ≡ false
  two h zero l = at_once (or_first (p a) _ (or_first _ _ h))
  two h (suc zero) l = or_second (p a) _ (or_first _ _ h)
  two h (suc (suc k)) l = absurd (omega arith)

  four : some_byte 4 p a ≡ false → (k : ℕ) → k < 4 → p (a + k) ≡ false
  four h zero l = at_once (or_first (p a) _ (or_first _ _ h))
  four h (suc zero) l = or_second (p a) _ (or_first _ _ h)
  four h (suc (suc zero)) l = or_first (p (a + 2)) _ (or_second _ _ h)
  four h (suc (suc (suc zero))) l = or_second (p (a + 2)) _ (or_second _ _ h)
  four h (suc (suc (suc (suc k)))) l = absurd (omega arith)

  -- none of the bytes of an access is so
  pub free_at : (len : ℕ) → IsLen len → some_byte len p a ≡ false → (k : ℕ) → k < len → p (a + k) ≡ false
  free_at len (inl e) h k l = one (subst (λ (n : ℕ). some_byte n p a ≡ false) e h) k (subst (λ (n : ℕ). k < n) e l)
  free_at len (inr (inl e)) h k l = two (subst (λ (n : ℕ). some_byte n p a ≡ false) e h) k (subst (λ (n : ℕ). k < n) e l)
  free_at len (inr (inr e)) h k l = four (subst (λ (n : ℕ). some_byte n p a ≡ false) e h) k (subst (λ (n : ℕ). k < n) e l)

-- ONE STORE
-- of a handler, which may
module _ (frame : ℕ) (bounds : Bounds) where
  abbrev x : Around
  x = under_handler frame bounds

  -- the bytes of an access that is not denied, in SRAM
  pub all_allowed : (len a : ℕ) → IsLen len → lies_in_sram len a ≡ true → is_denied bounds frame len a ≡ false → (k : ℕ) → k < len
      → Allowed frame bounds (a + k)
  all_allowed len a is lies free k l =
      let bytes : some_byte len (λ b. not (is_allowed bounds frame b)) a ≡ false
      = sym (ap (λ (q : Bool). cond q (some_byte len (λ b. not (is_allowed bounds frame b)) a) (not (sets_pending (device_word a)))) lies) ∙ free in
      not-false (is_allowed bounds frame (a + k)) (free_at (λ b. not (is_allowed bounds frame b)) a len is bytes k l)

  store_grows : (how : Access) (len a v : ℕ) (s : Seen) → IsLen len → stop_of x how true len a s ≡ None
      → SeenGrows (Allowed frame bounds) s (after_store true len a v s)
  store_grows how len a v s is free b tainted =
      decide (lies_in_sram len a && covers a len b)
      (λ there.
      let covered : covers a len b ≡ true = (and_parts (lies_in_sram len a) (covers a len b) there).1 in
      let low : a ≤ b = grind (arith, nat_tests) in
      let high : b < a + len = grind (arith, nat_tests) in
      let k : b - a < len = omega arith in
      let at : a + (b - a) ≡ b = omega arith in
      inr (subst (Allowed frame bounds) at
      (all_allowed len a is (and_parts (lies_in_sram len a) (covers a len b) there).0
      (none_barred (fault_kind false how true len a) (is_denied bounds frame len a) a free) (b - a) k)))
      (λ other. inl (sym (ap (λ (q : Bool). cond q true (s.taint b)) other) ∙ tainted))

-- of the thread, which taints none
thread_store : (len a v : ℕ) (s : Seen) → SeenGrows Nothing s (after_store false len a v s)
thread_store len a v s b tainted =
    decide (lies_in_sram len a && covers a len b)
    (λ there. true_not_false (cond (lies_in_sram len a && covers a len b) false (s.taint b)) tainted (ap (λ (q : Bool). cond q false (s.taint b)) there))
    (λ other. inl (sym (ap (λ (q : Bool). cond q false (s.taint b)) other) ∙ tainted))

-- A PROGRAM OF ACCESSES
loads_taint : (len n a : ℕ) (s : Seen) (b : ℕ) → (after_loads len n a s).taint b ≡ s.taint b
loads_taint len zero a s b = refl
loads_taint len (suc n) a s b = loads_taint len n (behind len a) (after_load a s) b

-- under who accesses the memory: a store that does not stop taints such bytes alone, and its stop does not look at the memory
module _ (x : Around) (P : ℕ → Type 0)
    (store : (how : Access) (len a v : ℕ) (s : Seen) → IsLen len → stop_of x how true len a s ≡ None → SeenGrows P s (after_store (marks x.actor) len a v s))
    (blind : (how : Access) (len a : ℕ) (s t : Seen) → stop_of x how true len a t ≡ None → stop_of x how true len a s ≡ None) where
  stores_grow : (how : Access) (len a : ℕ) (xs : List ℕ) (s t : Seen) → IsLen len → first_stop (in_machine x) how true len (length xs) a t ≡ None
      → SeenGrows P s (after_stores (marks x.actor) len a xs s)
  stores_grow how len a [] s t is h = seen_none P s
  stores_grow how len a (v ∷ vs) s t is h =
      let both = neither_stops (stop_of x how true len a t) (first_stop (in_machine x) how true len (length vs) (behind len a) t) h in
      let one = after_store (marks x.actor) len a v s in
      seen_then P s one (after_stores (marks x.actor) len (behind len a) vs one) (store how len a v s is (blind how len a s t both.0))
      (stores_grow how len (behind len a) vs (after_store (marks x.actor) len a v s) t is both.1)

  abbrev DoneGrows : Seen → Result Done Stop → Type 0
  DoneGrows s (Ok d) = SeenGrows P s d.seen
  DoneGrows s (Err e) = Unit {0}

  later : (s t : Seen) (r : Result Done Stop) → SeenGrows P s t → DoneGrows t r → DoneGrows s r
  later s t (Ok d) h k = seen_then P s t d.seen h k
  later s t (Err e) h k = tt

  unless_grows : (s : Seen) (o : Option Stop) (r : Result Done Stop) → (o ≡ None → DoneGrows s r) → DoneGrows s (unless o r)
  unless_grows s (Some e) r h = tt
  unless_grows s None r h = h refl

  run_grows : (r : Regs) (d : Does) → EndsKeep r d → (s : Seen) → DoneGrows s (run (in_machine x) d s)
  run_grows r (Ends w q) is s = seen_none P s
  run_grows r (Faults k a) is s = tt
  run_grows r (Loads how len n a f) is s =
      unless_grows s _ _ (λ e. later s (after_loads len n a s) _ (λ b h. inl (sym (loads_taint len n a s b) ∙ h))
      (run_grows r (f (words len n a s)) (is (words len n a s)) (after_loads len n a s)))
  run_grows r (Stores how len a xs d) is s =
      unless_grows s _ _ (λ e. later s (after_stores (marks x.actor) len a xs s) _ (stores_grow how len a xs s s is.0 e)
      (run_grows r d is.1 (after_stores (marks x.actor) len a xs s)))

  finish_grows : (n : ℕ) (s : Seen) (r : Result Done Stop) → DoneGrows s r → (y : Stepped) → finish n r ≡ Ok y → SeenGrows P s y.seen
  finish_grows n s (Ok d) h y e = subst (λ (z : Stepped). SeenGrows P s z.seen) (ok_same e) h
  finish_grows n s (Err f) h y e = absurd (ok_err (sym e))

  goes_grows : (s : State) (q : Result Stepped Stop) → ((y : Stepped) → q ≡ Ok y → SeenGrows P (seen_in s) y.seen) → (y : Went) → goes_from s q ≡ Ok y
      → Grows P s y.state
  unfolding state_with
  goes_grows s (Ok q) h y e = subst (λ (z : Went). Grows P s z.state) (ok_same e) (h q refl)
  goes_grows s (Err f) h y e = absurd (ok_err (sym e))

  pub scalar_grows : (i : Instr) (s : State) (y : Went) → scalar_in_machine x i s ≡ Ok y → Grows P s y.state
  scalar_grows i s y e =
      goes_grows s (step (in_machine x) i (regs_of s) (seen_in s))
      (λ z f. finish_grows (width_of i) (seen_in s) (run (in_machine x) (in_block i (regs_of s)) (seen_in s))
      (run_grows (regs_of s) (in_block i (regs_of s)) (block-keep i (regs_of s)) (seen_in s)) z f) y e

pub handler_scalar : (frame : ℕ) (bounds : Bounds) (i : Instr) (s : State) (y : Went) → scalar_in_machine (under_handler frame bounds) i s ≡ Ok y
    → Grows (Allowed frame bounds) s y.state
handler_scalar frame bounds = scalar_grows (under_handler frame bounds) (Allowed frame bounds) (store_grows frame bounds) (λ how len a s t h. h)

pub thread_scalar : (bounds : Bounds) (i : Instr) (s : State) (y : Went) → scalar_in_machine (thread_under bounds) i s ≡ Ok y → Grows Nothing s y.state
thread_scalar bounds = scalar_grows (thread_under bounds) Nothing (λ how len a v s is h. thread_store len a v s) (λ how len a s t h. h)
