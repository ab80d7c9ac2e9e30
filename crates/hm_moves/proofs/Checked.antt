-- The checks of the code are those of the tree.
use Rattle.std.proofs.Common.{◌≡◌, ℕ, ◌+◌, Bool, true, false, not, cond, ◌||◌, ◌&&◌, List, [], ◌∷◌, ◌++◌, Option, Some, None, Result, Ok, Err, refl, sym, ◌∙◌}
use Rattle.std.proofs.Common.{ap, subst, arith}
use Rattle.std.specs.Result.{result_err}
use Rattle.std.specs.Option.{option_or}
use Rattle.hm_base.specs.declared.FaultKind.{FaultKind}
use Rattle.hm_base.specs.declared.Stop.{Stop}
use Rattle.hm_base.specs.declared.Stop.TheVariants as stop
use Rattle.hm_regs.specs.declared.Regs.{Regs}
use Rattle.hm_lane.specs.declared.lanes.Size.{Size}
use Rattle.hm_lane.specs.declared.lanes.Size.TheVariants as size
use Rattle.hm_mem.specs.declared.Access.TheVariants.{Vector}
use Rattle.hm_mem.specs.declared.Actor.{Actor}
use Rattle.hm_mem.specs.declared.Actor.TheVariants.{Thread, Handler, Entry}
use Rattle.hm_mem.specs.Memory.{Memory, tainted_at}
use Rattle.hm_mem.specs.Seen.{fault_kind, is_barred, is_denied, is_thread, lies_in_memory, seen, some_byte, stop_after, stop_of}
use Rattle.hm_state.specs.State.{Cell, State, Value, cells, state_of}
use Rattle.hm_beat.specs.Trees.{Check, Leaf, checked, finish}
use Rattle.hm_beat.specs.Touches.{span_bytes}
use Rattle.hm_beat.specs.Laws.{Checks, run}
use Rattle.hm_moves.specs.declared.elements.Element.{Element}
use Rattle.hm_moves.specs.Coded.{first_stop}
use Rattle.hm_moves.specs.Moves.{Moves, asks, checks_of, element_checks, elements_at, fails, is_closed, moves_tree, byte_count}
use Rattle.hm_moves.proofs.Accesses.{in_memory, within}
use Rattle.hm_moves.proofs.Trees.{leaf_at, reach_moves}

abbrev pub any_tainted : Memory → List ℕ → Bool
any_tainted m [] = false
any_tainted m (b ∷ bs) = tainted_at m b || any_tainted m bs

checked_asks : (m : Memory) (r : Regs) (output : List ℕ) (a : ℕ) (bs : List ℕ) (cs : List (Check Cell Stop))
    → checked cells (asks a bs ++ cs) (state_of r m output) ≡ cond (any_tainted m bs) (Some (stop.Tainted a)) (checked cells cs (state_of r m output))
unfolding state_of
checked_asks m r output a [] cs = refl
checked_asks m r output a (b ∷ bs) cs = ap (λ o. cond (tainted_at m b) (Some (stop.Tainted a)) o) (checked_asks m r output a bs cs)
    ∙ twice (tainted_at m b) (any_tainted m bs)
  where
    twice : (p q : Bool) → cond p (Some (stop.Tainted a)) (cond q (Some (stop.Tainted a)) (checked cells cs (state_of r m output)))
        ≡ cond (p || q) (Some (stop.Tainted a)) (checked cells cs (state_of r m output))
    twice true q = refl
    twice false q = refl

pub four_bytes : (p q r s : Bool) → (p || (q || (r || (s || false)))) ≡ ((p || q) || (r || s))
four_bytes true q r s = refl
four_bytes false true r s = refl
four_bytes false false true s = refl
four_bytes false false false true = refl
four_bytes false false false false = refl

pub two_bytes : (p q : Bool) → (p || (q || false)) ≡ ((p || q) || false)
two_bytes true q = refl
two_bytes false true = refl
two_bytes false false = refl

pub one_byte : (p : Bool) → (p || false) ≡ ((p || false) || false)
one_byte true = refl
one_byte false = refl

any_byte : (m : Memory) (z : Size) (a : ℕ) → lies_in_memory (byte_count z) a ≡ true
    → any_tainted m (span_bytes a (byte_count z)) ≡ some_byte (byte_count z) (tainted_at m) a
any_byte m size.Byte a h = one_byte (tainted_at m a)
any_byte m size.Half a h =
    ap (λ b. tainted_at m a || (tainted_at m b || false)) (within size.Half a 1 h (omega arith))
    ∙ two_bytes (tainted_at m a) (tainted_at m (a + 1))
any_byte m size.Word a h =
    (λ j. tainted_at m a || (tainted_at m (within size.Word a 1 h (omega arith) j)
    || (tainted_at m (within size.Word a 2 h (omega arith) j) || (tainted_at m (within size.Word a 3 h (omega arith) j) || false))))
    ∙ four_bytes (tainted_at m a) (tainted_at m (a + 1)) (tainted_at m (a + 2)) (tainted_at m (a + 3))

module _ (m : Memory) (r : Regs) (output : List ℕ) (store : Bool) (z : Size) (a : ℕ) (cs : List (Check Cell Stop)) where
  abbrev s : State
  s = state_of r m output

  abbrev rest : Option Stop
  rest = checked cells cs s

  closed : (q : Option Stop) → checked cells ((fails q ++ []) ++ cs) s ≡ option_or q rest
  closed None = refl
  closed (Some e) = refl

  tainted : (y : Bool) → cond y (Some (stop.Tainted a)) rest ≡ option_or (stop_after None y false a) rest
  tainted true = refl
  tainted false = refl

  by_actor : (o : Option FaultKind) (who : Actor) → (o ≡ None → lies_in_memory (byte_count z) a ≡ true)
      → checked cells ((fails (stop_after o (is_closed who m.around.bounds store (byte_count z) a) store a)
      ++ cond (is_thread who && not store) (asks a (span_bytes a (byte_count z))) []) ++ cs) s
      ≡ option_or (stop_after o (is_barred who m.around.bounds store (byte_count z) a (seen m)) store a) rest
  by_actor (Some k) who h = refl
  by_actor None Entry h = refl
  by_actor None (Handler f) h = closed (stop_after None (store && is_denied m.around.bounds f (byte_count z) a) store a)
  by_actor None Thread h = by_store store
    where
      by_store : (y : Bool) → checked cells ((fails (stop_after None false y a) ++ cond (true && not y) (asks a (span_bytes a (byte_count z))) []) ++ cs) s
          ≡ option_or (stop_after None (not y && lies_in_memory (byte_count z) a && some_byte (byte_count z) (tainted_at m) a) y a) rest
      by_store true = refl
      by_store false =
          checked_asks m r output a (span_bytes a (byte_count z)) cs
          ∙ (λ j. cond (any_byte m z a (h refl) j) (Some (stop.Tainted a)) rest)
          ∙ tainted (some_byte (byte_count z) (tainted_at m) a)
          ∙ ap (λ y. option_or (stop_after None (y && some_byte (byte_count z) (tainted_at m) a) false a) rest) (sym (h refl))

  pub element_checked : checked cells (element_checks m.around store (byte_count z) a ++ cs) s
      ≡ option_or (stop_of m.around Vector store (byte_count z) a (seen m)) rest
  element_checked = by_actor (fault_kind (is_thread m.around.actor) Vector store (byte_count z) a) m.around.actor
      (λ e. (in_memory (is_thread m.around.actor) store (byte_count z) a e).0)

pub all_checked : (m : Memory) (r : Regs) (output : List ℕ) (store : Bool) (z : Size) (es : List Element)
    → checked cells (checks_of m.around store (byte_count z) es) (state_of r m output) ≡ first_stop m.around store (byte_count z) es (seen m)
all_checked m r output store z [] = refl
all_checked m r output store z (e ∷ es) =
    element_checked m r output store z e.addr (checks_of m.around store (byte_count z) es)
    ∙ ap (option_or (stop_of m.around Vector store (byte_count z) e.addr (seen m))) (all_checked m r output store z es)

-- the run of a beat, by the stop of the code
pub run_checked : (i : Moves) (b : ℕ) (m : Memory) (r : Regs) (output : List ℕ) (es : List Element) → es ≡ elements_at i b (state_of r m output)
    → run (moves_tree i m.around b) r m output
    ≡ finish cells (first_stop m.around i.store (byte_count i.memory) es (seen m)) (leaf_at i m.around b (state_of r m output)) (state_of r m output)
run_checked i b m r output es h =
    let s = state_of r m output in
    ap (λ (l : Leaf Cell Value Stop). finish cells (checked cells l.checks s) l s) (reach_moves i m.around b s)
    ∙ ap (λ o. finish cells o (leaf_at i m.around b s) s)
    (all_checked m r output i.store i.memory (elements_at i b s) ∙ ap (λ xs. first_stop m.around i.store (byte_count i.memory) xs (seen m)) (sym h))

-- a beat that stops
pub run_stopped : (i : Moves) (b : ℕ) (m : Memory) (r : Regs) (output : List ℕ) (es : List Element) (e : Stop) → es ≡ elements_at i b (state_of r m output)
    → Some e ≡ first_stop m.around i.store (byte_count i.memory) es (seen m) → run (moves_tree i m.around b) r m output ≡ Err e
run_stopped i b m r output es e same h =
    let s = state_of r m output in
    run_checked i b m r output es same ∙ ap (λ o. finish cells o (leaf_at i m.around b s) s) (sym h)

checks_as : {A : Type 0} (o : Option Stop) (l : Leaf Cell Value Stop) (s : State) (x : Result A Stop) → result_err x ≡ o → Checks (finish cells o l s) x
checks_as None l s (Ok v) h = refl
checks_as None l s (Err e) h = cc
checks_as (Some f) l s (Ok v) h = cc
checks_as (Some f) l s (Err e) h = ap Err (some_same h)
  where
    some_same : {e f : Stop} → Some e ≡ Some f → e ≡ f
    some_same h = cc

pub check_exact : {A : Type 0} (i : Moves) (b : ℕ) (m : Memory) (r : Regs) (output : List ℕ) (es : List Element) (x : Result A Stop)
    → es ≡ elements_at i b (state_of r m output)
    → result_err x ≡ first_stop m.around i.store (byte_count i.memory) es (seen m) → Checks (run (moves_tree i m.around b) r m output) x
check_exact i b m r output es x h e =
    let s = state_of r m output in
    subst (λ y. Checks y x) (sym (run_checked i b m r output es h))
    (checks_as (first_stop m.around i.store (byte_count i.memory) es (seen m)) (leaf_at i m.around b s) s x e)
