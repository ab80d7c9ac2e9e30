-- A vector row, alone: the context that it makes, its refusal, and its four beats.
use Rattle.std.proofs.Common.{◌≡◌, ℕ, ◌+◌, Bool, true, false, not, ◌&&◌, ◌||◌, cond, ltb, nat_eq, nat_lt, Option, Some, None, Result, Ok, Err, refl, sym}
use Rattle.std.proofs.Common.{arith}
use Rattle.std.proofs.Common.{◌∙◌, ap, subst}
use Rattle.std.specs.Option.{is_none}
use Rattle.hm_base.specs.declared.Fault.{Fault}
use Rattle.hm_base.specs.declared.FaultKind.TheVariants.{InvState}
use Rattle.hm_base.specs.declared.Place.TheVariants.{Ltp}
use Rattle.hm_base.specs.declared.Stop.{Stop}
use Rattle.hm_isa.specs.declared.Vector.{Vector}
use Rattle.hm_mem.specs.Memory.{Around}
use Rattle.hm_mem.specs.declared.Actor.TheVariants.{Thread}
use Rattle.hm_order.specs.Beats.{beats, then}
use Rattle.hm_order.proofs.Results.{ok_same, ok_err, then_ok}
use Rattle.hm_state.specs.State.{State, Value, at, cells}
use Rattle.hm_state.proofs.Cells.{cell_laws}
use Rattle.hm_beat.specs.Trees.{action}
use Rattle.hm_beat.specs.Rows.{Tree, retired}
use Rattle.hm_mem.specs.Seen.{as_stops}
use Rattle.hm_beat.specs.Laws.{NoTaint}
use Rattle.hm_beat.specs.Ordered.{ordered}
use Rattle.hm_beat.proofs.NoTaint.{beats_clean}
use Rattle.hm_beat.proofs.Ordered.{whole_ordered}
use Rattle.hm_beat.proofs.Trees.{keeps_laws}
use Rattle.hm_rows.specs.Context.{with_context}
use Rattle.hm_rows.specs.Rows.{refuse, vector_tree, vector_whole, writes_lr}
use Rattle.hm_rows.proofs.Context.{context_bytes, context_pc, context_ready}
use Rattle.hm_rows.proofs.Rows.{may_run, row_laws}
use Rattle.hm_run.specs.Program.{is_ready, or_fault, ready_state, unless_refused, vector_row}

-- THE CONTEXT
pub context_clean : (s : State) → NoTaint s → NoTaint (with_context s)
context_clean s h = λ a. ap (λ (v : Value). v.taint) (context_bytes s a) ∙ h a

-- REFUSALS
-- what decides whether a row is refused: IT, LTPSIZE and FPCA
abbrev is_refused : Vector → ℕ → ℕ → Bool → Bool
is_refused v it size fpca = not (nat_eq it 0) || (writes_lr v && nat_lt size 4 && fpca)

refuse_none : (b : Bool) (f : Fault) → is_none (cond b (Some f) None) ≡ not b
refuse_none b f = grind arith

-- the same refusal
pub refuse_same : (v : Vector) (s t : State) → s.rest.it ≡ t.rest.it → at Ltp s ≡ at Ltp t → s.rest.fpca ≡ t.rest.fpca → s.pc ≡ t.pc → refuse v s ≡ refuse v t
refuse_same v s t it size fpca pc = λ j. cond (is_refused v (it j) (size j) (fpca j)) (Some (record { kind = InvState; addr = pc j })) None

-- which rows may run does not depend on the program counter
pub ready_same : (v : Vector) (s t : State) → s.rest.it ≡ t.rest.it → at Ltp s ≡ at Ltp t → s.rest.fpca ≡ t.rest.fpca → is_ready v s ≡ is_ready v t
ready_same v s t it size fpca =
    ap (λ (b : Bool). s.rest.fpca && b) (refuse_none (is_refused v s.rest.it (at Ltp s) s.rest.fpca) (record { kind = InvState; addr = s.pc }))
    ∙ (λ j. fpca j && not (is_refused v (it j) (size j) (fpca j)))
    ∙ sym (ap (λ (b : Bool). t.rest.fpca && b) (refuse_none (is_refused v t.rest.it (at Ltp t) t.rest.fpca) (record { kind = InvState; addr = t.pc })))

-- a row that may run does not write lr where lr counts elements that are left
pub ready_counts : (v : Vector) (s : State) → is_ready v s ≡ true → writes_lr v ≡ true → ltb (at Ltp s) 4 ≡ true → ⊥
ready_counts v s ready writes counts = both s.rest.fpca refl
    (ready_is ∙ (λ j. s.rest.fpca && not (not (nat_eq s.rest.it 0) || (writes j && counts j && s.rest.fpca))))
  where
    ready_is : true ≡ (s.rest.fpca && not (is_refused v s.rest.it (at Ltp s) s.rest.fpca))
    ready_is = sym ready ∙ ap (λ (b : Bool). s.rest.fpca && b)
        (refuse_none (is_refused v s.rest.it (at Ltp s) s.rest.fpca) (record { kind = InvState; addr = s.pc }))

    counted : (a : Bool) → true ≡ not (a || (true && true && true)) → ⊥
    counted true e = cc
    counted false e = cc

    both : (b : Bool) → s.rest.fpca ≡ b → true ≡ (b && not (not (nat_eq s.rest.it 0) || (true && true && b))) → ⊥
    both true e h = counted (not (nat_eq s.rest.it 0)) h
    both false e h = cc

-- a row that is not refused begins in the state with a context
pub not_refused : (o : Option Fault) (s t : State) → unless_refused o s ≡ Ok t → (o ≡ None) × (s ≡ t)
not_refused None s t e = (refl, ok_same e)
not_refused (Some f) s t e = absurd (ok_err (sym e))

-- BEATS
pub beat_pc : (b : Tree) (s t : State) → (action cells b).run s ≡ Ok t → t.pc ≡ s.pc
beat_pc b s t e = (keeps_laws cells cell_laws b).stays s t e

-- beats of a row, over the cells alone
abbrev pub row_beats : Around → Vector → ℕ → ℕ → State → Result State Stop
row_beats x = beats (ordered Vector (λ v. vector_tree v x) writes_lr)

abbrev pub retire : State → Result State Stop
retire u = Ok (retired u)

done_of : (q : Result State Fault) (t : State) → or_fault q ≡ Ok t → q ≡ Ok t
done_of (Ok s) t e = ap Ok (ok_same e)
done_of (Err f) t e = absurd (ok_err (sym e))

-- a row that is done, from the state in which it begins
pub record Begun (v : Vector) (s t : State) : Type 0 where
  pub free : refuse v (with_context s) ≡ None
  pub whole : vector_whole v (with_context s) ≡ Ok t

pub begun_of : (v : Vector) (s t : State) → vector_row v s ≡ Ok t → Begun v s t
begun_of v s t e =
    let ready = then_ok (ready_state v s) (λ u. or_fault (vector_whole v u)) t e in
    let free = not_refused (refuse v (with_context s)) (with_context s) ready.0 ready.1 in
    record { free = free.0; whole = ap (vector_whole v) free.1 ∙ done_of (vector_whole v ready.0) t ready.2 }

module _ (x : Around) (thread : x.actor ≡ Thread) where
  -- the whole of a row is its four beats
  pub four_are : (v : Vector) (s : State) → s.rest.fpca ≡ true → refuse v s ≡ None → NoTaint s → then (row_beats x v 0 4 s) retire ≡ as_stops (vector_whole v s)
  four_are v s there free clean = whole_ordered Vector vector_tree vector_whole row_laws writes_lr x thread v s (may_run v x s there free) clean

  -- it leaves no cell tainted
  whole_clean : (v : Vector) (s t : State) → s.rest.fpca ≡ true → refuse v s ≡ None → NoTaint s → vector_whole v s ≡ Ok t → NoTaint t
  whole_clean v s t there free clean e =
      let four = then_ok (row_beats x v 0 4 s) retire t (four_are v s there free clean ∙ ap as_stops e) in
      subst NoTaint (ok_same four.2) (beats_clean Vector vector_tree vector_whole row_laws writes_lr x thread v 4 0 s four.0 clean four.1)

  -- the row with its context
  pub row_leaves : (v : Vector) (s t : State) → NoTaint s → vector_row v s ≡ Ok t → NoTaint t
  row_leaves v s t clean e =
      let begun = begun_of v s t e in
      whole_clean v (with_context s) t (context_ready s) begun.free (context_clean s clean) begun.whole

-- the next instruction stands behind it
pub row_pc : (v : Vector) (s t : State) → vector_row v s ≡ Ok t → t.pc ≡ s.pc + 4
row_pc v s t e = (row_laws v).next (with_context s) t (begun_of v s t e).whole ∙ ap (λ (p : ℕ). p + 4) (context_pc s)
