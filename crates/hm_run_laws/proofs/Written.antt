-- Which bytes a beat taints.
use Rattle.std.proofs.Common.{◌≡◌, ℕ, ◌+◌, ◌%◌, ◌^◌, ◌<◌, ◌≤◌, Bool, true, false, cond, eqb-true, nat_lt, List, [], ◌∷◌, ◌++◌, map, Option, Some, None, Ok, inl}
use Rattle.std.proofs.Common.{inr, refl, sym, ◌∙◌, ap, subst, arith, add-zero}
use Rattle.std.proofs.lemmas.Bool.Decides.{nat_tests}
use Rattle.hm_base.specs.declared.Place.{Place}
use Rattle.hm_base.specs.declared.Stop.{Stop}
use Rattle.hm_beat.specs.Laws.{Taints, WritesTaint}
use Rattle.hm_beat.specs.Ordered.{nothing, of_four}
use Rattle.hm_beat.specs.Rows.{Tree, always}
use Rattle.hm_beat.specs.Touches.{span_bytes}
use Rattle.hm_beat.specs.Trees.{Check, Leaf, action, checked, finish, reach, written}
use Rattle.hm_isa.specs.declared.Vector.{Vector}
use Rattle.hm_mem.proofs.Stops.{none_barred, no_fault}
use Rattle.hm_mem.specs.Memory.{Around, thread_under, Bounds}
use Rattle.hm_mem.specs.Seen.{fault_kind, is_denied, lies_in_sram}
use Rattle.hm_mem.specs.declared.Access.TheVariants.{Vector as VectorAccess}
use Rattle.hm_moves.proofs.Accesses.{in_sram}
use Rattle.hm_moves.proofs.Trees.{leaf_at, reach_moves}
use Rattle.hm_moves.specs.Moves.{Moves, checks_of, elements_at, fails, fill, moved_by, store_all, store_bytes, sure_stop, byte_count}
use Rattle.hm_moves.specs.Ways.{moves_by}
use Rattle.hm_moves.specs.declared.elements.Element.{Element}
use Rattle.hm_lane.specs.declared.lanes.Size.{Size}
use Rattle.hm_lane.specs.declared.lanes.Size.TheVariants as size
use Rattle.hm_mem.specs.Devices.{IsLen}
use Rattle.hm_order.proofs.Results.{decide, ok_err, ok_same, true_not_false}
use Rattle.hm_regs.specs.Writes.{Write}
use Rattle.hm_rows.proofs.Rows.{kind_laws, row_laws}
use Rattle.hm_rows.specs.Rows.{Kind, Registers, Moves as MovesKind, kind_of, tree_of, vector_tree}
use Rattle.hm_run.specs.Program.{rows}
use Rattle.hm_state.specs.State.{State, Cell, At, Byte, Value, cells, same_cell}
use Rattle.hm_state.specs.Store.{put, put_all}
use Rattle.hm_thumb.specs.Laws.{under_handler}
use Rattle.hm_run_laws.proofs.Growing.{Allowed, Grows, Nothing, all_allowed, grows_none, grows_then}
use Rattle.hm_run_laws.proofs.Laws.{caused_ok}

-- what is written are places, and such bytes
abbrev pub At_ : (ℕ → Type 0) → Cell → Type 0
At_ P (At p) = Unit {0}
At_ P (Byte a) = P a

abbrev pub WritesAt : (ℕ → Type 0) → List (Cell × (List Value → Value)) → Type 0
WritesAt P [] = Unit {0}
WritesAt P (w ∷ ws) = At_ P w.0 × WritesAt P ws

module _ (P : ℕ → Type 0) where
  put_grows : (c : Cell) (v : Value) (s : State) → At_ P c → Grows P s (put cells c v s)
  put_grows (At p) v s h a live = inl live
  put_grows (Byte b) v s h a live =
      decide (same_cell (Byte b) (Byte a))
      (λ same. inr (subst P (eqb-true b a same) h))
      (λ other. inl (sym (ap (λ (q : Bool). (cond q v (s.cell (Byte a))).taint) other) ∙ live))

  written_grows : (ws : List (Cell × (List Value → Value))) (vs : List Value) (s : State) → WritesAt P ws → Grows P s (put_all cells (written ws vs) s)
  written_grows [] vs s h = grows_none P s
  written_grows (w ∷ ws) vs s h =
      grows_then P s (put cells w.0 (w.1 vs) s) (put_all cells (written ws vs) (put cells w.0 (w.1 vs) s)) (put_grows w.0 (w.1 vs) s h.0)
      (written_grows ws vs (put cells w.0 (w.1 vs) s) h.1)

  finish_grows : (o : Option Stop) (l : Leaf Cell Value Stop) (s t : State) → (o ≡ None → WritesAt P l.writes) → finish cells o l s ≡ Ok t → Grows P s t
  finish_grows (Some e) l s t may h = absurd (ok_err (sym h))
  finish_grows None l s t may h = subst (λ (u : State). Grows P s u) (ok_same h) (λ a live. written_grows l.writes (map s.cell l.reads) s (may refl) a live)

  beat_grows : (b : Tree) (s t : State) → (checked cells (reach b s).checks s ≡ None → WritesAt P (reach b s).writes) → (action cells b).run s ≡ Ok t
      → Grows P s t
  beat_grows b s t may h = finish_grows (checked cells (reach b s).checks s) (reach b s) s t may h

  places_only : (ws : List Write) → WritesAt P (map always ws)
  places_only [] = tt
  places_only (w ∷ ws) = (tt, places_only ws)

  writes-append : (ws us : List (Cell × (List Value → Value))) → WritesAt P ws → WritesAt P us → WritesAt P (ws ++ us)
  writes-append [] us h k = k
  writes-append (w ∷ ws) us h k = (h.0, writes-append ws us h.1 k)

  fills : (i : Moves) (j : ℕ) (es : List Element) (ps : List Place) → WritesAt P (fill i j es ps)
  fills i j es [] = tt
  fills i j es (p ∷ ps) = (tt, fills i (j + 1) es ps)

-- ROWS ON REGISTERS: what they write is the same whoever accesses the memory, so they write no byte
no_byte : (P : ℕ → Type 0) (ws : List (Cell × (List Value → Value))) → WritesTaint true ws → WritesTaint false ws → WritesAt P ws
no_byte P [] h k = tt
no_byte P ((At p, f) ∷ ws) h k = (tt, no_byte P ws h.1 k.1)
no_byte P ((Byte a, f) ∷ ws) h k = absurd (true_not_false {P = ⊥} (f []).taint (h.0 []) (k.0 []))

-- ROWS THAT STORE, of a handler
module _ (frame : ℕ) (bounds : Bounds) where
  abbrev x : Around
  x = under_handler frame bounds

  abbrev May : ℕ → Type 0
  May = Allowed frame bounds

  sized : (z : Size) → IsLen (byte_count z)
  sized size.Byte = inl refl
  sized size.Half = inr (inl refl)
  sized size.Word = inr (inr refl)

  -- an address of SRAM and the bytes behind it are below 2^32
  low : (len a k : ℕ) → lies_in_sram len a ≡ true → k < len → (a + k) % 2 ^ 32 ≡ a + k
  low len a k lies l = let high : a + len ≤ 0x20040000 = grind (arith, nat_tests) in omega arith

  stored_at : (z : Size) (e : Element) → sure_stop x true (byte_count z) e.addr ≡ None → WritesAt May (store_bytes true e 0 (span_bytes e.addr (byte_count z)))
  stored_at z e free = by_size z refl
    where
      lies : lies_in_sram (byte_count z) e.addr ≡ true
      lies = in_sram false (byte_count z) e.addr
          (no_fault (fault_kind false VectorAccess true (byte_count z) e.addr) (is_denied bounds frame (byte_count z) e.addr) true e.addr free)

      allowed : is_denied bounds frame (byte_count z) e.addr ≡ false
      allowed = none_barred (fault_kind false VectorAccess true (byte_count z) e.addr) (is_denied bounds frame (byte_count z) e.addr) e.addr free

      at : (k : ℕ) → k < byte_count z → May (e.addr + k)
      at k l = all_allowed frame bounds (byte_count z) e.addr (sized z) lies allowed k l

      first : 0 < byte_count z → May e.addr
      first l = subst May (add-zero e.addr) (at 0 l)

      behind : (k : ℕ) → k < byte_count z → May ((e.addr + k) % 2 ^ 32)
      behind k l = subst May (sym (low (byte_count z) e.addr k lies l)) (at k l)

      by_size : (y : Size) → z ≡ y → WritesAt May (store_bytes true e 0 (span_bytes e.addr (byte_count z)))
      by_size size.Byte is =
          let n : byte_count z ≡ 1 = ap byte_count is in
          subst (λ (n : ℕ). WritesAt May (store_bytes true e 0 (span_bytes e.addr n))) (sym n) (first (omega arith), tt)
      by_size size.Half is =
          let n : byte_count z ≡ 2 = ap byte_count is in
          subst (λ (n : ℕ). WritesAt May (store_bytes true e 0 (span_bytes e.addr n))) (sym n) (first (omega arith), (behind 1 (omega arith), tt))
      by_size size.Word is =
          let n : byte_count z ≡ 4 = ap byte_count is in
          subst (λ (n : ℕ). WritesAt May (store_bytes true e 0 (span_bytes e.addr n))) (sym n)
          (first (omega arith), (behind 1 (omega arith), (behind 2 (omega arith), (behind 3 (omega arith), tt))))

  -- the first of its elements has no sure stop, nor have the others
  first_free : (o : Option Stop) (cs : List (Check Cell Stop)) (s : State) → checked cells ((fails o ++ []) ++ cs) s ≡ None
      → (o ≡ None) × (checked cells cs s ≡ None)
  first_free (Some e) cs s h = absurd cc
  first_free None cs s h = (refl, h)

  all_stored : (z : Size) (es : List Element) (s : State) → checked cells (checks_of x true (byte_count z) es) s ≡ None → WritesAt May (store_all true z es)
  all_stored z [] s h = tt
  all_stored z (e ∷ es) s h =
      let both = first_free (sure_stop x true (byte_count z) e.addr) (checks_of x true (byte_count z) es) s h in
      writes-append May (store_bytes true e 0 (span_bytes e.addr (byte_count z))) (store_all true z es) (stored_at z e both.0) (all_stored z es s both.1)

  moves_write : (i : Moves) (b : ℕ) (s : State) → checked cells (leaf_at i x b s).checks s ≡ None → WritesAt May (leaf_at i x b s).writes
  moves_write i b s free = writes-append May (moved_by i x b (elements_at i b s)) _ (by_store i.store refl) (places_only May _)
    where
      by_store : (y : Bool) → i.store ≡ y → WritesAt May (cond y (store_all true i.memory (elements_at i b s)) (fill i 0 (elements_at i b s) (i.words b)))
      by_store true e = all_stored i.memory (elements_at i b s) s
          (ap (λ (y : Bool). checked cells (checks_of x y (byte_count i.memory) (elements_at i b s)) s) (sym e) ∙ free)
      by_store false e = fills May i 0 (elements_at i b s) (i.words b)

-- ANY ROW
module _ (frame : ℕ) (bounds : Bounds) where
  kind_writes : (k : Kind) (b : ℕ) (s : State) → let t = tree_of k (under_handler frame bounds) b in
      checked cells (reach t s).checks s ≡ None → WritesAt (Allowed frame bounds) (reach t s).writes
  kind_writes (Registers f) b s free =
      no_byte (Allowed frame bounds) (reach (tree_of (Registers f) (under_handler frame bounds) b) s).writes
      ((kind_laws (Registers f) tt).taints (under_handler frame bounds) b s) ((kind_laws (Registers f) tt).taints (thread_under bounds) b s)
  kind_writes (MovesKind t) b s free =
      let i = moves_by t in
      let x = under_handler frame bounds in
      subst (λ (l : Leaf Cell Value Stop). WritesAt (Allowed frame bounds) l.writes) (sym (reach_moves i x b s))
      (moves_write frame bounds i b s (ap (λ (l : Leaf Cell Value Stop). checked cells l.checks s) (sym (reach_moves i x b s)) ∙ free))

  four_write : (v : Vector) (b : ℕ) (s : State) → let t = of_four (vector_tree v (under_handler frame bounds)) b in
      checked cells (reach t s).checks s ≡ None → WritesAt (Allowed frame bounds) (reach t s).writes
  four_write v b s = one_of (nat_lt b 4)
    where
      one_of : (q : Bool) → let t = cond q (vector_tree v (under_handler frame bounds) b) nothing in
          checked cells (reach t s).checks s ≡ None → WritesAt (Allowed frame bounds) (reach t s).writes
      one_of true free = kind_writes (kind_of v) b s free
      one_of false free = tt

  pub handler_beat : (v : Vector) (b : ℕ) (s t : State) → ((rows (under_handler frame bounds)).act v b).run s ≡ Ok t → Grows (Allowed frame bounds) s t
  handler_beat v b s t e =
      let tree = of_four (vector_tree v (under_handler frame bounds)) b in
      beat_grows (Allowed frame bounds) tree s t (four_write v b s) (caused_ok ((action cells tree).run s) t e)

-- THE THREAD taints none
put_clean : (c : Cell) (f : List Value → Value) (vs : List Value) (s : State) → Taints false c f → Grows Nothing s (put cells c (f vs) s)
put_clean (At p) f vs s h a live = inl live
put_clean (Byte b) f vs s h a live =
    decide (same_cell (Byte b) (Byte a))
    (λ same. true_not_false (cond (same_cell (Byte b) (Byte a)) (f vs) (s.cell (Byte a))).taint live
    (ap (λ (q : Bool). (cond q (f vs) (s.cell (Byte a))).taint) same ∙ h vs))
    (λ other. inl (sym (ap (λ (q : Bool). (cond q (f vs) (s.cell (Byte a))).taint) other) ∙ live))

written_clean : (ws : List (Cell × (List Value → Value))) (vs : List Value) (s : State) → WritesTaint false ws
    → Grows Nothing s (put_all cells (written ws vs) s)
written_clean [] vs s h = grows_none Nothing s
written_clean (w ∷ ws) vs s h =
    grows_then Nothing s (put cells w.0 (w.1 vs) s) (put_all cells (written ws vs) (put cells w.0 (w.1 vs) s)) (put_clean w.0 w.1 vs s h.0)
    (written_clean ws vs (put cells w.0 (w.1 vs) s) h.1)

finish_clean : (o : Option Stop) (l : Leaf Cell Value Stop) (s t : State) → WritesTaint false l.writes → finish cells o l s ≡ Ok t → Grows Nothing s t
finish_clean (Some e) l s t taints h = absurd (ok_err (sym h))
finish_clean None l s t taints h = subst (λ (u : State). Grows Nothing s u) (ok_same h) (λ a live. written_clean l.writes (map s.cell l.reads) s taints a live)

four_clean : (bounds : Bounds) (v : Vector) (b : ℕ) (s : State) → WritesTaint false (reach (of_four (vector_tree v (thread_under bounds)) b) s).writes
four_clean bounds v b s = one_of (nat_lt b 4)
  where
    one_of : (q : Bool) → WritesTaint false (reach (cond q (vector_tree v (thread_under bounds) b) nothing) s).writes
    one_of true = (row_laws v).taints (thread_under bounds) b s
    one_of false = tt

pub thread_beat : (bounds : Bounds) (v : Vector) (b : ℕ) (s t : State) → ((rows (thread_under bounds)).act v b).run s ≡ Ok t → Grows Nothing s t
thread_beat bounds v b s t e =
    let tree = of_four (vector_tree v (thread_under bounds)) b in
    finish_clean (checked cells (reach tree s).checks s) (reach tree s) s t (four_clean bounds v b s) (caused_ok ((action cells tree).run s) t e)
