-- Where the elements that are active in the state are moved by the thread, and nothing is tainted, it is the whole instruction.
use Rattle.std.specs.List.{flat_map}
use Rattle.std.proofs.Common.{◌≡◌, ℕ, zero, suc, ◌+◌, ◌++◌, Bool, true, false, cond, List, [], ◌∷◌, Option, None, Result, Ok, refl, sym, ◌∙◌, ap, arith}
use Rattle.std.proofs.Common.{append_assoc}
use Rattle.std.specs.Option.{option_or}
use Rattle.hm_base.specs.declared.Fault.{Fault}
use Rattle.hm_base.specs.declared.Stop.{Stop}
use Rattle.hm_lane.specs.Lanes.{unlanes, words}
use Rattle.hm_lane.specs.declared.lanes.Size.{Size}
use Rattle.hm_lane.specs.declared.lanes.Size.TheVariants as size
use Rattle.hm_mem.specs.declared.Access.TheVariants.{Vector}
use Rattle.hm_mem.specs.declared.Actor.TheVariants.{Thread}
use Rattle.hm_mem.specs.Devices.{byte_of}
use Rattle.hm_mem.specs.Memory.{Around}
use Rattle.hm_mem.specs.Seen.{as_stops, fault_kind, marks}
use Rattle.hm_base.specs.Results.{unless}
use Rattle.hm_base.proofs.Results.{unless_ok}
use Rattle.hm_order.specs.Beats.{then}
use Rattle.hm_order.proofs.Results.{ok_same}
use Rattle.hm_state.specs.Store.{put, put_all}
use Rattle.hm_state.specs.State.{At, Byte, Cell, State, Value, cells, same_cell}
use Rattle.hm_beat.specs.Laws.{NoTaint}
use Rattle.hm_beat.specs.Rows.{advance_half, retired, write_words}
use Rattle.hm_beat.specs.Touches.{span_bytes}
use Rattle.hm_kinds.proofs.Row.{pc-put_all}
use Rattle.hm_moves.specs.declared.elements.Element.{Element}
use Rattle.hm_moves.specs.Moves.{fault_after, byte_count}
use Rattle.hm_moves.specs.Ways.{Found, Transfer, at_addresses, at_offsets, contiguous, each_from, interleaved, registers}
use Rattle.hm_moves.specs.Wholes.{addresses, are_moved, count, element_bytes, fault_of, filled_registers, loaded, loaded_elements, number_bytes, part_word}
use Rattle.hm_moves.specs.Wholes.{stored_elements, taken_by, transfer_whole, transferred, written_back}
use Rattle.hm_moves.proofs.Stored.{rest-put_all, sticky-put_all}
use Rattle.hm_moves.proofs.Trees.{checked_clean, fault_stop, or_faults}
use Rattle.hm_beat_laws.specs.Exceptions.{element_stop, mark, marked}
use Rattle.hm_beat_laws.specs.MovedParts.{first_among, loaded_among, moved_among, transfer_among, untainted}
use Rattle.hm_beat_laws.proofs.MovedParts.{marked-append, marked_words}
use Rattle.hm_beat_laws.proofs.Stops.{all_checked, no_fault, or_none}

-- STOPS ARE FAULTS
where_fault : (p : Bool) (o : Option Fault) → cond p (fault_stop o) None ≡ fault_stop (cond p o None)
where_fault p o = grind arith

module _ (x : Around) (store : Bool) (y : Size) (s : State) (thread : x.actor ≡ Thread) (clean : NoTaint s) where
  stop_is : (a : ℕ) → element_stop x store y s a ≡ fault_stop (fault_after (fault_kind true Vector store (byte_count y) a) a)
  stop_is a =
      let e : Element = record { addr = a; word = 0; lane = 0 } in
      sym (or_none (element_stop x store y s a)) ∙ sym (all_checked x store y (e ∷ []) s) ∙ checked_clean x store (byte_count y) (e ∷ []) s thread clean
      ∙ ap fault_stop (or_none (fault_after (fault_kind true Vector store (byte_count y) a) a))

  first_is : (ps : List Bool) (addrs : List ℕ) → first_among (element_stop x store y s) ps addrs ≡ fault_stop (fault_of store (byte_count y) ps addrs)
  first_is [] addrs = refl
  first_is (p ∷ ps) [] = refl
  first_is (p ∷ ps) (a ∷ addrs) =
      let o = fault_after (fault_kind true Vector store (byte_count y) a) a in
      (λ j. option_or (cond p (stop_is a j) None) (first_is ps addrs j))
      ∙ ap (λ q. option_or q (fault_stop (fault_of store (byte_count y) ps addrs))) (where_fault p o)
      ∙ or_faults (cond p o None) (fault_of store (byte_count y) ps addrs)

-- WHAT IS MOVED
clean_number : (x k : ℕ) (bs : List ℕ) → marked false (number_bytes x k bs) ≡ number_bytes x k bs
clean_number x k [] = refl
clean_number x k (a ∷ bs) = ap (λ ws. (Byte a, record { n = byte_of x k; taint = false }) ∷ ws) (clean_number x (k + 1) bs)

clean_bytes : (y : Size) (ps : List Bool) (addrs xs : List ℕ) → marked false (element_bytes y ps addrs xs) ≡ element_bytes y ps addrs xs
clean_bytes y [] addrs xs = refl
clean_bytes y (p ∷ ps) [] xs = refl
clean_bytes y (p ∷ ps) (a ∷ addrs) [] = refl
clean_bytes y (p ∷ ps) (a ∷ addrs) (x ∷ xs) =
    let bs = span_bytes a (byte_count y) in
    marked-append false (cond p (number_bytes x 0 bs) []) (element_bytes y ps addrs xs) ∙ (λ j. go p bs j ++ clean_bytes y ps addrs xs j)
  where
    go : (q : Bool) (bs : List ℕ) → marked false (cond q (number_bytes x 0 bs) []) ≡ cond q (number_bytes x 0 bs) []
    go true bs = clean_number x 0 bs
    go false bs = refl

-- registers get no taint
clean_turns : (d k : ℕ) (parts : ℕ → List ℕ) (i n : ℕ)
    → marked false (flat_map (λ j. write_words (d + j) k (parts j)) (each_from (λ j. j) i n))
    ≡ flat_map (λ j. write_words (d + j) k (parts j)) (each_from (λ j. j) i n)
clean_turns d k parts i zero = refl
clean_turns d k parts i (suc n) =
    marked-append false (write_words (d + i) k (parts i)) (flat_map (λ j. write_words (d + j) k (parts j)) (each_from (λ j. j) (i + 1) n))
    ∙ (λ j. marked_words false (d + i) k (parts i) j ++ clean_turns d k parts (i + 1) n j)

clean_registers : (z : Size) (w : Found) (xs : List ℕ) → marked false (filled_registers z w xs) ≡ filled_registers z w xs
clean_registers z (contiguous d n offset before back) xs = marked_words false d 0 (words (unlanes z xs))
clean_registers z (at_offsets d n m scale) xs = marked_words false d 0 (words (unlanes z xs))
clean_registers z (at_addresses d m offset back) xs = marked_words false d 0 (words (unlanes z xs))
clean_registers z (interleaved d n four part back) xs =
    clean_turns d (part_word four part) (λ i. words (unlanes z (taken_by (count z) (registers four) i xs))) 0 (registers four)

clean_transferred : (t : Transfer) (ps : List Bool) (addrs : List ℕ) (s : State) → marked false (transferred t ps addrs s) ≡ transferred t ps addrs s
clean_transferred t ps addrs s = go t.store
  where
    go : (y : Bool) → (let ws = cond y (element_bytes t.memory ps addrs (stored_elements t.register t.found s))
        (filled_registers t.register t.found (loaded_elements (loaded t s) ps addrs)) in marked false ws ≡ ws)
    go true = clean_bytes t.memory ps addrs (stored_elements t.register t.found s)
    go false = clean_registers t.register t.found (loaded_elements (loaded t s) ps addrs)

-- where all are moved nothing stays
all_loaded : (y z : Size) (d n : ℕ) (four : Bool) (part : ℕ) (back : Bool) (v : ℕ → ℕ) (s : State)
    → (let w = interleaved d n four part back in
    loaded_among v (are_moved z w s) (addresses y z w s) (stored_elements z w s) ≡ loaded_elements v (are_moved z w s) (addresses y z w s))
all_loaded y size.Byte d n four part back v s = refl
all_loaded y z d n four part back v s = refl

all_moved : (store : Bool) (y z : Size) (sign : Bool) (w : Found) (s : State)
    → (let t : Transfer = record { store = store; memory = y; register = z; signed = sign; found = w } in
    moved_among t (are_moved z w s) (addresses y z w s) s ≡ transferred t (are_moved z w s) (addresses y z w s) s)
all_moved store y z sign (contiguous d n offset before back) s = refl
all_moved store y z sign (at_offsets d n m scale) s = refl
all_moved store y z sign (at_addresses d m offset back) s = refl
all_moved true y z sign (interleaved d n four part back) s = refl
all_moved false y z sign (interleaved d n four part back) s =
    let w = interleaved d n four part back in
    let t : Transfer = record { store = false; memory = y; register = z; signed = sign; found = w } in
    ap (filled_registers z w) (all_loaded y z d n four part back (loaded t s) s)

-- of the active elements as much is moved as of the whole
moved_all : (t : Transfer) (s : State)
    → (let ps = are_moved t.register t.found s in let addrs = addresses t.memory t.register t.found s in moved_among t ps addrs s ≡ transferred t ps addrs s)
moved_all t s = all_moved t.store t.memory t.register t.signed t.found s

moved_is : (x : Around) (t : Transfer) (s : State) → x.actor ≡ Thread
    → (let ps = are_moved t.register t.found s in let addrs = addresses t.memory t.register t.found s in
    marked (marks x.actor) (moved_among t ps addrs s) ≡ transferred t ps addrs s)
moved_is x t s thread =
    let ps = are_moved t.register t.found s in
    let addrs = addresses t.memory t.register t.found s in
    (λ j. marked (marks (thread j)) (moved_all t s j)) ∙ clean_transferred t ps addrs s

as_stop : (o : Option Fault) (u : State) → ◌≡◌ {A = Result State Stop} (unless (fault_stop o) (Ok u)) (as_stops (unless o (Ok u)))
as_stop o u = grind arith

-- what is done where these are the writes of registers and bytes
abbrev after : Transfer → State → List (Cell × Value) → State
after t s ws = retired (put_all cells (ws ++ written_back t.found s ++ advance_half 0 s ++ advance_half 2 s) s)

pub moved_whole : (x : Around) (t : Transfer) (s : State) → x.actor ≡ Thread → NoTaint s
    → transfer_among x (are_moved t.register t.found s) t s ≡ as_stops (transfer_whole t s)
moved_whole x t s thread clean =
    let ps = are_moved t.register t.found s in
    let addrs = addresses t.memory t.register t.found s in
    (λ j. unless (first_is x t.store t.memory s thread clean ps addrs j) (Ok (after t s (moved_is x t s thread j))))
    ∙ as_stop (fault_of t.store (byte_count t.memory) ps addrs) (after t s (transferred t ps addrs s))

-- WHERE NO ELEMENT STOPS
module _ (x : Around) (t : Transfer) (s u : State) (h : transfer_among x (are_moved t.register t.found s) t s ≡ Ok u) where
  abbrev ones : List Bool
  ones = are_moved t.register t.found s

  abbrev places : List ℕ
  places = addresses t.memory t.register t.found s

  abbrev written : List (Cell × Value)
  written = marked (marks x.actor) (moved_among t ones places s)

  is_done : (first_among (element_stop x t.store t.memory s) ones places ≡ None) × (after t s written ≡ u)
  is_done = let ran = unless_ok (first_among (element_stop x t.store t.memory s) ones places) (Ok (after t s written)) u h in (ran.0, ok_same ran.1)

  whole_runs : transfer_whole t s ≡ Ok (after t s (transferred t ones places s))
  whole_runs = λ j. unless (no_fault x t.store t.memory s ones places is_done.0 j) (Ok (after t s (transferred t ones places s)))

  pub moved_live : x.actor ≡ Thread → transfer_whole t s ≡ Ok u
  moved_live thread = whole_runs ∙ (λ j. Ok (after t s (sym (moved_is x t s thread) j))) ∙ ap Ok is_done.1

-- states that are the same but for the taint of bytes
abbrev AreLike : State → State → Type 0
AreLike s v = (c : Cell) → mark false c (s.cell c) ≡ mark false c (v.cell c)

like_put : (m : Bool) (d c : Cell) (v y z : Value) → mark false c y ≡ mark false c z
    → mark false c (cond (same_cell d c) (mark m d v) y) ≡ mark false c (cond (same_cell d c) v z)
like_put m (At p) (At q) v y z h = ap (λ e. cond (same_cell (At p) (At q)) v e) h
like_put m (At p) (Byte b) v y z h = h
like_put m (Byte a) (At q) v y z h = h
like_put m (Byte a) (Byte b) v y z h = go (same_cell (Byte a) (Byte b))
  where
    go : (i : Bool) → mark false (Byte b) (cond i (mark m (Byte a) v) y) ≡ mark false (Byte b) (cond i v z)
    go true = refl
    go false = h

like_marked : (m : Bool) (ws us : List (Cell × Value)) (s v : State) → AreLike s v → AreLike (put_all cells (marked m ws ++ us) s) (put_all cells (ws ++ us) v)
like_marked m [] us s v h = like_all us s v h
  where
    same : (y : Bool) (c : Cell) (w p q : Value) → mark false c p ≡ mark false c q → mark false c (cond y w p) ≡ mark false c (cond y w q)
    same true c w p q e = refl
    same false c w p q e = e

    like_all : (us : List (Cell × Value)) (s v : State) → AreLike s v → AreLike (put_all cells us s) (put_all cells us v)
    like_all [] s v h = h
    like_all (w ∷ us) s v h = like_all us (put cells w.0 w.1 s) (put cells w.0 w.1 v) (λ c. same (same_cell w.0 c) c w.1 (s.cell c) (v.cell c) (h c))
like_marked m (w ∷ ws) us s v h =
    like_marked m ws us (put cells w.0 (mark m w.0 w.1) s) (put cells w.0 w.1 v) (λ c. like_put m w.0 c w.1 (s.cell c) (v.cell c) (h c))

one_list : (ws us vs ts : List (Cell × Value)) → (ws ++ us ++ vs ++ ts) ≡ (ws ++ (us ++ vs ++ ts))
one_list ws us vs ts = ap (λ xs. xs ++ ts) (append_assoc ws us vs) ∙ append_assoc ws (us ++ vs) ts

same_but_taint : (m : Bool) (t : Transfer) (s : State) (ws : List (Cell × Value)) → untainted (after t s (marked m ws)) ≡ untainted (after t s ws)
same_but_taint m t s ws =
    let rest = written_back t.found s ++ advance_half 0 s ++ advance_half 2 s in
    let left = marked m ws ++ rest in
    let right = ws ++ rest in
    (λ j. untainted (retired (put_all cells (one_list (marked m ws) (written_back t.found s) (advance_half 0 s) (advance_half 2 s) j) s)))
    ∙ (λ j. record {
      cell = λ c. like_marked m ws rest s s (λ d. refl) c j;
      sticky = (sticky-put_all left s ∙ sym (sticky-put_all right s)) j;
      pc = (pc-put_all left s ∙ sym (pc-put_all right s)) j + 4;
      rest = (rest-put_all left s ∙ sym (rest-put_all right s)) j;
    })
    ∙ (λ j. untainted (retired (put_all cells (sym (one_list ws (written_back t.found s) (advance_half 0 s) (advance_half 2 s)) j) s)))

pub moved_untainted : (x : Around) (t : Transfer) (s u : State) → transfer_among x (are_moved t.register t.found s) t s ≡ Ok u
    → ◌≡◌ {A = Result State Fault} (then (transfer_whole t s) (λ w. Ok (untainted w))) (Ok (untainted u))
moved_untainted x t s u h =
    ap (λ r. then r (λ w. Ok (untainted w))) (whole_runs x t s u h)
    ∙ (λ j. Ok (untainted (after t s (sym (moved_all t s) j))))
    ∙ ap Ok (sym (same_but_taint (marks x.actor) t s (moved_among t (are_moved t.register t.found s) (addresses t.memory t.register t.found s) s)))
    ∙ (λ j. Ok (untainted ((is_done x t s u h).1 j)))
