-- What a beat of a row that loads or stores tests, and the leaf that it comes to; what its leaf asks for and writes.
use Rattle.std.proofs.Common.{◌≡◌, ℕ, ◌+◌, ◌-◌, ◌*◌, ◌%◌, Bool, true, false, not, cond, ◌||◌, ◌&&◌, ltb, eqb, List, [], ◌∷◌, ◌++◌, map, get_or, Option, Some}
use Rattle.std.proofs.Common.{None, refl, sym, ◌∙◌, ap}
use Rattle.std.proofs.lemmas.List.{append-nil, append_assoc, map-append}
use Rattle.std.specs.Option.{option_or}
use Rattle.hm_base.specs.declared.Fault.{Fault}
use Rattle.hm_base.specs.declared.FaultKind.{FaultKind}
use Rattle.hm_base.specs.declared.Place.{Place}
use Rattle.hm_base.specs.declared.Place.TheVariants.{P0}
use Rattle.hm_base.specs.declared.Stop.{Stop}
use Rattle.hm_base.specs.declared.Stop.TheVariants as stop
use Rattle.hm_base.specs.Stops.{is_tainted}
use Rattle.hm_regs.specs.Writes.{Write, write}
use Rattle.hm_lane.specs.declared.lanes.Size.{Size}
use Rattle.hm_lane.specs.Predicate.{advance_of, mask_place}
use Rattle.hm_mem.specs.declared.Access.TheVariants.{Vector}
use Rattle.hm_mem.specs.declared.Actor.TheVariants.{Thread}
use Rattle.hm_mem.specs.Devices.{byte_of}
use Rattle.hm_mem.specs.Memory.{Around}
use Rattle.hm_mem.specs.Seen.{fault_kind, is_thread, marks, stop_after}
use Rattle.hm_order.proofs.Results.{true_not_false}
use Rattle.hm_state.specs.State.{At, Byte, Cell, State, Value, at, cells, into}
use Rattle.hm_beat.specs.Trees.{Asks, Check, Do, Fails, Leaf, FailsElse, StopsAs, WritesLive, asked, checked, holds, reach, tests, written}
use Rattle.hm_beat.specs.Rows.{Tree, active_at, always, test_where}
use Rattle.hm_beat.specs.Touches.{span_bytes}
use Rattle.hm_beat.specs.Laws.{NoTaint, WritesTaint}
use Rattle.hm_beat.proofs.Trees.{one_of}
use Rattle.hm_beat.proofs.Predicated.{advance_at, holds-append, kept_tested, reach_looked, tested_places, tests_looked, written-append, written_always}
use Rattle.hm_beat.proofs.Whole.{advance_lives, advance_taints, no_byte}
use Rattle.hm_kinds.specs.Row.{numbers}
use Rattle.hm_moves.specs.declared.elements.Element.{Element}
use Rattle.hm_moves.specs.Moves.{Moves, all_bytes_from, asks, back_at, begun, bytes_from, bytes_of_elements, checks_of, element_checks, elements_at}
use Rattle.hm_moves.specs.Moves.{active_ones}
use Rattle.hm_moves.specs.Moves.{every_byte, fails, fault_after, fill, filled, first_fault, is_closed, loaded_at, moved_by, moves_leaf, moves_tree, reads_of}
use Rattle.hm_moves.specs.Moves.{sources_at, store_all, store_bytes, stored_at, sure_stop, test_all, byte_count, words_from}

-- TESTS
reach_all : (ps : List Place) (k : List ℕ → Tree) (s : State) → reach (test_all ps k) s ≡ reach (k (map (λ p. at p s) ps)) s
reach_all [] k s = refl
reach_all (p ∷ ps) k s = reach_all ps (λ ns. k (at p s ∷ ns)) s

tests_all : (ps : List Place) (k : List ℕ → Tree) (s : State) → tests (test_all ps k) s ≡ map At ps ++ tests (k (map (λ p. at p s) ps)) s
tests_all [] k s = refl
tests_all (p ∷ ps) k s = ap (λ xs. At p ∷ xs) (tests_all ps (λ ns. k (at p s ∷ ns)) s)

-- the places that say which elements are active, and how the masks advance
abbrev pub begun_places : Bool → ℕ → State → List Place
begun_places true b s = tested_places false b s
begun_places false b s = mask_place b ∷ cond (ltb 8 (at (mask_place b) s)) (P0 b ∷ []) []

module _ (b : ℕ) (f : List Bool → List Write → Tree) (s : State) where
  abbrev mask : ℕ
  mask = at (mask_place b) s

  abbrev rest : List Write
  rest = cond (eqb (b % 2) 1 && not (eqb mask 0)) (write (mask_place b) (2 * mask) ∷ []) []

  abbrev inverted : Bool → ℕ → List Write
  inverted y slice = cond y (write (P0 b) (15 - slice) ∷ []) [] ++ rest

  reach_unlooked : (y : Bool) → reach (test_where y (P0 b) λ slice. f every_byte (inverted y slice)) s ≡ reach (f every_byte (inverted y (at (P0 b) s))) s
  reach_unlooked true = refl
  reach_unlooked false = refl

  tests_unlooked : (y : Bool) → tests (test_where y (P0 b) λ slice. f every_byte (inverted y slice)) s
      ≡ map At (cond y (P0 b ∷ []) []) ++ tests (f every_byte (inverted y (at (P0 b) s))) s
  tests_unlooked true = refl
  tests_unlooked false = refl

  pub reach_begun : (w : Bool) → reach (begun w b λ mask slice active. f active (advance_of b mask slice)) s
      ≡ reach (f (cond w (active_at b s) every_byte) (advance_at b s)) s
  reach_begun true = reach_looked false b (λ mask slice active. f active (advance_of b mask slice)) s
      ∙ ap (λ xs. reach (f (active_at b s) (xs ++ rest)) s) (kept_tested false b mask (at (P0 b) s))
  reach_begun false = reach_unlooked (ltb 8 mask)

  pub tests_begun : (w : Bool)
      → tests (begun w b λ mask slice active. f active (advance_of b mask slice)) s
      ≡ map At (begun_places w b s) ++ tests (f (cond w (active_at b s) every_byte) (advance_at b s)) s
  tests_begun true =
      tests_looked false b (λ mask slice active. f active (advance_of b mask slice)) s
      ∙ ap (λ xs. map At (tested_places false b s) ++ tests (f (active_at b s) (xs ++ rest)) s) (kept_tested false b mask (at (P0 b) s))
  tests_begun false = ap (λ xs. At (mask_place b) ∷ xs) (tests_unlooked (ltb 8 mask))

-- THE LEAF
abbrev pub leaf_at : Moves → Around → ℕ → State → Leaf Cell Value Stop
leaf_at i x b s = moves_leaf i x b (sources_at i b s) (elements_at i b s) (advance_at b s)

abbrev pub body_of : Moves → Around → ℕ → List Bool → List Write → Tree
body_of i x b active advance = test_all (i.sources b) λ ns. Do (moves_leaf i x b ns (active_ones active (i.elements b ns)) advance)

pub reach_moves : (i : Moves) (x : Around) (b : ℕ) (s : State) → reach (moves_tree i x b) s ≡ leaf_at i x b s
reach_moves i x b s = reach_begun b (body_of i x b) s i.predicated ∙ reach_all (i.sources b) _ s

pub tests_moves : (i : Moves) (x : Around) (b : ℕ) (s : State) → tests (moves_tree i x b) s ≡ map At (begun_places i.predicated b s) ++ map At (i.sources b)
tests_moves i x b s =
    tests_begun b (body_of i x b) s i.predicated
    ∙ ap (λ xs. map At (begun_places i.predicated b s) ++ xs) (tests_all (i.sources b) _ s ∙ append-nil (map At (i.sources b)))

-- WHAT IT WRITES
written_fill : (i : Moves) (j : ℕ) (es : List Element) (ps : List Place) (vs : List Value) → written (fill i j es ps) vs ≡ words_from i j es (numbers vs) ps
written_fill i j es [] vs = refl
written_fill i j es (p ∷ ps) vs = ap (λ ws. into (write p (filled i j es (numbers vs))) ∷ ws) (written_fill i (j + 1) es ps vs)

written_bytes : (t : Bool) (e : Element) (k : ℕ) (bs : List ℕ) (vs : List Value) → written (store_bytes t e k bs) vs ≡ bytes_from t e (numbers vs) k bs
written_bytes t e k [] vs = refl
written_bytes t e k (a ∷ bs) vs =
    ap (λ ws. (Byte a, record { n = byte_of (get_or (numbers vs) e.word 0) (e.lane + k); taint = t }) ∷ ws) (written_bytes t e (k + 1) bs vs)

written_all : (t : Bool) (z : Size) (es : List Element) (vs : List Value) → written (store_all t z es) vs ≡ all_bytes_from t z es (numbers vs)
written_all t z [] vs = refl
written_all t z (e ∷ es) vs = written-append (store_bytes t e 0 (span_bytes e.addr (byte_count z))) (store_all t z es) vs
    ∙ (λ j. written_bytes t e 0 (span_bytes e.addr (byte_count z)) vs j ++ written_all t z es vs j)

written_moved : (i : Moves) (x : Around) (b : ℕ) (es : List Element) (vs : List Value)
    → written (moved_by i x b es) vs
    ≡ cond i.store [] (words_from i 0 es (numbers vs) (i.words b)) ++ cond i.store (all_bytes_from (marks x.actor) i.memory es (numbers vs)) []
written_moved i x b es vs = go i.store
  where
    go : (y : Bool) → written (cond y (store_all (marks x.actor) i.memory es) (fill i 0 es (i.words b))) vs
        ≡ cond y [] (words_from i 0 es (numbers vs) (i.words b)) ++ cond y (all_bytes_from (marks x.actor) i.memory es (numbers vs)) []
    go true = written_all (marks x.actor) i.memory es vs
    go false = written_fill i 0 es (i.words b) vs ∙ sym (append-nil (words_from i 0 es (numbers vs) (i.words b)))

abbrev pub ends_at : ℕ → State → List (Cell × Value)
ends_at b s = map into (advance_at b s)

-- what a beat writes but the words that it fills
abbrev pub others_of : Moves → Bool → ℕ → State → List (Cell × Value)
others_of i tainted b s = stored_at i tainted b s ++ (back_at i b s ++ ends_at b s)

pub written_leaf : (i : Moves) (x : Around) (b : ℕ) (s : State)
    → written (leaf_at i x b s).writes (map s.cell (leaf_at i x b s).reads) ≡ loaded_at i b s ++ others_of i (marks x.actor) b s
written_leaf i x b s =
    let es = elements_at i b s in
    let vs = map s.cell (reads_of i b es) in
    let ws = i.back b (sources_at i b s) in
    written-append (moved_by i x b es) (map always (ws ++ advance_at b s)) vs
    ∙ (λ j. written_moved i x b es vs j ++ (written_always (ws ++ advance_at b s) vs ∙ map-append into ws (advance_at b s)) j)
    ∙ append_assoc (loaded_at i b s) (stored_at i (marks x.actor) b s) (back_at i b s ++ ends_at b s)

-- WHAT IT ASKS FOR
asked-append : (xs ys : List (Check Cell Stop)) → asked (xs ++ ys) ≡ asked xs ++ asked ys
asked-append [] ys = refl
asked-append (Fails e ∷ xs) ys = asked-append xs ys
asked-append (Asks c e ∷ xs) ys = ap (λ cs. c ∷ cs) (asked-append xs ys)

asked_fails : (o : Option Stop) (cs : List (Check Cell Stop)) → asked (fails o ++ cs) ≡ asked cs
asked_fails None cs = refl
asked_fails (Some e) cs = refl

asked_asks : (a : ℕ) (bs : List ℕ) → asked (asks a bs) ≡ map Byte bs
asked_asks a [] = refl
asked_asks a (b ∷ bs) = ap (λ cs. Byte b ∷ cs) (asked_asks a bs)

asked_where : (y : Bool) (a : ℕ) (bs : List ℕ) (cs : List ℕ) → asked (cond y (asks a bs) []) ++ cond y (map Byte cs) [] ≡ cond y (map Byte (bs ++ cs)) []
asked_where true a bs cs = ap (λ xs. xs ++ map Byte cs) (asked_asks a bs) ∙ sym (map-append Byte bs cs)
asked_where false a bs cs = refl

pub asked_is : (x : Around) (store : Bool) (z : Size) (es : List Element)
    → asked (checks_of x store (byte_count z) es) ≡ cond (is_thread x.actor && not store) (map Byte (bytes_of_elements z es)) []
asked_is x store z [] = sym (go (is_thread x.actor && not store))
  where
    go : (y : Bool) → cond y (map Byte []) [] ≡ []
    go true = refl
    go false = refl
asked_is x store z (e ∷ es) =
    let y = is_thread x.actor && not store in
    let bs = span_bytes e.addr (byte_count z) in
    asked-append (element_checks x store (byte_count z) e.addr) (checks_of x store (byte_count z) es)
    ∙ (λ j. asked_fails (sure_stop x store (byte_count z) e.addr) (cond y (asks e.addr bs) []) j ++ asked_is x store z es j)
    ∙ asked_where y e.addr bs (bytes_of_elements z es)

-- what is asked for is read
asked_read : (p store : Bool) (bs : List ℕ) (ws : List Cell) (c : Cell) → holds cells (cond (p && not store) (map Byte bs) []) c ≡ true
    → holds cells (cond store [] (map Byte bs) ++ ws) c ≡ true
asked_read true true bs ws c h = cc
asked_read true false bs ws c h = holds-append (map Byte bs) ws c ∙ one_of (holds cells (map Byte bs) c) (holds cells ws c) h
asked_read false store bs ws c h = cc

pub leaf_asks : (i : Moves) (x : Around) (b : ℕ) (s : State) (c : Cell) → holds cells (asked (leaf_at i x b s).checks) c ≡ true
    → holds cells (leaf_at i x b s).reads c ≡ true
leaf_asks i x b s c h =
    let es = elements_at i b s in
    asked_read (is_thread x.actor) i.store (bytes_of_elements i.memory es) _ c (sym (ap (λ cs. holds cells cs c) (asked_is x i.store i.memory es)) ∙ h)

-- the thread asks for each byte that it reads
read_asked : (store : Bool) (bs : List ℕ) (ps : List Place) (a : ℕ) → holds cells (cond store [] (map Byte bs) ++ map At ps) (Byte a) ≡ true
    → holds cells (cond (true && not store) (map Byte bs) []) (Byte a) ≡ true
read_asked true bs ps a h = true_not_false (holds cells (map At ps) (Byte a)) h (no_byte ps a)
read_asked false bs ps a h = left (holds cells (map Byte bs) (Byte a)) (holds cells (map At ps) (Byte a))
    (sym (holds-append (map Byte bs) (map At ps) (Byte a)) ∙ h) (no_byte ps a)
  where
    left : (p q : Bool) → (p || q) ≡ true → q ≡ false → p ≡ true
    left true q e f = refl
    left false q e f = cc

pub leaf_read_asked : (i : Moves) (x : Around) (b : ℕ) (s : State) (a : ℕ) → x.actor ≡ Thread → holds cells (leaf_at i x b s).reads (Byte a) ≡ true
    → holds cells (asked (leaf_at i x b s).checks) (Byte a) ≡ true
leaf_read_asked i x b s a thread h =
    let es = elements_at i b s in
    ap (λ cs. holds cells cs (Byte a)) (asked_is x i.store i.memory es)
    ∙ ap (λ t. holds cells (cond (is_thread t && not i.store) (map Byte (bytes_of_elements i.memory es)) []) (Byte a)) thread
    ∙ read_asked i.store (bytes_of_elements i.memory es) _ a h

-- CHECKS OF THE THREAD
abbrev pub fault_stop : Option Fault → Option Stop
fault_stop None = None
fault_stop (Some f) = Some (stop.Fault f)

sure_thread : (x : Around) (store : Bool) (len a : ℕ) → x.actor ≡ Thread
    → sure_stop x store len a ≡ fault_stop (fault_after (fault_kind true Vector store len a) a)
sure_thread x store len a thread = (λ j. stop_after (fault_kind (is_thread (thread j)) Vector store len a) (is_closed (thread j) x.bounds store len a) store a)
    ∙ go (fault_kind true Vector store len a)
  where
    go : (k : Option FaultKind) → stop_after k false store a ≡ fault_stop (fault_after k a)
    go None = refl
    go (Some k) = refl

pub checked_fails : (o : Option Stop) (cs : List (Check Cell Stop)) (s : State) → checked cells (fails o ++ cs) s ≡ option_or o (checked cells cs s)
checked_fails None cs s = refl
checked_fails (Some e) cs s = refl

checked_asks : (a : ℕ) (bs : List ℕ) (cs : List (Check Cell Stop)) (s : State) → NoTaint s → checked cells (asks a bs ++ cs) s ≡ checked cells cs s
checked_asks a [] cs s clean = refl
checked_asks a (b ∷ bs) cs s clean = ap (λ d. cond d (Some (stop.Tainted a)) (checked cells (asks a bs ++ cs) s)) (clean b) ∙ checked_asks a bs cs s clean

checked_where : (y : Bool) (a : ℕ) (bs : List ℕ) (cs : List (Check Cell Stop)) (s : State) → NoTaint s
    → checked cells (cond y (asks a bs) [] ++ cs) s ≡ checked cells cs s
checked_where true a bs cs s clean = checked_asks a bs cs s clean
checked_where false a bs cs s clean = refl

pub or_faults : (f g : Option Fault) → option_or (fault_stop f) (fault_stop g) ≡ fault_stop (option_or f g)
or_faults None g = refl
or_faults (Some f) g = refl

pub checked_clean : (x : Around) (store : Bool) (len : ℕ) (es : List Element) (s : State) → x.actor ≡ Thread → NoTaint s
    → checked cells (checks_of x store len es) s ≡ fault_stop (first_fault store len es)
checked_clean x store len [] s thread clean = refl
checked_clean x store len (e ∷ es) s thread clean =
    let o = sure_stop x store len e.addr in
    let y = is_thread x.actor && not store in
    let bs = span_bytes e.addr len in
    let cs = checks_of x store len es in
    ap (λ ks. checked cells ks s) (append_assoc (fails o) (cond y (asks e.addr bs) []) cs)
    ∙ checked_fails o (cond y (asks e.addr bs) [] ++ cs) s
    ∙ (λ j. option_or (sure_thread x store len e.addr thread j) ((checked_where y e.addr bs cs s clean ∙ checked_clean x store len es s thread clean) j))
    ∙ or_faults (fault_after (fault_kind true Vector store len e.addr) e.addr) (first_fault store len es)

stops-append : (cs ds : List (Check Cell Stop)) → StopsAs is_tainted cs → StopsAs is_tainted ds → StopsAs is_tainted (cs ++ ds)
stops-append [] ds h k = k
stops-append (Fails e ∷ cs) ds h k = stops-append cs ds h k
stops-append (Asks c e ∷ cs) ds h k = (h.0, stops-append cs ds h.1 k)

fails-append : (cs ds : List (Check Cell Stop)) → FailsElse is_tainted cs → FailsElse is_tainted ds → FailsElse is_tainted (cs ++ ds)
fails-append [] ds h k = k
fails-append (Fails e ∷ cs) ds h k = (h.0, fails-append cs ds h.1 k)
fails-append (Asks c e ∷ cs) ds h k = fails-append cs ds h k

pub checks_stop : (x : Around) (store : Bool) (len : ℕ) (es : List Element) → StopsAs is_tainted (checks_of x store len es)
checks_stop x store len [] = tt
checks_stop x store len (e ∷ es) = stops-append (element_checks x store len e.addr) (checks_of x store len es)
    (stops-append (fails (sure_stop x store len e.addr)) _ (of_fails (sure_stop x store len e.addr))
    (of_where (is_thread x.actor && not store) (span_bytes e.addr len))) (checks_stop x store len es)
  where
    of_fails : (o : Option Stop) → StopsAs is_tainted (fails o)
    of_fails None = tt
    of_fails (Some f) = tt

    of_asks : (bs : List ℕ) → StopsAs is_tainted (asks e.addr bs)
    of_asks [] = tt
    of_asks (b ∷ bs) = (refl, of_asks bs)

    of_where : (y : Bool) (bs : List ℕ) → StopsAs is_tainted (cond y (asks e.addr bs) [])
    of_where true bs = of_asks bs
    of_where false bs = tt

pub checks_fail : (x : Around) (store : Bool) (len : ℕ) (es : List Element) → x.actor ≡ Thread → FailsElse is_tainted (checks_of x store len es)
checks_fail x store len [] thread = tt
checks_fail x store len (e ∷ es) thread = fails-append (element_checks x store len e.addr) (checks_of x store len es)
    (fails-append (fails (sure_stop x store len e.addr)) _
    (of_fails (sure_stop x store len e.addr) (fault_after (fault_kind true Vector store len e.addr) e.addr) (sure_thread x store len e.addr thread))
    (of_where (is_thread x.actor && not store) (span_bytes e.addr len))) (checks_fail x store len es thread)
  where
    of_fails : (o : Option Stop) (f : Option Fault) → o ≡ fault_stop f → FailsElse is_tainted (fails o)
    of_fails None f h = tt
    of_fails (Some g) (Some f) h = (ap (λ (o : Option Stop). is_tainted_in o) h, tt)
      where
        is_tainted_in : Option Stop → Bool
        is_tainted_in None = false
        is_tainted_in (Some e) = is_tainted e
    of_fails (Some g) None h = cc

    of_asks : (bs : List ℕ) → FailsElse is_tainted (asks e.addr bs)
    of_asks [] = tt
    of_asks (b ∷ bs) = of_asks bs

    of_where : (y : Bool) (bs : List ℕ) → FailsElse is_tainted (cond y (asks e.addr bs) [])
    of_where true bs = of_asks bs
    of_where false bs = tt

-- WHAT IS WRITTEN IS LIVE
lives-append : (ws us : List (Cell × (List Value → Value))) → WritesLive cells ws → WritesLive cells us → WritesLive cells (ws ++ us)
lives-append [] us h k = k
lives-append (w ∷ ws) us h k = (h.0, lives-append ws us h.1 k)

fill_lives : (i : Moves) (j : ℕ) (es : List Element) (ps : List Place) → WritesLive cells (fill i j es ps)
fill_lives i j es [] = tt
fill_lives i j es (p ∷ ps) = (λ vs. refl, fill_lives i (j + 1) es ps)

bytes_live : (t : Bool) (e : Element) (k : ℕ) (bs : List ℕ) → t ≡ false → WritesLive cells (store_bytes t e k bs)
bytes_live t e k [] h = tt
bytes_live t e k (a ∷ bs) h = (λ vs. h, bytes_live t e (k + 1) bs h)

stores_live : (t : Bool) (z : Size) (es : List Element) → t ≡ false → WritesLive cells (store_all t z es)
stores_live t z [] h = tt
stores_live t z (e ∷ es) h = lives-append (store_bytes t e 0 (span_bytes e.addr (byte_count z))) (store_all t z es)
    (bytes_live t e 0 (span_bytes e.addr (byte_count z)) h) (stores_live t z es h)

-- AND WHAT IS WRITTEN TO BYTES IS TAINTED, OR NONE OF IT IS
taint-append : (tainted : Bool) (ws us : List (Cell × (List Value → Value))) → WritesTaint tainted ws → WritesTaint tainted us → WritesTaint tainted (ws ++ us)
taint-append tainted [] us h k = k
taint-append tainted (w ∷ ws) us h k = (h.0, taint-append tainted ws us h.1 k)

fill_taints : (tainted : Bool) (i : Moves) (j : ℕ) (es : List Element) (ps : List Place) → WritesTaint tainted (fill i j es ps)
fill_taints tainted i j es [] = tt
fill_taints tainted i j es (p ∷ ps) = (tt, fill_taints tainted i (j + 1) es ps)

bytes_taint : (tainted : Bool) (e : Element) (k : ℕ) (bs : List ℕ) → WritesTaint tainted (store_bytes tainted e k bs)
bytes_taint tainted e k [] = tt
bytes_taint tainted e k (a ∷ bs) = (λ vs. refl, bytes_taint tainted e (k + 1) bs)

stores_taint : (tainted : Bool) (z : Size) (es : List Element) → WritesTaint tainted (store_all tainted z es)
stores_taint tainted z [] = tt
stores_taint tainted z (e ∷ es) =
    taint-append tainted (store_bytes tainted e 0 (span_bytes e.addr (byte_count z))) (store_all tainted z es)
    (bytes_taint tainted e 0 (span_bytes e.addr (byte_count z))) (stores_taint tainted z es)

pub leaf_taints : (i : Moves) (x : Around) (b : ℕ) (s : State) → WritesTaint (marks x.actor) (leaf_at i x b s).writes
leaf_taints i x b s =
    taint-append (marks x.actor) (moved_by i x b (elements_at i b s)) _ (go i.store)
    (advance_taints (marks x.actor) (i.back b (sources_at i b s) ++ advance_at b s))
  where
    go : (y : Bool) → WritesTaint (marks x.actor) (cond y (store_all (marks x.actor) i.memory (elements_at i b s)) (fill i 0 (elements_at i b s) (i.words b)))
    go true = stores_taint (marks x.actor) i.memory (elements_at i b s)
    go false = fill_taints (marks x.actor) i 0 (elements_at i b s) (i.words b)

pub leaf_lives : (i : Moves) (x : Around) (b : ℕ) (s : State) → x.actor ≡ Thread → WritesLive cells (leaf_at i x b s).writes
leaf_lives i x b s thread = lives-append (moved_by i x b (elements_at i b s)) _ (go i.store) (advance_lives (i.back b (sources_at i b s) ++ advance_at b s))
  where
    go : (y : Bool) → WritesLive cells (cond y (store_all (marks x.actor) i.memory (elements_at i b s)) (fill i 0 (elements_at i b s) (i.words b)))
    go true = stores_live (marks x.actor) i.memory (elements_at i b s) (ap marks thread)
    go false = fill_lives i 0 (elements_at i b s) (i.words b)
