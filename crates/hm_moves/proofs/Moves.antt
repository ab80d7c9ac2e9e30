-- Rows that load or store: what a beat uses and sets, and four beats are the whole.
use Rattle.std.proofs.Common.{◌≡◌, ℕ, ◌+◌, ◌*◌, ◌-◌, ◌%◌, ◌<◌, Bool, true, false, not, cond, ◌||◌, ◌&&◌, ltb, eqb, List, [], ◌∷◌, ◌++◌, map, Option, Some, None}
use Rattle.std.proofs.Common.{Result, Ok, refl, sym, ◌∙◌, ap, subst, arith, ◌⊎◌, inl, inr}
use Rattle.std.specs.Option.{option_or}
use Rattle.hm_base.specs.Place.{same_place}
use Rattle.hm_base.specs.declared.Fault.{Fault}
use Rattle.hm_base.specs.declared.Stop.{Stop}
use Rattle.hm_base.specs.declared.Place.{Place}
use Rattle.hm_base.specs.declared.Place.TheVariants.{R, QWord, P0, Mask01, Mask23, Carry, Ltp, Sticky}
use Rattle.hm_base.specs.Stops.{is_tainted}
use Rattle.hm_regs.specs.Writes.{Write, write}
use Rattle.hm_lane.specs.declared.lanes.Size.{Size}
use Rattle.hm_lane.specs.Predicate.{active_bytes, advance_of, mask_place}
use Rattle.hm_mem.specs.declared.Actor.TheVariants.{Thread}
use Rattle.hm_mem.specs.Memory.{Around}
use Rattle.hm_mem.specs.declared.Access.TheVariants.{Vector}
use Rattle.hm_mem.specs.Seen.{as_stops, fault_kind, marks}
use Rattle.hm_base.specs.Results.{unless}
use Rattle.hm_order.proofs.Results.{decide, ok_same, ok_err, true_not_false}
use Rattle.hm_state.specs.Store.{put_all}
use Rattle.hm_state.specs.State.{At, Byte, Cell, State, Value, at, cells, into, is_dead, same_cell}
use Rattle.hm_beat.specs.Trees.{Careful, FailsElse, Leaf, StopsAs, WritesLive, action, asked, checked, holds, reach, marks_by, targets, tested, tests, written}
use Rattle.hm_beat.specs.Rows.{Each, advance_half, retired}
use Rattle.hm_beat.specs.Touches.{span_bytes}
use Rattle.hm_beat.specs.Effects.{effect, effect_of, four_beats}
use Rattle.hm_beat.specs.Laws.{NoTaint, KeepsLr, RowLaws, WritesTaint}
use Rattle.hm_beat.proofs.Predicated.{IsStill, by_beats, held_of, holds-append}
use Rattle.hm_beat.proofs.Whole.{advanced, and_false, flag_still, no_byte, put_all-append, size_still}
use Rattle.hm_beat.proofs.Chained.{Apart, Off, off-append, put_other}
use Rattle.hm_kinds.specs.Row.{is_body}
use Rattle.hm_kinds.proofs.Row.{body_off, body_still, gathered, holds_written, pc-put_all}
use Rattle.hm_moves.specs.declared.elements.Element.{Element}
use Rattle.hm_moves.specs.Moves.{IsMoves, Moves, SparesLr, Unwritten, all_bytes_from, all_elements, active_ones, back_at, bytes_from, elements_at, every_byte}
use Rattle.hm_moves.specs.Moves.{first_fault, handed, is_word, loaded_at, moved, moves_tree, moves_by_words, fault_after, bytes_of_elements, reads_of}
use Rattle.hm_moves.specs.Moves.{sources_at}
use Rattle.hm_moves.specs.Moves.{stored_at, values_at, byte_count, words_from}
use Rattle.hm_moves.proofs.Trees.{begun_places, checked_clean, checks_fail, checks_stop, ends_at, fault_stop, leaf_asks, leaf_at, leaf_lives, leaf_read_asked}
use Rattle.hm_moves.proofs.Trees.{leaf_taints, others_of, reach_moves, tests_moves, written_leaf}
use Rattle.hm_moves.proofs.Faulting.{effect_after, four_faulting, stop_first}

-- WHAT A BEAT DOES IN THE THREAD
abbrev pub fault_at : Moves → ℕ → State → Option Fault
fault_at i b s = first_fault i.store (byte_count i.memory) (elements_at i b s)

effect_where : (o : Option Fault) (l : Leaf Cell Value Stop) (vs : List Value) → l.mark ≡ None
    → effect_of (fault_stop o) l vs ≡ effect_after o (written l.writes vs)
effect_where None l vs h = ap (λ m. Ok (marks_by m vs, written l.writes vs)) h
effect_where (Some f) l vs h = refl

pub moves_effect : (i : Moves) (x : Around) (b : ℕ) (s : State) → x.actor ≡ Thread → NoTaint s
    → effect cells (moves_tree i x b) s ≡ effect_after (fault_at i b s) (loaded_at i b s ++ others_of i false b s)
moves_effect i x b s thread clean =
    let l = leaf_at i x b s in
    ap (λ (l : Leaf Cell Value Stop). effect_of (checked cells l.checks s) l (map s.cell l.reads)) (reach_moves i x b s)
    ∙ ap (λ o. effect_of o l (map s.cell l.reads)) (checked_clean x i.store (byte_count i.memory) (elements_at i b s) s thread clean)
    ∙ effect_where (fault_at i b s) l (map s.cell l.reads) refl
    ∙ ap (effect_after (fault_at i b s)) (written_leaf i x b s ∙ ap (λ t. loaded_at i b s ++ others_of i t b s) (ap marks thread))

-- WHAT IT LEAVES
word_body : (p : Place) → is_word p ≡ true → is_body p ≡ true
word_body (QWord k) h = refl
word_body (R n) h = refl
word_body Carry h = refl
word_body (P0 n) h = true_not_false false h refl
word_body Mask01 h = true_not_false false h refl
word_body Mask23 h = true_not_false false h refl
word_body Ltp h = true_not_false false h refl
word_body Sticky h = true_not_false false h refl

-- a word is no other place
word_off : (p q : Place) → is_word p ≡ true → is_word q ≡ false → same_place p q ≡ false
word_off (QWord n) (QWord m) h k = true_not_false true refl k
word_off (QWord n) q h k = refl
word_off (R n) q h k = true_not_false false h refl
word_off Carry q h k = true_not_false false h refl
word_off (P0 n) q h k = true_not_false false h refl
word_off Mask01 q h k = true_not_false false h refl
word_off Mask23 q h k = true_not_false false h refl
word_off Ltp q h k = true_not_false false h refl
word_off Sticky q h k = true_not_false false h refl

pub off_bytes : (t : Bool) (e : Element) (xs : List ℕ) (k : ℕ) (bs : List ℕ) (p : Place) → Off (At p) (bytes_from t e xs k bs)
off_bytes t e xs k [] p = tt
off_bytes t e xs k (a ∷ bs) p = (refl, off_bytes t e xs (k + 1) bs p)

off_all : (t : Bool) (z : Size) (es : List Element) (xs : List ℕ) (p : Place) → Off (At p) (all_bytes_from t z es xs)
off_all t z [] xs p = tt
off_all t z (e ∷ es) xs p = off-append (At p) (bytes_from t e xs 0 (span_bytes e.addr (byte_count z))) (all_bytes_from t z es xs)
    (off_bytes t e xs 0 (span_bytes e.addr (byte_count z)) p) (off_all t z es xs p)

off_stored : (i : Moves) (t : Bool) (b : ℕ) (s : State) (p : Place) → Off (At p) (stored_at i t b s)
off_stored i t b s p = go i.store
  where
    go : (y : Bool) → Off (At p) (cond y (all_bytes_from t i.memory (elements_at i b s) (values_at i b s)) [])
    go true = off_all t i.memory (elements_at i b s) (values_at i b s) p
    go false = tt

off_words : (i : Moves) (j : ℕ) (es : List Element) (xs : List ℕ) (ps : List Place) (p : Place) → Each (λ (q : Place). same_place q p ≡ false) ps
    → Off (At p) (words_from i j es xs ps)
off_words i j es xs [] p h = tt
off_words i j es xs (q ∷ ps) p h = (h.0, off_words i (j + 1) es xs ps p h.1)

byte_words : (i : Moves) (j : ℕ) (es : List Element) (xs : List ℕ) (ps : List Place) (a : ℕ) → Off (Byte a) (words_from i j es xs ps)
byte_words i j es xs [] a = tt
byte_words i j es xs (q ∷ ps) a = (refl, byte_words i (j + 1) es xs ps a)

pub byte_loaded : (i : Moves) (b : ℕ) (s : State) (a : ℕ) → Off (Byte a) (loaded_at i b s)
byte_loaded i b s a = go i.store
  where
    go : (y : Bool) → Off (Byte a) (cond y [] (words_from i 0 (elements_at i b s) (values_at i b s) (i.words b)))
    go true = tt
    go false = byte_words i 0 (elements_at i b s) (values_at i b s) (i.words b) a

off_loaded : (i : Moves) (b : ℕ) (s : State) (p : Place) → (i.store ≡ false → Each (λ (q : Place). same_place q p ≡ false) (i.words b))
    → Off (At p) (loaded_at i b s)
off_loaded i b s p h = go i.store refl
  where
    go : (y : Bool) → i.store ≡ y → Off (At p) (cond y [] (words_from i 0 (elements_at i b s) (values_at i b s) (i.words b)))
    go true e = tt
    go false e = off_words i 0 (elements_at i b s) (values_at i b s) (i.words b) p (h e)

no_words : (ps : List Place) (p : Place) → is_word p ≡ false → Each (λ (q : Place). is_word q ≡ true) ps → Each (λ (q : Place). same_place q p ≡ false) ps
no_words [] p h k = tt
no_words (q ∷ ps) p h k = (word_off q p k.0 h, no_words ps p h k.1)

off_into : (ws : List Write) (p : Place) → Unwritten p ws → Off (At p) (map into ws)
off_into [] p h = tt
off_into (w ∷ ws) p h = (h.0, off_into ws p h.1)

byte_into : (ws : List Write) (a : ℕ) → Off (Byte a) (map into ws)
byte_into [] a = tt
byte_into (w ∷ ws) a = (refl, byte_into ws a)

bodies_off : (ws : List Write) (p : Place) → is_body p ≡ false → Each (λ (w : Write). is_body w.place ≡ true) ws → Unwritten p ws
bodies_off [] p h k = tt
bodies_off (w ∷ ws) p h k = (body_off w.place p k.0 h, bodies_off ws p h k.1)

off_ends : (b : ℕ) (s : State) (c : Cell) → IsStill b c → Off c (ends_at b s)
off_ends b s c h = go (ltb 8 (at (mask_place b) s)) (eqb (b % 2) 1) (not (eqb (at (mask_place b) s) 0)) h.mask
  where
    go : (x o m : Bool) → (o && same_cell (At (mask_place b)) c) ≡ false
        → Off c (map into (cond x (write (P0 b) (15 - at (P0 b) s) ∷ []) [] ++ cond (o && m) (write (mask_place b) (2 * at (mask_place b) s) ∷ []) []))
    go true true true e = (h.slice, (e, tt))
    go true true false e = (h.slice, tt)
    go true false m e = (h.slice, tt)
    go false true true e = (e, tt)
    go false true false e = tt
    go false false m e = tt

off_others : (i : Moves) (t : Bool) (b : ℕ) (s : State) (p : Place) → Unwritten p (i.back b (sources_at i b s)) → IsStill b (At p)
    → Off (At p) (others_of i t b s)
off_others i t b s p h k =
    off-append (At p) (stored_at i t b s) (back_at i b s ++ ends_at b s) (off_stored i t b s p)
    (off-append (At p) (back_at i b s) (ends_at b s) (off_into (i.back b (sources_at i b s)) p h) (off_ends b s (At p) k))

byte_still : (b a : ℕ) → IsStill b (Byte a)
byte_still b a = record { slice = refl; mask = and_false (eqb (b % 2) 1) false refl }

-- of a load no byte is set
byte_others : (i : Moves) (t : Bool) (b : ℕ) (s : State) (a : ℕ) → i.store ≡ false → Off (Byte a) (others_of i t b s)
byte_others i t b s a h =
    off-append (Byte a) (stored_at i t b s) (back_at i b s ++ ends_at b s)
    (subst (λ y. Off (Byte a) (cond y (all_bytes_from t i.memory (elements_at i b s) (values_at i b s)) [])) (sym h) tt)
    (off-append (Byte a) (back_at i b s) (ends_at b s) (byte_into (i.back b (sources_at i b s)) a) (off_ends b s (Byte a) (byte_still b a)))

-- the advance of an earlier beat leaves what a later one looks at
abbrev pub Quiet : ℕ → ℕ → Type 0
Quiet b k = IsStill k (At (mask_place b)) × IsStill k (At Ltp) × IsStill k (At (R 14)) × IsStill k (At (P0 b))

quiet : (b k : ℕ) → k < b → b < 4 → Quiet b k
quiet = by_beats Quiet
    (record { slice = refl; mask = refl }, record { slice = refl; mask = refl }, record { slice = refl; mask = refl }, record { slice = refl; mask = refl })
    (record { slice = refl; mask = refl }, record { slice = refl; mask = refl }, record { slice = refl; mask = refl }, record { slice = refl; mask = refl })
    (record { slice = refl; mask = refl }, record { slice = refl; mask = refl }, record { slice = refl; mask = refl }, record { slice = refl; mask = refl })
    (record { slice = refl; mask = refl }, record { slice = refl; mask = refl }, record { slice = refl; mask = refl }, record { slice = refl; mask = refl })
    (record { slice = refl; mask = refl }, record { slice = refl; mask = refl }, record { slice = refl; mask = refl }, record { slice = refl; mask = refl })
    (record { slice = refl; mask = refl }, record { slice = refl; mask = refl }, record { slice = refl; mask = refl }, record { slice = refl; mask = refl })

-- P holds of what tells the active elements
begun_each : (P : Cell → Type 0) (w : Bool) (b : ℕ) (s : State) → P (At (mask_place b)) → P (At Ltp) → P (At (R 14)) → P (At (P0 b))
    → Each P (map At (begun_places w b s))
begun_each P true b s m l r p = (m, (l, go (ltb (at Ltp s) 4) (not (eqb (at (mask_place b) s) 0))))
  where
    go : (x y : Bool) → Each P (map At (cond x (R 14 ∷ []) [] ++ cond y (P0 b ∷ []) []))
    go true true = (r, (p, tt))
    go true false = (r, tt)
    go false true = (p, tt)
    go false false = tt
begun_each P false b s m l r p = (m, go (ltb 8 (at (mask_place b) s)))
  where
    go : (x : Bool) → Each P (map At (cond x (P0 b ∷ []) []))
    go true = (p, tt)
    go false = tt

each-append : (P : Cell → Type 0) (cs ds : List Cell) → Each P cs → Each P ds → Each P (cs ++ ds)
each-append P [] ds h k = k
each-append P (c ∷ cs) ds h k = (h.0, each-append P cs ds h.1 k)

last_left : (x y : Bool) → (x || y) ≡ true → x ≡ false → y ≡ true
last_left true y h e = cc
last_left false y h e = h

module _ (i : Moves) (is : IsMoves i) where
  -- what beat b looks at, tests and reads of the registers is written by none before it, but that it is filled
  unwritten_places : (t : Bool) (b k : ℕ) (s : State) → k < b → b < 4
      → Each (λ (c : Cell). (v : State) → Off c (others_of i t k v)) (map At (begun_places i.predicated b s))
  unwritten_places t b k s low high =
      let q = quiet b k low high in
      begun_each (λ (c : Cell). (v : State) → Off c (others_of i t k v)) i.predicated b s
      (λ v. off_others i t k v (mask_place b) (bodies_off _ (mask_place b) (mask_no_body (ltb b 2)) (is.back k (sources_at i k v))) q.0)
      (λ v. off_others i t k v Ltp (bodies_off _ Ltp refl (is.back k (sources_at i k v))) q.1)
      (λ v. off_others i t k v (R 14) (is.early k (sources_at i k v) (omega arith)) q.2)
      (λ v. off_others i t k v (P0 b) (bodies_off _ (P0 b) refl (is.back k (sources_at i k v))) q.3)
    where
      mask_no_body : (x : Bool) → is_body (cond x Mask01 Mask23) ≡ false
      mask_no_body true = refl
      mask_no_body false = refl

  unwritten_each : (t : Bool) (k : ℕ) (ps : List Place) → Each (λ (p : Place). is_body p ≡ true) ps
      → ((ns : List ℕ) → Each (λ (p : Place). Unwritten p (i.back k ns)) ps)
      → Each (λ (c : Cell). (v : State) → Off c (others_of i t k v)) (map At ps)
  unwritten_each t k [] h g = tt
  unwritten_each t k (p ∷ ps) h g = (λ v. off_others i t k v p (g (sources_at i k v)).0 (body_still p k h.0), unwritten_each t k ps h.1 (λ ns. (g ns).1))

  words_bodies : (ps : List Place) → Each (λ (p : Place). is_word p ≡ true) ps → Each (λ (p : Place). is_body p ≡ true) ps
  words_bodies [] h = tt
  words_bodies (p ∷ ps) h = (word_body p h.0, words_bodies ps h.1)

  unwritten_tests : (t : Bool) (b k : ℕ) (s : State) → k < b → b < 4
      → Each (λ (c : Cell). (v : State) → Off c (others_of i t k v)) (map At (begun_places i.predicated b s) ++ map At (i.sources b))
  unwritten_tests t b k s low high =
      each-append (λ (c : Cell). (v : State) → Off c (others_of i t k v)) (map At (begun_places i.predicated b s)) (map At (i.sources b))
      (unwritten_places t b k s low high)
      (unwritten_each t k (i.sources b) (is.sources b) (λ ns. is.unsourced b k ns low high))

  unwritten_bytes : (t : Bool) (k : ℕ) (bs : List ℕ) → i.store ≡ false → Each (λ (c : Cell). (v : State) → Off c (others_of i t k v)) (map Byte bs)
  unwritten_bytes t k [] h = tt
  unwritten_bytes t k (a ∷ bs) h = (λ v. byte_others i t k v a h, unwritten_bytes t k bs h)

  unwritten_words : (t : Bool) (b k : ℕ) → k < b → b < 4 → (y : Bool)
      → Each (λ (c : Cell). (v : State) → Off c (others_of i t k v)) (map At (cond y (i.words b) []))
  unwritten_words t b k low high true = unwritten_each t k (i.words b) (words_bodies (i.words b) (is.words b)) (λ ns. is.unread b k ns low high)
  unwritten_words t b k low high false = tt

  unwritten_reads : (t : Bool) (b k : ℕ) (es : List Element) → k < b → b < 4 → Each (λ (c : Cell). (v : State) → Off c (others_of i t k v)) (reads_of i b es)
  unwritten_reads t b k es low high =
      each-append (λ (c : Cell). (v : State) → Off c (others_of i t k v)) (cond i.store [] (map Byte (bytes_of_elements i.memory es))) _ (go i.store refl)
      (unwritten_words t b k low high (i.store || not i.predicated))
    where
      go : (y : Bool) → i.store ≡ y → Each (λ (c : Cell). (v : State) → Off c (others_of i t k v)) (cond y [] (map Byte (bytes_of_elements i.memory es)))
      go true e = tt
      go false e = unwritten_bytes t k (bytes_of_elements i.memory es) e

  uses_unwritten : (x : Around) (t : Bool) (b k : ℕ) → k < b → b < 4 → (u v : State) (c : Cell) → (action cells (moves_tree i x b)).uses u c ≡ true
      → Off c (others_of i t k v)
  uses_unwritten x t b k low high u v c h =
      let P : Cell → Type 0 = λ c. (v : State) → Off c (others_of i t k v) in
      let ts = map At (begun_places i.predicated b u) ++ map At (i.sources b) in
      let l = leaf_at i x b u in
      let used : (holds cells ts c || (holds cells l.reads c || holds cells (asked l.checks) c)) ≡ true
      = sym ((λ j. holds cells (tests_moves i x b u j) c
      || (holds cells (reach_moves i x b u j).reads c || holds cells (asked (reach_moves i x b u j).checks) c))) ∙ h in
      let read : holds cells l.reads c ≡ true → Off c (others_of i t k v) = λ e. held_of P l.reads c (unwritten_reads t b k (elements_at i b u) low high) e v in
      decide (holds cells ts c)
      (λ e. held_of P ts c (unwritten_tests t b k u low high) e v)
      (λ e. decide (holds cells l.reads c) read
      (λ f. read (leaf_asks i x b u c
      (last_left (holds cells l.reads c) (holds cells (asked l.checks) c)
      (last_left (holds cells ts c) (holds cells l.reads c || holds cells (asked l.checks) c) used e) f))))

  -- what is filled is set by nothing else
  words_free : (t : Bool) (k : ℕ) (v : State) (j : ℕ) (es : List Element) (xs : List ℕ) (ps : List Place)
      → Each (λ (c : Cell). (v : State) → Off c (others_of i t k v)) (map At ps)
      → Apart (others_of i t k v) (words_from i j es xs ps)
  words_free t k v j es xs [] h = tt
  words_free t k v j es xs (p ∷ ps) h = (h.0 v, words_free t k v (j + 1) es xs ps h.1)

  links_free : (t : Bool) (b k : ℕ) → k < b → b < 4 → (u v : State) → Apart (others_of i t k v) (loaded_at i b u)
  links_free t b k low high u v = go i.store
    where
      go : (y : Bool) → Apart (others_of i t k v) (cond y [] (words_from i 0 (elements_at i b u) (values_at i b u) (i.words b)))
      go true = tt
      go false = words_free t k v 0 (elements_at i b u) (values_at i b u) (i.words b) (unwritten_words t b k low high true)

  -- THE SAME AT THE START
  -- u has what beat b looks at as s has it
  pub record Same (b : ℕ) (s u : State) : Type 0 where
    pub places : Each (λ (p : Place). u.cell (At p) ≡ s.cell (At p)) (i.sources b)
    pub mask : u.cell (At (mask_place b)) ≡ s.cell (At (mask_place b))
    pub size : u.cell (At Ltp) ≡ s.cell (At Ltp)
    pub left : u.cell (At (R 14)) ≡ s.cell (At (R 14))
    pub slice : u.cell (At (P0 b)) ≡ s.cell (At (P0 b))

  same_sources : (s u : State) (ps : List Place) → Each (λ (p : Place). u.cell (At p) ≡ s.cell (At p)) ps → map (λ p. at p u) ps ≡ map (λ p. at p s) ps
  same_sources s u [] h = refl
  same_sources s u (p ∷ ps) h = λ j. (h.0 j).n ∷ same_sources s u ps h.1 j

  pub same_elements : (b : ℕ) (s u : State) → Same b s u → elements_at i b u ≡ elements_at i b s
  same_elements b s u h = λ j.
      active_ones (cond i.predicated (active_bytes b (h.mask j).n (h.size j).n (h.left j).n (h.slice j).n) every_byte)
      (i.elements b (same_sources s u (i.sources b) h.places j))

  same_back : (b : ℕ) (s u : State) → Same b s u → back_at i b u ≡ back_at i b s
  same_back b s u h = ap (λ ns. map into (i.back b ns)) (same_sources s u (i.sources b) h.places)

  same_ends : (b : ℕ) (s u : State) → Same b s u → ends_at b u ≡ ends_at b s
  same_ends b s u h = λ j. map into (advance_of b (h.mask j).n (h.slice j).n)

  -- beats before it fill words, and no word that it makes addresses of
  off_filled : (k : ℕ) (v : State) (p : Place) → is_word p ≡ false → Off (At p) (loaded_at i k v)
  off_filled k v p h = off_loaded i k v p (λ e. no_words (i.words k) p h (is.words k))

  mask_no_word : (b : ℕ) → is_word (mask_place b) ≡ false
  mask_no_word b = go (ltb b 2)
    where
      go : (x : Bool) → is_word (cond x Mask01 Mask23) ≡ false
      go true = refl
      go false = refl

  sources_filled : (b k : ℕ) → k < b → b < 4 → (v : State) → Each (λ (p : Place). Off (At p) (loaded_at i k v)) (i.sources b)
  sources_filled b k low high v = go i.store refl
    where
      each : (ps : List Place) → (i.store ≡ false → Each (λ (p : Place). Each (λ (q : Place). same_place q p ≡ false) (i.words k)) ps)
          → Each (λ (p : Place). Off (At p) (loaded_at i k v)) ps
      each [] h = tt
      each (p ∷ ps) h = (off_loaded i k v p (λ e. (h e).0), each ps (λ e. (h e).1))

      go : (y : Bool) → i.store ≡ y → Each (λ (p : Place). Off (At p) (loaded_at i k v)) (i.sources b)
      go y e = each (i.sources b) (is.unfilled b k low high)

  -- one beat more is handed on
  pub same_next : (b k : ℕ) (s u : State) → k < b → b < 4 → Same b s u → Same b s (handed i k u)
  same_next b k s u low high h = record {
    places = places (i.sources b) (sources_filled b k low high u) h.places;
    mask = cell (mask_place b) (off_filled k u (mask_place b) (mask_no_word b)) ∙ h.mask;
    size = cell Ltp (off_filled k u Ltp refl) ∙ h.size;
    left = cell (R 14) (off_filled k u (R 14) refl) ∙ h.left;
    slice = cell (P0 b) (off_filled k u (P0 b) refl) ∙ h.slice;
  }
    where
      cell : (p : Place) → Off (At p) (loaded_at i k u) → (handed i k u).cell (At p) ≡ u.cell (At p)
      cell p off = put_other (loaded_at i k u) (At p) u off

      places : (ps : List Place) → Each (λ (p : Place). Off (At p) (loaded_at i k u)) ps → Each (λ (p : Place). u.cell (At p) ≡ s.cell (At p)) ps
          → Each (λ (p : Place). (handed i k u).cell (At p) ≡ s.cell (At p)) ps
      places [] off e = tt
      places (p ∷ ps) off e = (cell p off.0 ∙ e.0, places ps off.1 e.1)

  pub same_start : (b : ℕ) (s : State) → Same b s s
  same_start b s = record { places = each (i.sources b); mask = refl; size = refl; left = refl; slice = refl }
    where
      each : (ps : List Place) → Each (λ (p : Place). s.cell (At p) ≡ s.cell (At p)) ps
      each [] = tt
      each (p ∷ ps) = (refl, each ps)

  -- a store hands nothing on
  store_keeps : (b : ℕ) (s : State) → i.store ≡ true → handed i b s ≡ s
  store_keeps b s e = ap (λ y. put_all cells (cond y [] (words_from i 0 (elements_at i b s) (values_at i b s) (i.words b))) s) e

  same_stored : (b : ℕ) (s u : State) → (i.store ≡ true → u ≡ s) → stored_at i false b u ≡ stored_at i false b s
  same_stored b s u h = go i.store refl
    where
      go : (y : Bool) → i.store ≡ y → stored_at i false b u ≡ stored_at i false b s
      go true e = ap (stored_at i false b) (h e)
      go false e = ap (λ y. cond y (all_bytes_from false i.memory (elements_at i b u) (values_at i b u)) []) e
          ∙ sym (ap (λ y. cond y (all_bytes_from false i.memory (elements_at i b s) (values_at i b s)) []) e)

  same_others : (b : ℕ) (s u : State) → (i.store ≡ true → u ≡ s) → Same b s u → others_of i false b u ≡ others_of i false b s
  same_others b s u h k = λ j. same_stored b s u h j ++ (same_back b s u k j ++ same_ends b s u k j)

first_fault-append : {A : Type 0} (store : Bool) (len : ℕ) (es fs : List Element) (r : Result A Stop)
    → stop_first (first_fault store len (es ++ fs)) r ≡ stop_first (first_fault store len es) (stop_first (first_fault store len fs) r)
first_fault-append store len [] fs r = refl
first_fault-append store len (e ∷ es) fs r =
    or_first (fault_after (fault_kind true Vector store len e.addr) e.addr) (first_fault store len (es ++ fs)) r
    ∙ ap (stop_first (fault_after (fault_kind true Vector store len e.addr) e.addr)) (first_fault-append store len es fs r)
    ∙ sym (or_first (fault_after (fault_kind true Vector store len e.addr) e.addr) (first_fault store len es) (stop_first (first_fault store len fs) r))
  where
    or_first : {A : Type 0} (f g : Option Fault) (r : Result A Stop) → stop_first (option_or f g) r ≡ stop_first f (stop_first g r)
    or_first None g r = refl
    or_first (Some f) g r = refl

stops_unless : (o : Option Fault) (s : State) → as_stops (unless o (Ok s)) ≡ stop_first o (Ok s)
stops_unless None s = refl
stops_unless (Some f) s = refl

-- writes to bytes and writes to places
bytes_apart : (ws : List (Cell × Value)) (t : Bool) (e : Element) (xs : List ℕ) (k : ℕ) (bs : List ℕ) → ((a : ℕ) → Off (Byte a) ws)
    → Apart ws (bytes_from t e xs k bs)
bytes_apart ws t e xs k [] h = tt
bytes_apart ws t e xs k (a ∷ bs) h = (h a, bytes_apart ws t e xs (k + 1) bs h)

each_write : (P : Cell × Value → Type 0) (ws vs : List (Cell × Value)) → Each P ws → Each P vs → Each P (ws ++ vs)
each_write P [] vs h k = k
each_write P (w ∷ ws) vs h k = (h.0, each_write P ws vs h.1 k)

all_apart : (ws : List (Cell × Value)) (t : Bool) (z : Size) (es : List Element) (xs : List ℕ) → ((a : ℕ) → Off (Byte a) ws)
    → Apart ws (all_bytes_from t z es xs)
all_apart ws t z [] xs h = tt
all_apart ws t z (e ∷ es) xs h =
    each_write (λ (v : Cell × Value). Off v.0 ws) (bytes_from t e xs 0 (span_bytes e.addr (byte_count z))) (all_bytes_from t z es xs)
    (bytes_apart ws t e xs 0 (span_bytes e.addr (byte_count z)) h) (all_apart ws t z es xs h)

module _ (i : Moves) (is : IsMoves i) where
  -- what is written back and the advance meet no byte
  stored_apart : (b k : ℕ) (s u : State) → Apart (back_at i k s ++ ends_at k s) (stored_at i false b u)
  stored_apart b k s u = go i.store
    where
      off : (a : ℕ) → Off (Byte a) (back_at i k s ++ ends_at k s)
      off a = off-append (Byte a) (back_at i k s) (ends_at k s) (byte_into (i.back k (sources_at i k s)) a) (off_ends k s (Byte a) (byte_still k a))

      go : (y : Bool) → Apart (back_at i k s ++ ends_at k s) (cond y (all_bytes_from false i.memory (elements_at i b u) (values_at i b u)) [])
      go true = all_apart (back_at i k s ++ ends_at k s) false i.memory (elements_at i b u) (values_at i b u) off
      go false = tt

  -- the advance leaves what is written back
  back_apart : (b k : ℕ) (s u : State) → Apart (ends_at k s) (back_at i b u)
  back_apart b k s u = go (i.back b (sources_at i b u)) (is.back b (sources_at i b u))
    where
      go : (ws : List Write) → Each (λ (w : Write). is_body w.place ≡ true) ws → Apart (ends_at k s) (map into ws)
      go [] h = tt
      go (w ∷ ws) h = (off_ends k s (At w.place) (body_still w.place k h.0), go ws h.1)

  -- the bytes first, then what is written back, then the advance
  in_order : (s u : State) → put_all cells (others_of i false 0 s ++ others_of i false 1 s ++ others_of i false 2 s ++ others_of i false 3 s) u
      ≡ put_all cells (advance_half 0 s ++ advance_half 2 s) (put_all cells (back_at i 0 s ++ back_at i 1 s ++ back_at i 2 s ++ back_at i 3 s)
      (put_all cells (stored_at i false 0 s ++ stored_at i false 1 s ++ stored_at i false 2 s ++ stored_at i false 3 s) u))
  in_order s u =
      let B : ℕ → List (Cell × Value) = λ b. back_at i b s in
      let N : ℕ → List (Cell × Value) = λ b. ends_at b s in
      let v = put_all cells (stored_at i false 0 s ++ stored_at i false 1 s ++ stored_at i false 2 s ++ stored_at i false 3 s) u in
      let w = put_all cells (B 0 ++ B 1 ++ B 2 ++ B 3) v in
      gathered (stored_at i false 0 s) (stored_at i false 1 s) (stored_at i false 2 s) (stored_at i false 3 s) (B 0 ++ N 0) (B 1 ++ N 1) (B 2 ++ N 2)
      (B 3 ++ N 3) u
      (stored_apart 1 0 s s) (stored_apart 2 0 s s) (stored_apart 3 0 s s) (stored_apart 2 1 s s) (stored_apart 3 1 s s) (stored_apart 3 2 s s)
      ∙ gathered (B 0) (B 1) (B 2) (B 3) (N 0) (N 1) (N 2) (N 3) v (back_apart 1 0 s s) (back_apart 2 0 s s) (back_apart 3 0 s s) (back_apart 2 1 s s)
      (back_apart 3 1 s s) (back_apart 3 2 s s)
      ∙ put_all-append (N 0 ++ N 1 ++ N 2) (N 3) w
      ∙ ap (put_all cells (N 3)) (put_all-append (N 0 ++ N 1) (N 2) w ∙ ap (put_all cells (N 2)) (put_all-append (N 0) (N 1) w))
      ∙ advanced s w

  pub four_moves : (x : Around) (s : State) → x.actor ≡ Thread → NoTaint s
      → four_beats cells (moves_tree i x) (λ u. Ok (retired u)) s ≡ as_stops (moves_by_words i s)
  four_moves x s thread clean =
      let s1 = handed i 0 s in
      let s2 = handed i 1 s1 in
      let s3 = handed i 2 s2 in
      let len = byte_count i.memory in
      let same1 : (b : ℕ) → 0 < b → b < 4 → Same i is b s s1 = λ b low high. same_next i is b 0 s s low high (same_start i is b s) in
      let same2 : (b : ℕ) → 1 < b → b < 4 → Same i is b s s2 = λ b low high. same_next i is b 1 s s1 low high (same1 b (omega arith) high) in
      let same3 : Same i is 3 s s3 = same_next i is 3 2 s s2 (omega arith) (omega arith) (same2 3 (omega arith) (omega arith)) in
      let keeps1 : i.store ≡ true → s1 ≡ s = λ e. store_keeps i is 0 s e in
      let keeps2 : i.store ≡ true → s2 ≡ s = λ e. store_keeps i is 1 s1 e ∙ keeps1 e in
      let keeps3 : i.store ≡ true → s3 ≡ s = λ e. store_keeps i is 2 s2 e ∙ keeps2 e in
      let one = same1 1 (omega arith) (omega arith) in
      let two = same2 2 (omega arith) (omega arith) in
      let end : Result State Stop = Ok (moved i s) in
      four_faulting (moves_tree i x) (fault_at i) (loaded_at i) (others_of i false) (λ b u c. moves_effect i x b u thread c) (byte_loaded i)
      (λ u. Ok (retired u)) s clean
      (uses_unwritten i is x false) (links_free i is false)
      ∙ (λ j. stop_first (fault_at i 0 s)
      (stop_first (first_fault i.store len (same_elements i is 1 s s1 one j)) (stop_first (first_fault i.store len (same_elements i is 2 s s2 two j))
      (stop_first (first_fault i.store len (same_elements i is 3 s s3 same3 j))
      (Ok (retired (put_all cells (others_of i false 0 s ++ same_others i is 1 s s1 keeps1 one j ++ same_others i is 2 s s2 keeps2 two j
      ++ same_others i is 3 s s3 keeps3 same3 j) (handed i 3 s3))))))))
      ∙ ap (λ (u : State). stop_first (fault_at i 0 s)
      (stop_first (fault_at i 1 s) (stop_first (fault_at i 2 s) (stop_first (fault_at i 3 s) (Ok (retired u)))))) (in_order s (handed i 3 s3))
      ∙ sym (stops_unless (first_fault i.store len (all_elements i s)) (moved i s)
      ∙ first_fault-append i.store len (elements_at i 0 s ++ elements_at i 1 s ++ elements_at i 2 s) (elements_at i 3 s) end
      ∙ first_fault-append i.store len (elements_at i 0 s ++ elements_at i 1 s) (elements_at i 2 s) (stop_first (fault_at i 3 s) end)
      ∙ first_fault-append i.store len (elements_at i 0 s) (elements_at i 1 s) (stop_first (fault_at i 2 s) (stop_first (fault_at i 3 s) end)))

  -- THE LAWS
  unset : (x : Around) (k : ℕ) (s : State) (c : Cell) → Off c (loaded_at i k s) → Off c (others_of i (marks x.actor) k s)
      → (action cells (moves_tree i x k)).sets s c ≡ false
  unset x k s c g h =
      ap (λ (l : Leaf Cell Value Stop). holds cells (targets l.writes) c) (reach_moves i x k s)
      ∙ holds_written (leaf_at i x k s).writes (map s.cell (leaf_at i x k s).reads) c
      (subst (λ ws. Off c ws) (sym (written_leaf i x k s)) (off-append c (loaded_at i k s) (others_of i (marks x.actor) k s) g h))

  unset_place : (x : Around) (k : ℕ) (s : State) (p : Place) → is_word p ≡ false → Unwritten p (i.back k (sources_at i k s)) → IsStill k (At p)
      → (action cells (moves_tree i x k)).sets s (At p) ≡ false
  unset_place x k s p w h l = unset x k s (At p) (off_filled i is k s p w) (off_others i (marks x.actor) k s p h l)

  pub moves_keep_lr : (x : Around) → SparesLr i → KeepsLr (moves_tree i x)
  moves_keep_lr x h k s = unset_place x k s (R 14) refl (h k (sources_at i k s)) (body_still (R 14) k refl)

  moves_later : (x : Around) (b k : ℕ) (s : State) → k < b → b < 4 → (c : Cell) → tested cells (moves_tree i x b) s c ≡ true
      → (action cells (moves_tree i x k)).sets s c ≡ false
  moves_later x b k s low high c h =
      let ts = map At (begun_places i.predicated b s) ++ map At (i.sources b) in
      held_of (λ (c : Cell). Off c (loaded_at i k s) → (action cells (moves_tree i x k)).sets s c ≡ false) ts c
      (weaker ts (unwritten_tests i is (marks x.actor) b k s low high)) held
      (held_of (λ (c : Cell). Off c (loaded_at i k s)) ts c
      (each-append (λ (c : Cell). Off c (loaded_at i k s)) (map At (begun_places i.predicated b s)) (map At (i.sources b)) begun
      (sourced (i.sources b) (sources_filled i is b k low high s))) held)
    where
      held : holds cells (map At (begun_places i.predicated b s) ++ map At (i.sources b)) c ≡ true
      held = sym (ap (λ cs. holds cells cs c) (tests_moves i x b s)) ∙ h

      weaker : (cs : List Cell) → Each (λ (c : Cell). (v : State) → Off c (others_of i (marks x.actor) k v)) cs
          → Each (λ (c : Cell). Off c (loaded_at i k s) → (action cells (moves_tree i x k)).sets s c ≡ false) cs
      weaker [] g = tt
      weaker (c ∷ cs) g = (λ off. unset x k s c off (g.0 s), weaker cs g.1)

      sourced : (ps : List Place) → Each (λ (p : Place). Off (At p) (loaded_at i k s)) ps → Each (λ (c : Cell). Off c (loaded_at i k s)) (map At ps)
      sourced [] g = tt
      sourced (p ∷ ps) g = (g.0, sourced ps g.1)

      begun : Each (λ (c : Cell). Off c (loaded_at i k s)) (map At (begun_places i.predicated b s))
      begun = begun_each (λ (c : Cell). Off c (loaded_at i k s)) i.predicated b s
          (off_filled i is k s (mask_place b) (mask_no_word i is b)) (off_filled i is k s Ltp refl) (off_filled i is k s (R 14) refl)
          (off_filled i is k s (P0 b) refl)

  moves_careful : (x : Around) (b : ℕ) (s : State) → x.actor ≡ Thread → Careful cells is_tainted (moves_tree i x b) s
  moves_careful x b s thread = record {
    tests = of_tests;
    reads = of_reads;
    stops = subst (λ (l : Leaf Cell Value Stop). StopsAs is_tainted l.checks) (sym (reach_moves i x b s))
        (checks_stop x i.store (byte_count i.memory) (elements_at i b s));
    fails = subst (λ (l : Leaf Cell Value Stop). FailsElse is_tainted l.checks) (sym (reach_moves i x b s))
        (checks_fail x i.store (byte_count i.memory) (elements_at i b s) thread);
    lives = subst (λ (l : Leaf Cell Value Stop). WritesLive cells l.writes) (sym (reach_moves i x b s)) (leaf_lives i x b s thread);
  }
    where
      of_tests : (c : Cell) → holds cells (tests (moves_tree i x b) s) c ≡ true → (v : Value) → is_dead c v ≡ false
      of_tests (At p) e v = refl
      of_tests (Byte a) e v = true_not_false _ e (ap (λ cs. holds cells cs (Byte a)) (tests_moves i x b s)
          ∙ holds-append (map At (begun_places i.predicated b s)) (map At (i.sources b)) (Byte a)
          ∙ (λ j. no_byte (begun_places i.predicated b s) a j || no_byte (i.sources b) a j))

      of_reads : (c : Cell) → holds cells (reach (moves_tree i x b) s).reads c ≡ true
          → ((v : Value) → is_dead c v ≡ false) ⊎ (holds cells (asked (reach (moves_tree i x b) s).checks) c ≡ true)
      of_reads (At p) e = inl (λ v. refl)
      of_reads (Byte a) e = inr (ap (λ (l : Leaf Cell Value Stop). holds cells (asked l.checks) (Byte a)) (reach_moves i x b s)
          ∙ leaf_read_asked i x b s a thread (sym (ap (λ (l : Leaf Cell Value Stop). holds cells l.reads (Byte a)) (reach_moves i x b s)) ∙ e))

  moves_asks : (x : Around) (b : ℕ) (s : State) (c : Cell) → holds cells (asked (reach (moves_tree i x b) s).checks) c ≡ true
      → holds cells (reach (moves_tree i x b) s).reads c ≡ true
  moves_asks x b s c h = ap (λ (l : Leaf Cell Value Stop). holds cells l.reads c) (reach_moves i x b s)
      ∙ leaf_asks i x b s c (sym (ap (λ (l : Leaf Cell Value Stop). holds cells (asked l.checks) c) (reach_moves i x b s)) ∙ h)

  moves_next : (s t : State) → moves_by_words i s ≡ Ok t → t.pc ≡ s.pc + 4
  moves_next s t e = go (first_fault i.store (byte_count i.memory) (all_elements i s)) e
    where
      pc_handed : (b : ℕ) (u : State) → (handed i b u).pc ≡ u.pc
      pc_handed b u = pc-put_all (loaded_at i b u) u

      go : (o : Option Fault) → unless o (Ok (moved i s)) ≡ Ok t → t.pc ≡ s.pc + 4
      go (Some f) h = absurd (ok_err (sym h))
      go None h =
          let s1 = handed i 0 s in
          let s2 = handed i 1 s1 in
          let s3 = handed i 2 s2 in
          ap (λ (u : State). u.pc) (sym (ok_same h))
          ∙ ap (λ n. n + 4) (pc-put_all (advance_half 0 s ++ advance_half 2 s) _
          ∙ pc-put_all (back_at i 0 s ++ back_at i 1 s ++ back_at i 2 s ++ back_at i 3 s) _
          ∙ pc-put_all (stored_at i false 0 s ++ stored_at i false 1 s ++ stored_at i false 2 s ++ stored_at i false 3 s) _ ∙ pc_handed 3 s3 ∙ pc_handed 2 s2
          ∙ pc_handed 1 s1 ∙ pc_handed 0 s)

  pub moves_laws : RowLaws (moves_tree i) (moves_by_words i)
  moves_laws = record {
    later = λ x b k s low high runs c h. moves_later x b k s low high c h;
    asks = λ x b s c h. moves_asks x b s c h;
    size = λ x b s. unset_place x b s Ltp refl (bodies_off _ Ltp refl (is.back b (sources_at i b s))) (size_still b);
    flag = λ x b s. unset_place x b s Sticky refl (bodies_off _ Sticky refl (is.back b (sources_at i b s))) (flag_still b);
    taints = λ x b s. subst (λ (l : Leaf Cell Value Stop). WritesTaint (marks x.actor) l.writes) (sym (reach_moves i x b s)) (leaf_taints i x b s);
    careful = λ x b s thread. moves_careful x b s thread;
    four = λ x s thread runs clean. four_moves x s thread clean;
    next = moves_next;
  }
