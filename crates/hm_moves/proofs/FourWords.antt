-- The elements of four words of a register: their faults, and that moving them word by word moves those of the register.
use Rattle.std.proofs.Common.{◌≡◌, Ok, ℕ, zero, suc, ◌+◌, ◌*◌, ◌≤◌, Bool, true, false, cond, ◌&&◌, List, [], ◌∷◌, ◌++◌, get_or, map, Option, Some, None, refl}
use Rattle.std.proofs.Common.{sym, ◌∙◌, ap, append_assoc}
use Rattle.std.specs.Option.{option_or}
use Rattle.hm_base.specs.declared.Fault.{Fault}
use Rattle.hm_base.specs.declared.Place.TheVariants.{R, P0, Ltp}
use Rattle.hm_lane.specs.declared.lanes.Size.{Size}
use Rattle.hm_lane.specs.declared.lanes.Size.TheVariants as size
use Rattle.hm_lane.specs.Lanes.{bytes_of, firsts, lanes, per_word, unlanes, word_of}
use Rattle.hm_lane.specs.Predicate.{allowed, mask_place, remains}
use Rattle.hm_mem.specs.declared.Access.TheVariants.{Vector}
use Rattle.hm_mem.specs.Seen.{fault_kind}
use Rattle.hm_base.specs.Results.{unless}
use Rattle.hm_state.specs.Store.{put_all}
use Rattle.hm_state.specs.State.{At, Byte, Cell, State, Value, at, cells, word}
use Rattle.hm_beat.specs.Touches.{span_bytes}
use Rattle.hm_beat.specs.Rows.{active_at, advance_half, predicate_at, register_at, retired, word_place, write_register}
use Rattle.hm_beat.proofs.Whole.{put_all-append}
use Rattle.hm_kinds.specs.Row.{numbers}
use Rattle.hm_moves.specs.declared.elements.Element.{Element}
use Rattle.hm_moves.specs.Moves.{Moves, all_bytes_from, as_loaded, fault_after, filled, first_fault, byte_count}
use Rattle.hm_moves.specs.Moves as moves
use Rattle.hm_moves.specs.Ways.{Found, each_from, moves_by}
use Rattle.hm_moves.specs.Wholes.{fault_of, loaded_elements, read_at, number_bytes, element_bytes}
use Rattle.hm_moves.proofs.OneWord.{active_faults, filled_word, placed, stored_word, word_active, word_elements}

-- FAULTS OF FOUR WORDS
-- lists of one length
abbrev Alike : {A B : Type 0} → List A → List B → Type 0
Alike [] [] = Unit {0}
Alike (x ∷ xs) (y ∷ ys) = Alike xs ys
Alike xs ys = ⊥

alike_each : {A B : Type 0} (f : ℕ → A) (g : ℕ → B) (j n : ℕ) → Alike (each_from f j n) (each_from g j n)
alike_each f g j zero = tt
alike_each f g j (suc n) = alike_each f g (j + 1) n

alike-append : {A B : Type 0} (xs us : List A) (ys vs : List B) → Alike xs ys → Alike us vs → Alike (xs ++ us) (ys ++ vs)
alike-append [] us [] vs h k = k
alike-append [] us (y ∷ ys) vs h k = absurd h
alike-append (x ∷ xs) us [] vs h k = absurd h
alike-append (x ∷ xs) us (y ∷ ys) vs h k = alike-append xs us ys vs h k

or_else_assoc : (f g h : Option Fault) → option_or (option_or f g) h ≡ option_or f (option_or g h)
or_else_assoc None g h = refl
or_else_assoc (Some f) g h = refl

-- the first fault of two lists
faults-append : (store : Bool) (len : ℕ) (es fs : List Element)
    → first_fault store len (es ++ fs) ≡ option_or (first_fault store len es) (first_fault store len fs)
faults-append store len [] fs = refl
faults-append store len (e ∷ es) fs =
    let f = fault_after (fault_kind true Vector store len e.addr) e.addr in
    ap (option_or f) (faults-append store len es fs) ∙ sym (or_else_assoc f (first_fault store len es) (first_fault store len fs))

fault_of-append : (store : Bool) (len : ℕ) (ps qs : List Bool) (xs ys : List ℕ) → Alike ps xs
    → fault_of store len (ps ++ qs) (xs ++ ys) ≡ option_or (fault_of store len ps xs) (fault_of store len qs ys)
fault_of-append store len [] qs [] ys h = refl
fault_of-append store len [] qs (x ∷ xs) ys h = absurd h
fault_of-append store len (p ∷ ps) qs [] ys h = absurd h
fault_of-append store len (p ∷ ps) qs (x ∷ xs) ys h =
    let f = cond p (fault_after (fault_kind true Vector store len x) x) None in
    ap (option_or f) (fault_of-append store len ps qs xs ys h) ∙ sym (or_else_assoc f (fault_of store len ps xs) (fault_of store len qs ys))

-- the addresses of the elements of four words, and which are active
abbrev pub four_addresses : Size → (ℕ → ℕ → ℕ) → List ℕ
four_addresses z f = each_from (f 0) 0 (per_word z) ++ each_from (f 1) 0 (per_word z) ++ each_from (f 2) 0 (per_word z) ++ each_from (f 3) 0 (per_word z)

abbrev four_active : Size → (ℕ → List Bool) → List Bool
four_active z q = word_active z (q 0) ++ word_active z (q 1) ++ word_active z (q 2) ++ word_active z (q 3)

module _ (store : Bool) (len : ℕ) (z : Size) (f : ℕ → ℕ → ℕ) (q : ℕ → List Bool) where
  abbrev es : ℕ → List Element
  es b = word_elements z (f b) (q b)

  abbrev ps : ℕ → List Bool
  ps b = word_active z (q b)

  abbrev xs : ℕ → List ℕ
  xs b = each_from (f b) 0 (per_word z)

  alike : (b : ℕ) → Alike (ps b) (xs b)
  alike b = alike_each (λ j. get_or (q b) (byte_count z * j) false) (f b) 0 (per_word z)

  alike2 : Alike (ps 0 ++ ps 1) (xs 0 ++ xs 1)
  alike2 = alike-append (ps 0) (ps 1) (xs 0) (xs 1) (alike 0) (alike 1)

  alike3 : Alike (ps 0 ++ ps 1 ++ ps 2) (xs 0 ++ xs 1 ++ xs 2)
  alike3 = alike-append (ps 0 ++ ps 1) (ps 2) (xs 0 ++ xs 1) (xs 2) alike2 (alike 2)

  -- the first fault of the elements of four words
  four_faults : first_fault store len (es 0 ++ es 1 ++ es 2 ++ es 3) ≡ fault_of store len (four_active z q) (four_addresses z f)
  four_faults =
      let e : (b : ℕ) → first_fault store len (es b) ≡ fault_of store len (ps b) (xs b) = λ b. active_faults store len (q b) (placed z (f b)) 0 (per_word z) in
      faults-append store len (es 0 ++ es 1 ++ es 2) (es 3) ∙ (λ j. option_or (faults-append store len (es 0 ++ es 1) (es 2) j) (e 3 j))
      ∙ (λ j. option_or (option_or (faults-append store len (es 0) (es 1) j) (e 2 j)) (fault_of store len (ps 3) (xs 3)))
      ∙ (λ j. option_or (option_or (option_or (e 0 j) (e 1 j)) (fault_of store len (ps 2) (xs 2))) (fault_of store len (ps 3) (xs 3)))
      ∙ sym (fault_of-append store len (ps 0 ++ ps 1 ++ ps 2) (ps 3) (xs 0 ++ xs 1 ++ xs 2) (xs 3) alike3
      ∙ ap (λ o. option_or o (fault_of store len (ps 3) (xs 3))) (fault_of-append store len (ps 0 ++ ps 1) (ps 2) (xs 0 ++ xs 1) (xs 2) alike2
      ∙ ap (λ o. option_or o (fault_of store len (ps 2) (xs 2))) (fault_of-append store len (ps 0) (ps 1) (xs 0) (xs 1) (alike 0))))

-- STORES OF FOUR WORDS
-- what two lists of elements are stored to
stored-append : (y : Size) (ps qs : List Bool) (xs us vs ws : List ℕ) → Alike ps xs → Alike ps vs
    → element_bytes y (ps ++ qs) (xs ++ us) (vs ++ ws) ≡ element_bytes y ps xs vs ++ element_bytes y qs us ws
stored-append y [] qs [] us [] ws h k = refl
stored-append y [] qs (x ∷ xs) us vs ws h k = absurd h
stored-append y [] qs [] us (v ∷ vs) ws h k = absurd k
stored-append y (p ∷ ps) qs [] us vs ws h k = absurd h
stored-append y (p ∷ ps) qs (x ∷ xs) us [] ws h k = absurd k
stored-append y (p ∷ ps) qs (x ∷ xs) us (v ∷ vs) ws h k =
    let bs = cond p (number_bytes v 0 (span_bytes x (byte_count y))) [] in
    ap (λ cs. bs ++ cs) (stored-append y ps qs xs us vs ws h k) ∙ sym (append_assoc bs (element_bytes y ps xs vs) (element_bytes y qs us ws))

-- the lanes of a register are those of its words
abbrev pub word_lanes : Size → ℕ → List ℕ
word_lanes z x = each_from (λ k. get_or (lanes z (bytes_of x)) k 0) 0 (per_word z)

pub four_lanes : (z : Size) (x : ℕ → ℕ)
    → lanes z (bytes_of (x 0) ++ bytes_of (x 1) ++ bytes_of (x 2) ++ bytes_of (x 3))
    ≡ word_lanes z (x 0) ++ word_lanes z (x 1) ++ word_lanes z (x 2) ++ word_lanes z (x 3)
four_lanes size.Byte x = refl
four_lanes size.Half x = refl
four_lanes size.Word x = refl

module _ (y z : Size) (f : ℕ → ℕ → ℕ) (q : ℕ → List Bool) (x : ℕ → ℕ) (narrow : byte_count y ≤ byte_count z) where
  abbrev active : ℕ → List Bool
  active b = word_active z (q b)

  abbrev found : ℕ → List ℕ
  found b = each_from (f b) 0 (per_word z)

  abbrev held : ℕ → List ℕ
  held b = word_lanes z (x b)

  abbrev kept : ℕ → List (Cell × Value)
  kept b = all_bytes_from false y (word_elements z (f b) (q b)) (x b ∷ [])

  each_alike : (b : ℕ) → Alike (active b) (found b)
  each_alike b = alike_each (λ j. get_or (q b) (byte_count z * j) false) (f b) 0 (per_word z)

  each_held : (b : ℕ) → Alike (active b) (held b)
  each_held b = alike_each (λ j. get_or (q b) (byte_count z * j) false) (λ k. get_or (lanes z (bytes_of (x b))) k 0) 0 (per_word z)

  -- the bytes that four words are stored to are those of the elements of their register
  four_stored : kept 0 ++ kept 1 ++ kept 2 ++ kept 3
      ≡ element_bytes y (four_active z q) (four_addresses z f) (lanes z (bytes_of (x 0) ++ bytes_of (x 1) ++ bytes_of (x 2) ++ bytes_of (x 3)))
  four_stored =
      let e : (b : ℕ) → kept b ≡ element_bytes y (active b) (found b) (held b) = λ b. stored_word y z (q b) (f b) (x b) narrow in
      let two = alike-append (active 0) (active 1) (found 0) (found 1) (each_alike 0) (each_alike 1) in
      let three = alike-append (active 0 ++ active 1) (active 2) (found 0 ++ found 1) (found 2) two (each_alike 2) in
      let two_held = alike-append (active 0) (active 1) (held 0) (held 1) (each_held 0) (each_held 1) in
      let three_held = alike-append (active 0 ++ active 1) (active 2) (held 0 ++ held 1) (held 2) two_held (each_held 2) in
      (λ j. e 0 j ++ e 1 j ++ e 2 j ++ e 3 j)
      ∙ sym (ap (element_bytes y (four_active z q) (four_addresses z f)) (four_lanes z x)
      ∙ stored-append y (active 0 ++ active 1 ++ active 2) (active 3) (found 0 ++ found 1 ++ found 2) (found 3) (held 0 ++ held 1 ++ held 2) (held 3) three
      three_held
      ∙ ap (λ cs. cs ++ element_bytes y (active 3) (found 3) (held 3))
      (stored-append y (active 0 ++ active 1) (active 2) (found 0 ++ found 1) (found 2) (held 0 ++ held 1) (held 2) two two_held
      ∙ ap (λ cs. cs ++ element_bytes y (active 2) (found 2) (held 2))
      (stored-append y (active 0) (active 1) (found 0) (found 1) (held 0) (held 1) (each_alike 0) (each_held 0))))

-- LOADS OF FOUR WORDS
-- a register takes the words of its elements
four_loaded : (z : Size) (d : ℕ) (g : ℕ → ℕ) (q : ℕ → List Bool) (f : ℕ → ℕ → ℕ)
    → (let w : ℕ → ℕ = λ b. word_of (unlanes z (loaded_elements g (word_active z (q b)) (each_from (f b) 0 (per_word z)))) in
    write_register d (unlanes z (loaded_elements g (four_active z q) (four_addresses z f)))
    ≡ (At (word_place d 0), word (w 0)) ∷ (At (word_place d 1), word (w 1)) ∷ (At (word_place d 2), word (w 2)) ∷ (At (word_place d 3), word (w 3)) ∷ [])
four_loaded size.Byte d g q f = refl
four_loaded size.Half d g q f = refl
four_loaded size.Word d g q f = refl

-- what the predicate says of elements
four_firsts : (z : Size) (p : ℕ → ℕ → Bool)
    → (let q : ℕ → List Bool = λ b. p b 0 ∷ p b 1 ∷ p b 2 ∷ p b 3 ∷ [] in firsts z (q 0 ++ q 1 ++ q 2 ++ q 3) ≡ four_active z q)
four_firsts size.Byte p = refl
four_firsts size.Half p = refl
four_firsts size.Word p = refl

active_whole : (z : Size) (s : State) → firsts z (predicate_at s) ≡ four_active z (λ b. active_at b s)
active_whole z s = four_firsts z (λ b j. allowed (at (mask_place b) s) (at (P0 b) s) j && remains (at Ltp s) (at (R 14) s) (4 * b + j))

-- THE WHOLE
-- a row that loads
abbrev pub load : Size → Size → Bool → Found → Moves
load y z sign w = moves_by (record { store = false; memory = y; register = z; signed = sign; found = w })

-- what registers and bytes get, then what is written back, then the advance
pub writes_joined : (ts ws us vs : List (Cell × Value)) (s : State)
    → put_all cells (us ++ vs) (put_all cells ws (put_all cells ts s)) ≡ put_all cells (ts ++ ws ++ us ++ vs) s
writes_joined ts ws us vs s =
    put_all-append us vs (put_all cells ws (put_all cells ts s))
    ∙ sym (put_all-append (ts ++ ws ++ us) vs s ∙ ap (put_all cells vs) (put_all-append (ts ++ ws) us s ∙ ap (put_all cells us) (put_all-append ts ws s)))

module _ (y z : Size) (d : ℕ) (f : ℕ → ℕ → ℕ) (s : State) where
  -- the elements of beat b
  abbrev of_beat : ℕ → List Element
  of_beat b = word_elements z (f b) (active_at b s)

  abbrev of_all : List Element
  of_all = of_beat 0 ++ of_beat 1 ++ of_beat 2 ++ of_beat 3

  abbrev ended : State → State
  ended u = retired (put_all cells (advance_half 0 s ++ advance_half 2 s) u)

  abbrev whole : List (Cell × Value) → List (Cell × Value) → State
  whole ts ws = retired (put_all cells (ts ++ ws ++ advance_half 0 s ++ advance_half 2 s) s)

  abbrev are_active : List Bool
  are_active = firsts z (predicate_at s)

  faults : (store : Bool) (xs : List ℕ) → xs ≡ four_addresses z f → first_fault store (byte_count y) of_all ≡ fault_of store (byte_count y) are_active xs
  faults store xs e = four_faults store (byte_count y) z f (λ b. active_at b s) ∙ sym (λ j. fault_of store (byte_count y) (active_whole z s j) (e j))

  -- the bytes of word b
  abbrev bytes_at : ℕ → List (Cell × Value)
  bytes_at b = all_bytes_from false y (of_beat b) (at (word_place d b) s ∷ [])

  -- a store of four words is that of their register
  pub stores_whole : byte_count y ≤ byte_count z → (xs : List ℕ) → xs ≡ four_addresses z f → (ws vs : List (Cell × Value)) → ws ≡ vs
      → unless (first_fault true (byte_count y) of_all) (Ok (ended (put_all cells ws (put_all cells (bytes_at 0 ++ bytes_at 1 ++ bytes_at 2 ++ bytes_at 3) s))))
      ≡ unless (fault_of true (byte_count y) are_active xs) (Ok (whole (element_bytes y are_active xs (lanes z (register_at d s))) vs))
  stores_whole narrow xs e ws vs g =
      let stored : bytes_at 0 ++ bytes_at 1 ++ bytes_at 2 ++ bytes_at 3 ≡ element_bytes y are_active xs (lanes z (register_at d s))
      = four_stored y z f (λ b. active_at b s) (λ b. at (word_place d b) s) narrow
      ∙ sym (λ j. element_bytes y (active_whole z s j) (e j) (lanes z (register_at d s))) in
      (λ j. unless (faults true xs e j) (Ok (ended (put_all cells (g j) (put_all cells (stored j) s)))))
      ∙ ap (λ u. unless (fault_of true (byte_count y) are_active xs) (Ok (retired u)))
      (writes_joined (element_bytes y are_active xs (lanes z (register_at d s))) vs (advance_half 0 s) (advance_half 2 s) s)

  module _ (sign : Bool) (w : Found) where
    abbrev g : ℕ → ℕ
    g a = as_loaded (load y z sign w) (read_at y s a)

    -- what word b gets
    abbrev filled_at : ℕ → ℕ
    filled_at b = filled (load y z sign w) 0 (of_beat b) (numbers (map s.cell (map Byte (moves.bytes_of_elements y (of_beat b)) ++ [])))

    abbrev word_writes : ℕ → List (Cell × Value)
    word_writes b = (At (word_place d b), word (filled_at b)) ∷ []

    -- a load of four words is that of their register
    pub loads_whole : (xs : List ℕ) → xs ≡ four_addresses z f → (ws vs : List (Cell × Value)) → ws ≡ vs
        → unless (first_fault false (byte_count y) of_all)
        (Ok (ended (put_all cells ws
        (put_all cells (word_writes 3) (put_all cells (word_writes 2) (put_all cells (word_writes 1) (put_all cells (word_writes 0) s)))))))
        ≡ unless (fault_of false (byte_count y) are_active xs) (Ok (whole (write_register d (unlanes z (loaded_elements g are_active xs))) vs))
    loads_whole xs e ws vs h =
        let new : (b : ℕ) → filled_at b ≡ word_of (unlanes z (loaded_elements g (word_active z (active_at b s)) (each_from (f b) 0 (per_word z))))
        = λ b. filled_word (load y z sign w) s (active_at b s) (f b) in
        let register = write_register d (unlanes z (loaded_elements g are_active xs)) in
        let loaded : word_writes 0 ++ word_writes 1 ++ word_writes 2 ++ word_writes 3 ≡ register
        = (λ j. (At (word_place d 0), word (new 0 j)) ∷ (At (word_place d 1), word (new 1 j)) ∷ (At (word_place d 2), word (new 2 j))
        ∷ (At (word_place d 3), word (new 3 j)) ∷ [])
        ∙ sym (four_loaded z d g (λ b. active_at b s) f) ∙ sym (λ j. write_register d (unlanes z (loaded_elements g (active_whole z s j) (e j)))) in
        (λ j. unless (faults false xs e j) (Ok (ended (put_all cells (h j) (put_all cells (loaded j) s)))))
        ∙ ap (λ u. unless (fault_of false (byte_count y) are_active xs) (Ok (retired u))) (writes_joined register vs (advance_half 0 s) (advance_half 2 s) s)
