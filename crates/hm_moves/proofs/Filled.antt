-- What the code fills words with, and what a beat then has done.
use Rattle.std.proofs.Common.{◌≡◌, ℕ, suc, ◌+◌, ◌*◌, ◌%◌, ◌^◌, ◌<◌, Bool, true, false, not, cond, ◌||◌, List, [], ◌∷◌, ◌++◌, drop, get_or, length, map, None}
use Rattle.std.proofs.Common.{refl, sym, ◌∙◌, ap, subst, arith}
use Rattle.std.specs.Prelude.{All, if◌then◌else◌}
use Rattle.std.proofs.lemmas.List.{append_assoc, get_or-map, map-append}
use Rattle.std.proofs.lemmas.List.Elements.{All-head, All-tail}
use Rattle.hm_base.specs.Place.{IsPlace, same_place}
use Rattle.hm_base.specs.declared.Place.{Place}
use Rattle.hm_base.specs.declared.Place.TheVariants.{R, QWord, P0, Mask01, Mask23, Carry, Ltp, Sticky}
use Rattle.hm_regs.specs.declared.Regs.{Regs}
use Rattle.hm_regs.specs.Place.{value_at}
use Rattle.hm_regs.specs.Writes.{write}
use Rattle.hm_lane.specs.declared.lanes.Size.{Size}
use Rattle.hm_lane.specs.declared.lanes.Size.TheVariants as size
use Rattle.hm_mem.specs.declared.Access.TheVariants.{Vector}
use Rattle.hm_mem.specs.Devices.{little}
use Rattle.hm_mem.specs.Memory.{Memory, byte_at}
use Rattle.hm_mem.specs.Seen.{Seen, is_thread, lies_in_memory, read, seen, stop_of}
use Rattle.hm_order.proofs.Results.{true_not_false}
use Rattle.hm_state.specs.State.{AreCells, At, Byte, Cell, State, into, state_of}
use Rattle.hm_state.proofs.Cells.{proper_cell}
use Rattle.hm_beat.specs.Rows.{Each}
use Rattle.hm_beat.specs.Touches.{span_bytes}
use Rattle.hm_beat.proofs.Footprint.{at_is}
use Rattle.hm_kinds.specs.Row.{numbers}
use Rattle.hm_moves.specs.declared.elements.Element.{Element}
use Rattle.hm_moves.specs.Coded.{filled_in, first_stop, old_word, word_puts}
use Rattle.hm_moves.specs.Moves.{Moves, all_bytes_from, bytes_of_elements, elements_at, filled, is_word, laid, loaded_at, little_endian, stored_at, byte_count}
use Rattle.hm_moves.specs.Moves.{words_from}
use Rattle.hm_moves.proofs.Accesses.{in_memory, within}
use Rattle.hm_mem.proofs.Stops.{fault_free, neither_stops}

-- BYTES
taken : (y : Bool) (p q : ℕ) → y ≡ true → p ≡ (if y then p else q)
taken true p q h = refl
taken false p q h = cc

one_byte : (p : ℕ) → p + 256 * 0 ≡ p
one_byte p = omega arith

two_bytes : (p q : ℕ) → p + 256 * (q + 256 * 0) ≡ p + 256 * q
two_bytes p q = omega arith

four_bytes : (p q r s : ℕ) → p + 256 * (q + 256 * (r + 256 * (s + 256 * 0))) ≡ p + 256 * q + 65536 * r + 16777216 * s
four_bytes p q r s = omega arith

-- the number of the bytes of an element is what is read there
number_read : (m : Memory) (z : Size) (a : ℕ) (xs : List ℕ) → lies_in_memory (byte_count z) a ≡ true
    → little_endian (byte_count z) (map (byte_at m) (span_bytes a (byte_count z)) ++ xs) ≡ read (byte_count z) a (seen m)
number_read m size.Byte a xs h = one_byte (byte_at m a) ∙ taken (lies_in_memory 1 a) (byte_at m a) _ h
number_read m size.Half a xs h =
    ap (λ b. byte_at m a + 256 * (byte_at m b + 256 * 0)) (within size.Half a 1 h (omega arith))
    ∙ two_bytes (byte_at m a) (byte_at m (a + 1)) ∙ taken (lies_in_memory 2 a) (little 2 (byte_at m) a) _ h
number_read m size.Word a xs h =
    (λ j. byte_at m a + 256 * (byte_at m (within size.Word a 1 h (omega arith) j) + 256 *
    (byte_at m (within size.Word a 2 h (omega arith) j) + 256 * (byte_at m (within size.Word a 3 h (omega arith) j) + 256 * 0))))
    ∙ four_bytes (byte_at m a) (byte_at m (a + 1)) (byte_at m (a + 2)) (byte_at m (a + 3)) ∙ taken (lies_in_memory 4 a) (little 4 (byte_at m) a) _ h

drop_bytes : (m : Memory) (z : Size) (a : ℕ) (xs : List ℕ) → drop (byte_count z) (map (byte_at m) (span_bytes a (byte_count z)) ++ xs) ≡ xs
drop_bytes m size.Byte a xs = refl
drop_bytes m size.Half a xs = refl
drop_bytes m size.Word a xs = refl

bytes_read : (m : Memory) (r : Regs) (output : List ℕ) (bs : List ℕ) (cs : List Cell)
    → numbers (map (state_of r m output).cell (map Byte bs ++ cs)) ≡ map (byte_at m) bs ++ numbers (map (state_of r m output).cell cs)
unfolding state_of
bytes_read m r output [] cs = refl
bytes_read m r output (b ∷ bs) cs = ap (λ xs. byte_at m b ∷ xs) (bytes_read m r output bs cs)

-- it is not QC
word_plain : (p : Place) → is_word p ≡ true → same_place p Sticky ≡ false
word_plain (QWord n) h = refl
word_plain (R n) h = refl
word_plain (P0 n) h = refl
word_plain Mask01 h = refl
word_plain Mask23 h = refl
word_plain Carry h = refl
word_plain Ltp h = refl
word_plain Sticky h = true_not_false false h refl

abbrev pub Words : List Place → Type 0
Words ws = Each (λ (p : Place). is_word p ≡ true) ws

module _ (m : Memory) (r : Regs) (output : List ℕ) where
  abbrev s : State
  s = state_of r m output

  -- what stands in words
  pub words_hold : (ws : List Place) → All IsPlace ws → Words ws → numbers (map s.cell (map At ws)) ≡ map (λ p. value_at p r) ws
  words_hold [] placed are = refl
  words_hold (p ∷ ws) placed are =
      λ j. at_is p r m output (All-head IsPlace p ws placed) (word_plain p are.0) j ∷ words_hold ws (All-tail IsPlace p ws placed) are.1 j

  -- the elements that are loaded are those that the tree reads
  filled_read : (i : Moves) (k : ℕ) (es : List Element) (cs : List Cell) → first_stop m.around false (byte_count i.memory) es (seen m) ≡ None
      → filled i k es (numbers (map s.cell (map Byte (bytes_of_elements i.memory es) ++ cs)))
      ≡ filled_in i k es (get_or (numbers (map s.cell cs)) k 0 % 2 ^ 32) (seen m)
  filled_read i k [] cs free = refl
  filled_read i k (e ∷ es) cs free =
      let z = i.memory in
      let both = neither_stops (stop_of m.around Vector false (byte_count z) e.addr (seen m)) (first_stop m.around false (byte_count z) es (seen m)) free in
      let no_fault = fault_free m.around Vector false (byte_count z) e.addr (seen m) both.0 in
      let lies = (in_memory (is_thread m.around.actor) false (byte_count z) e.addr no_fault).0 in
      let bs = span_bytes e.addr (byte_count z) in
      let rest = map Byte (bytes_of_elements z es) ++ cs in
      let xs = numbers (map s.cell rest) in
      let split : numbers (map s.cell (map Byte (bs ++ bytes_of_elements z es) ++ cs)) ≡ map (byte_at m) bs ++ xs
      = ap (λ ds. numbers (map s.cell ds))
      (ap (λ ds. ds ++ cs) (map-append Byte bs (bytes_of_elements z es)) ∙ append_assoc (map Byte bs) (map Byte (bytes_of_elements z es)) cs)
      ∙ bytes_read m r output bs rest in
      (λ t. laid i k e (little_endian (byte_count z) (split t)) (filled i k es (drop (byte_count z) (split t))))
      ∙ (λ t. laid i k e (number_read m z e.addr xs lies t) (filled i k es (drop_bytes m z e.addr xs t)))
      ∙ ap (laid i k e (read (byte_count z) e.addr (seen m))) (filled_read i k es cs both.1)

  -- how word number k begins
  begins : (i : Moves) (ws : List Place) (k : ℕ) → All IsPlace ws → Words ws → k < length ws
      → get_or (numbers (map s.cell (map At (cond (not i.predicated) ws [])))) k 0 % 2 ^ 32 ≡ old_word i r (get_or ws k (R 0))
  begins i ws k placed are low = go i.predicated
    where
      go : (y : Bool) → get_or (numbers (map s.cell (map At (cond (not y) ws [])))) k 0 % 2 ^ 32 ≡ cond y 0 (value_at (get_or ws k (R 0)) r % 2 ^ 32)
      go true = refl
      go false = ap (λ x. x % 2 ^ 32) (ap (λ xs. get_or xs k 0) (words_hold ws placed are) ∙ get_or-map (λ p. value_at p r) ws k (R 0) 0 low)

  -- words that are filled alike are written alike
  puts_words : (i : Moves) (j : ℕ) (es : List Element) (ws : List Place) (vs : List ℕ)
      → ((k : ℕ) → k < length ws → filled i (j + k) es vs ≡ filled_in i (j + k) es (old_word i r (get_or ws k (R 0))) (seen m))
      → map into (word_puts i j es ws (old_word i r) (seen m)) ≡ words_from i j es vs ws
  puts_words i j es [] vs same = refl
  puts_words i j es (p ∷ ws) vs same =
      let first : filled i j es vs ≡ filled_in i j es (old_word i r p) (seen m)
      = subst (λ (n : ℕ). filled i n es vs ≡ filled_in i n es (old_word i r p) (seen m)) (omega arith) (same 0 (omega arith)) in
      λ t. into (write p (sym first t)) ∷ puts_words i (j + 1) es ws vs next t
    where
      next : (k : ℕ) → k < length ws → filled i (j + 1 + k) es vs ≡ filled_in i (j + 1 + k) es (old_word i r (get_or ws k (R 0))) (seen m)
      next k low = subst (λ (n : ℕ). filled i n es vs ≡ filled_in i n es (old_word i r (get_or ws k (R 0))) (seen m)) (omega arith) (same (suc k) (omega arith))

  -- the words of a beat that loads
  pub words_filled : (i : Moves) (es : List Element) (ws : List Place) → All IsPlace ws → Words ws
      → first_stop m.around false (byte_count i.memory) es (seen m) ≡ None
      → map into (word_puts i 0 es ws (old_word i r) (seen m))
      ≡ words_from i 0 es (numbers (map s.cell (map Byte (bytes_of_elements i.memory es) ++ map At (cond (not i.predicated) ws [])))) ws
  words_filled i es ws placed are free =
      puts_words i 0 es ws _ (λ k low. filled_read i (0 + k) es (map At (cond (not i.predicated) ws [])) free
      ∙ ap (λ o. filled_in i (0 + k) es o (seen m)) (shifted k low))
    where
      shifted : (k : ℕ) → k < length ws
          → get_or (numbers (map s.cell (map At (cond (not i.predicated) ws [])))) (0 + k) 0 % 2 ^ 32 ≡ old_word i r (get_or ws k (R 0))
      shifted k low = subst (λ (n : ℕ). get_or (numbers (map s.cell (map At (cond (not i.predicated) ws [])))) n 0 % 2 ^ 32 ≡ old_word i r (get_or ws k (R 0)))
          (omega arith) (begins i ws k placed are low)

  -- where the row loads, the words that the code fills are those that the beat fills
  pub loads_filled : (i : Moves) (b : ℕ) (es : List Element) (ws : List Place) → i.store ≡ false → es ≡ elements_at i b s → ws ≡ i.words b → All IsPlace ws
      → Words ws
      → first_stop m.around false (byte_count i.memory) es (seen m) ≡ None → map into (word_puts i 0 es ws (old_word i r) (seen m)) ≡ loaded_at i b s
  loads_filled i b es ws loads same words placed are free =
      words_filled i es ws placed are free
      ∙ (λ t. words_from i 0 (same t) (numbers (map s.cell (map Byte (bytes_of_elements i.memory (same t)) ++ map At (cond (not i.predicated) (words t) []))))
      (words t))
      ∙ (λ t. cond (sym loads t) [] (words_from i 0 (elements_at i b s)
      (numbers (map s.cell (cond (sym loads t) [] (map Byte (bytes_of_elements i.memory (elements_at i b s)))
      ++ map At (cond (sym loads t || not i.predicated) (i.words b) [])))) (i.words b)))

  -- where the row stores, the bytes that the code stores are those that the beat stores
  pub bytes_stored : (i : Moves) (b : ℕ) (t : Bool) (es : List Element) (ws : List Place) (xs : List ℕ) → i.store ≡ true → es ≡ elements_at i b s
      → ws ≡ i.words b → All IsPlace ws → Words ws
      → xs ≡ map (λ p. value_at p r) ws → all_bytes_from t i.memory es xs ≡ stored_at i t b s
  bytes_stored i b t es ws xs stores same words placed are values =
      let values_read : xs ≡ numbers (map s.cell (map At (i.words b))) = values ∙ sym (words_hold ws placed are)
      ∙ ap (λ ps. numbers (map s.cell (map At ps))) words in
      (λ u. all_bytes_from t i.memory (same u) (values_read u))
      ∙ (λ u. cond (sym stores u) (all_bytes_from t i.memory (elements_at i b s)
      (numbers (map s.cell (cond (sym stores u) [] (map Byte (bytes_of_elements i.memory (elements_at i b s)))
      ++ map At (cond (sym stores u || not i.predicated) (i.words b) []))))) [])

pub cells_filled : (i : Moves) (j : ℕ) (es : List Element) (ws : List Place) (old : Place → ℕ) (s : Seen) → All IsPlace ws → Words ws
    → AreCells (word_puts i j es ws old s)
cells_filled i j es [] old s placed are = tt
cells_filled i j es (p ∷ ws) old s placed are = (
  All-head IsPlace p ws placed,
  proper_cell p (All-head IsPlace p ws placed) (word_plain p are.0),
  cells_filled i (j + 1) es ws old s (All-tail IsPlace p ws placed) are.1,
)
