-- Each beat of a row whose registers take elements in turn moves the elements of one word of memory.
use Rattle.std.proofs.Common.{◌≡◌, ℕ, ◌+◌, ◌*◌, ◌/◌, ◌%◌, ◌^◌, ◌<◌, ◌≤◌, Bool, true, false, ◌||◌, eqb, List, [], ◌∷◌, ◌++◌, map, take, drop, Option, refl, sym}
use Rattle.std.proofs.Common.{◌∙◌, ap, arith, append-nil}
use Rattle.hm_base.specs.Bits.{put_field}
use Rattle.hm_base.specs.Place.{has_place, same_place}
use Rattle.hm_base.specs.declared.Place.{Place}
use Rattle.hm_base.specs.declared.Stop.{Stop}
use Rattle.hm_lane.specs.declared.lanes.Size.{Size}
use Rattle.hm_lane.specs.declared.lanes.Size.TheVariants as size
use Rattle.hm_lane.specs.Lanes.{per_word}
use Rattle.hm_lane_fns.specs.Words.{both}
use Rattle.hm_mem.specs.Memory.{Around}
use Rattle.hm_mem.specs.Seen.{marks}
use Rattle.hm_state.specs.State.{At, Byte, Cell, State, Value, at, word}
use Rattle.hm_kinds.specs.Row.{numbers}
use Rattle.hm_moves.specs.Moves.{Moves, all_bytes_from, bytes_of_elements, elements_at, loaded_at, stored_at, byte_count, words_from}
use Rattle.hm_moves.specs.Ways.{Found, Transfer, each_from, interleaved, moves_by}
use Rattle.hm_moves.specs.Wholes.{addresses, count, element_bytes, filled_registers, loaded, stored_elements}
use Rattle.hm_moves.proofs.Fields.{one_word}
use Rattle.hm_moves.proofs.Laying.{laid_words, words_got}
use Rattle.hm_moves.proofs.InterleavedElements.{addresses_are, elements_are, four_apart, of_four, of_two, part_address, part_elements, part_places, places_are}
use Rattle.hm_moves.proofs.InterleavedElements.{two_apart}
use Rattle.hm_moves.proofs.InterleavedStores.{part_stored, part_words}
use Rattle.hm_beat_laws.specs.Exceptions.{element_stop, marked}
use Rattle.hm_beat_laws.specs.MovedParts.{first_among, loaded_among, moved_ones, moves_belong, of_beat}
use Rattle.hm_beat_laws.proofs.Kept.{by_beat, chosen, those}
use Rattle.hm_beat_laws.proofs.Stops.{first_of}
use Rattle.hm_beat_laws.proofs.MovedParts.{IsMovedPart, base_back, bytes_kept, move_beat, marked_kept}

-- every element of word b
abbrev ones : Size → ℕ → List Bool
ones z b = both (of_beat z b) (each_from (λ j. true) 0 (count z))

-- STOPS
abbrev IsStop : (ℕ → Option Stop) → (ℕ → ℕ) → Size → Bool → ℕ → Type 0
IsStop g f z four b = first_of g (part_elements z four f b) ≡ first_among g (ones z b) (each_from f 0 (count z))

part_stop : (g : ℕ → Option Stop) (f : ℕ → ℕ) (z : Size) (four : Bool) (b : ℕ) → b < 4 → IsStop g f z four b
part_stop g f size.Byte true = by_beat (IsStop g f size.Byte true) refl refl refl refl
part_stop g f size.Byte false = by_beat (IsStop g f size.Byte false) refl refl refl refl
part_stop g f size.Half true = by_beat (IsStop g f size.Half true) refl refl refl refl
part_stop g f size.Half false = by_beat (IsStop g f size.Half false) refl refl refl refl
part_stop g f size.Word true = by_beat (IsStop g f size.Word true) refl refl refl refl
part_stop g f size.Word false = by_beat (IsStop g f size.Word false) refl refl refl refl

-- STORES
-- of the bytes of four beats those of beat b
abbrev bytes_of_beat : Size → Size → ℕ → List (Cell × Value) → List (Cell × Value)
bytes_of_beat y z b ws = take (per_word z * byte_count y) (drop (per_word z * byte_count y * b) ws)

module _ (d n : ℕ) (part : ℕ) (back : Bool) (f : ℕ → ℕ) (s : State) where
  abbrev stored_by : Size → Size → Bool → ℕ → List (Cell × Value)
  stored_by y z four b = all_bytes_from false y (part_elements z four f b) (part_words z four d part s b)

  abbrev IsStored : Size → Size → Bool → ℕ → Type 0
  IsStored y z four b = element_bytes y (ones z b) (each_from f 0 (count z)) (stored_elements z (interleaved d n four part back) s) ≡ stored_by y z four b

  abbrev Joined : Size → Size → Bool → Type 0
  Joined y z four = element_bytes y (each_from (λ j. true) 0 (count z)) (each_from f 0 (count z)) (stored_elements z (interleaved d n four part back) s)
      ≡ stored_by y z four 0 ++ stored_by y z four 1 ++ stored_by y z four 2 ++ stored_by y z four 3

  one_of : (y z : Size) (four : Bool) → Joined y z four → (b : ℕ) → b < 4 → IsStored y z four b
  one_of size.Byte size.Byte true h =
      by_beat (IsStored size.Byte size.Byte true) (ap (bytes_of_beat size.Byte size.Byte 0) h) (ap (bytes_of_beat size.Byte size.Byte 1) h)
      (ap (bytes_of_beat size.Byte size.Byte 2) h) (ap (bytes_of_beat size.Byte size.Byte 3) h)
  one_of size.Byte size.Byte false h =
      by_beat (IsStored size.Byte size.Byte false) (ap (bytes_of_beat size.Byte size.Byte 0) h) (ap (bytes_of_beat size.Byte size.Byte 1) h)
      (ap (bytes_of_beat size.Byte size.Byte 2) h) (ap (bytes_of_beat size.Byte size.Byte 3) h)
  one_of size.Byte size.Half true h =
      by_beat (IsStored size.Byte size.Half true) (ap (bytes_of_beat size.Byte size.Half 0) h) (ap (bytes_of_beat size.Byte size.Half 1) h)
      (ap (bytes_of_beat size.Byte size.Half 2) h) (ap (bytes_of_beat size.Byte size.Half 3) h)
  one_of size.Byte size.Half false h =
      by_beat (IsStored size.Byte size.Half false) (ap (bytes_of_beat size.Byte size.Half 0) h) (ap (bytes_of_beat size.Byte size.Half 1) h)
      (ap (bytes_of_beat size.Byte size.Half 2) h) (ap (bytes_of_beat size.Byte size.Half 3) h)
  one_of size.Byte size.Word true h =
      by_beat (IsStored size.Byte size.Word true) (ap (bytes_of_beat size.Byte size.Word 0) h) (ap (bytes_of_beat size.Byte size.Word 1) h)
      (ap (bytes_of_beat size.Byte size.Word 2) h) (ap (bytes_of_beat size.Byte size.Word 3) h)
  one_of size.Byte size.Word false h =
      by_beat (IsStored size.Byte size.Word false) (ap (bytes_of_beat size.Byte size.Word 0) h) (ap (bytes_of_beat size.Byte size.Word 1) h)
      (ap (bytes_of_beat size.Byte size.Word 2) h) (ap (bytes_of_beat size.Byte size.Word 3) h)
  one_of size.Half size.Byte true h =
      by_beat (IsStored size.Half size.Byte true) (ap (bytes_of_beat size.Half size.Byte 0) h) (ap (bytes_of_beat size.Half size.Byte 1) h)
      (ap (bytes_of_beat size.Half size.Byte 2) h) (ap (bytes_of_beat size.Half size.Byte 3) h)
  one_of size.Half size.Byte false h =
      by_beat (IsStored size.Half size.Byte false) (ap (bytes_of_beat size.Half size.Byte 0) h) (ap (bytes_of_beat size.Half size.Byte 1) h)
      (ap (bytes_of_beat size.Half size.Byte 2) h) (ap (bytes_of_beat size.Half size.Byte 3) h)
  one_of size.Half size.Half true h =
      by_beat (IsStored size.Half size.Half true) (ap (bytes_of_beat size.Half size.Half 0) h) (ap (bytes_of_beat size.Half size.Half 1) h)
      (ap (bytes_of_beat size.Half size.Half 2) h) (ap (bytes_of_beat size.Half size.Half 3) h)
  one_of size.Half size.Half false h =
      by_beat (IsStored size.Half size.Half false) (ap (bytes_of_beat size.Half size.Half 0) h) (ap (bytes_of_beat size.Half size.Half 1) h)
      (ap (bytes_of_beat size.Half size.Half 2) h) (ap (bytes_of_beat size.Half size.Half 3) h)
  one_of size.Half size.Word true h =
      by_beat (IsStored size.Half size.Word true) (ap (bytes_of_beat size.Half size.Word 0) h) (ap (bytes_of_beat size.Half size.Word 1) h)
      (ap (bytes_of_beat size.Half size.Word 2) h) (ap (bytes_of_beat size.Half size.Word 3) h)
  one_of size.Half size.Word false h =
      by_beat (IsStored size.Half size.Word false) (ap (bytes_of_beat size.Half size.Word 0) h) (ap (bytes_of_beat size.Half size.Word 1) h)
      (ap (bytes_of_beat size.Half size.Word 2) h) (ap (bytes_of_beat size.Half size.Word 3) h)
  one_of size.Word size.Byte true h =
      by_beat (IsStored size.Word size.Byte true) (ap (bytes_of_beat size.Word size.Byte 0) h) (ap (bytes_of_beat size.Word size.Byte 1) h)
      (ap (bytes_of_beat size.Word size.Byte 2) h) (ap (bytes_of_beat size.Word size.Byte 3) h)
  one_of size.Word size.Byte false h =
      by_beat (IsStored size.Word size.Byte false) (ap (bytes_of_beat size.Word size.Byte 0) h) (ap (bytes_of_beat size.Word size.Byte 1) h)
      (ap (bytes_of_beat size.Word size.Byte 2) h) (ap (bytes_of_beat size.Word size.Byte 3) h)
  one_of size.Word size.Half true h =
      by_beat (IsStored size.Word size.Half true) (ap (bytes_of_beat size.Word size.Half 0) h) (ap (bytes_of_beat size.Word size.Half 1) h)
      (ap (bytes_of_beat size.Word size.Half 2) h) (ap (bytes_of_beat size.Word size.Half 3) h)
  one_of size.Word size.Half false h =
      by_beat (IsStored size.Word size.Half false) (ap (bytes_of_beat size.Word size.Half 0) h) (ap (bytes_of_beat size.Word size.Half 1) h)
      (ap (bytes_of_beat size.Word size.Half 2) h) (ap (bytes_of_beat size.Word size.Half 3) h)
  one_of size.Word size.Word true h =
      by_beat (IsStored size.Word size.Word true) (ap (bytes_of_beat size.Word size.Word 0) h) (ap (bytes_of_beat size.Word size.Word 1) h)
      (ap (bytes_of_beat size.Word size.Word 2) h) (ap (bytes_of_beat size.Word size.Word 3) h)
  one_of size.Word size.Word false h =
      by_beat (IsStored size.Word size.Word false) (ap (bytes_of_beat size.Word size.Word 0) h) (ap (bytes_of_beat size.Word size.Word 1) h)
      (ap (bytes_of_beat size.Word size.Word 2) h) (ap (bytes_of_beat size.Word size.Word 3) h)

  pub beat_stored : (y z : Size) (four : Bool) → byte_count y ≤ byte_count z → (b : ℕ) → b < 4 → IsStored y z four b
  beat_stored y z four narrow = one_of y z four (sym (part_stored y d part f s z four n back narrow))

-- LOADS
-- a word of which some bytes are loaded, and the others stay
byte_0 : (x w : ℕ) → x % 256 + 256 * (w / 256 % 256 % 256) + 65536 * (w / 65536 % 256 % 256) + 16777216 * (w / 16777216 % 256 % 256)
    ≡ put_field 0 8 x (w % 2 ^ 32)
unfolding put_field
byte_0 x w = omega arith

byte_1 : (x w : ℕ) → w % 256 % 256 + 256 * (x % 256) + 65536 * (w / 65536 % 256 % 256) + 16777216 * (w / 16777216 % 256 % 256) ≡ put_field 8 8 x (w % 2 ^ 32)
unfolding put_field
byte_1 x w = omega arith

byte_2 : (x w : ℕ) → w % 256 % 256 + 256 * (w / 256 % 256 % 256) + 65536 * (x % 256) + 16777216 * (w / 16777216 % 256 % 256) ≡ put_field 16 8 x (w % 2 ^ 32)
unfolding put_field
byte_2 x w = omega arith

byte_3 : (x w : ℕ) → w % 256 % 256 + 256 * (w / 256 % 256 % 256) + 65536 * (w / 65536 % 256 % 256) + 16777216 * (x % 256) ≡ put_field 24 8 x (w % 2 ^ 32)
unfolding put_field
byte_3 x w = omega arith

pair_0 : (x y w : ℕ) → x % 256 + 256 * (y % 256) + 65536 * (w / 65536 % 256 % 256) + 16777216 * (w / 16777216 % 256 % 256)
    ≡ put_field 0 8 x (put_field 8 8 y (w % 2 ^ 32))
unfolding put_field
pair_0 x y w = omega arith

pair_2 : (x y w : ℕ) → w % 256 % 256 + 256 * (w / 256 % 256 % 256) + 65536 * (x % 256) + 16777216 * (y % 256) ≡ put_field 16 8 x (put_field 24 8 y (w % 2 ^ 32))
unfolding put_field
pair_2 x y w = omega arith

half_0 : (x w : ℕ) → (let h = w / 65536 % 256 + 256 * (w / 16777216 % 256) in
    x % 256 + 256 * (x / 256 % 256) + 65536 * (h % 256) + 16777216 * (h / 256 % 256) ≡ put_field 0 16 x (w % 2 ^ 32))
unfolding put_field
half_0 x w = omega arith

half_1 : (x w : ℕ) → (let h = w % 256 + 256 * (w / 256 % 256) in
    h % 256 + 256 * (h / 256 % 256) + 65536 * (x % 256) + 16777216 * (x / 256 % 256) ≡ put_field 16 16 x (w % 2 ^ 32))
unfolding put_field
half_1 x w = omega arith

-- of four words those with these numbers
abbrev is_one : List ℕ → ℕ → Bool
is_one [] k = false
is_one (a ∷ ks) k = eqb a k || is_one ks k

abbrev Low : List ℕ → Type 0
Low [] = Unit {0}
Low (a ∷ ks) = (a < 4) × Low ks

abbrev places : (ℕ → Place) → List ℕ → List Place
places l [] = []
places l (a ∷ ks) = l a ∷ places l ks

module _ (l : ℕ → Place) (apart : (a b : ℕ) → a < 4 → b < 4 → same_place (l a) (l b) ≡ eqb a b) where
  found_among : (ks : List ℕ) → Low ks → (k : ℕ) → k < 4 → has_place (places l ks) (l k) ≡ is_one ks k
  found_among [] lows k low = refl
  found_among (a ∷ ks) lows k low = λ j. apart a k lows.0 low j || found_among ks lows.1 k low j

  module _ (f : Cell → Bool) (ks : List ℕ) (h : (k : ℕ) → k < 4 → f (At (l k)) ≡ is_one ks k) (v0 v1 v2 v3 : Value) where
    in_order : those f ((At (l 0), v0) ∷ (At (l 1), v1) ∷ (At (l 2), v2) ∷ (At (l 3), v3) ∷ [])
        ≡ chosen (is_one ks 0) (At (l 0), v0)
        (chosen (is_one ks 1) (At (l 1), v1) (chosen (is_one ks 2) (At (l 2), v2) (chosen (is_one ks 3) (At (l 3), v3) [])))
    in_order = λ j. chosen (h 0 (omega arith) j) (At (l 0), v0)
        (chosen (h 1 (omega arith) j) (At (l 1), v1) (chosen (h 2 (omega arith) j) (At (l 2), v2) (chosen (h 3 (omega arith) j) (At (l 3), v3) [])))

    by_registers : those f ((At (l 0), v0) ∷ (At (l 2), v2) ∷ (At (l 1), v1) ∷ (At (l 3), v3) ∷ [])
        ≡ chosen (is_one ks 0) (At (l 0), v0)
        (chosen (is_one ks 2) (At (l 2), v2) (chosen (is_one ks 1) (At (l 1), v1) (chosen (is_one ks 3) (At (l 3), v3) [])))
    by_registers = λ j. chosen (h 0 (omega arith) j) (At (l 0), v0)
        (chosen (h 2 (omega arith) j) (At (l 2), v2) (chosen (h 1 (omega arith) j) (At (l 1), v1) (chosen (h 3 (omega arith) j) (At (l 3), v3) [])))

module _ (y : Size) (d n part : ℕ) (back : Bool) (f v : ℕ → ℕ) (s : State) (t : Bool) where
  -- element k of the part, and what stands in the words
  abbrev x : ℕ → ℕ
  x k = v (f k)

  abbrev l : ℕ → Place
  l = of_four d part

  abbrev m : ℕ → Place
  m = of_two d part

  abbrev o : ℕ → ℕ
  o k = at (l k) s

  abbrev p : ℕ → ℕ
  p k = at (m k) s

  abbrev kept_of : Size → Bool → ℕ → Cell → Bool
  kept_of z four b = moves_belong z (interleaved d n four part back) (eqb b 3) b

  abbrev filled_by : Size → Bool → ℕ → List (Cell × Value)
  filled_by z four b = marked t (filled_registers z (interleaved d n four part back)
      (loaded_among v (ones z b) (each_from f 0 (count z)) (stored_elements z (interleaved d n four part back) s)))

  abbrev IsFilled : Size → Bool → ℕ → Type 0
  IsFilled z four b = those (kept_of z four b) (filled_by z four b) ≡ laid_words z 0 (part_elements z four f b) v s (part_places z four d part b)

  -- which words belong
  fours : (z : Size) (b : ℕ) (ks : List ℕ) → Low ks → part_places z true d part b ≡ places l ks → (k : ℕ) → k < 4 → kept_of z true b (At (l k)) ≡ is_one ks k
  fours z b ks lows e k low = (λ j. has_place (places_are y z d n true part back b j) (l k)) ∙ (λ j. has_place (e j) (l k))
      ∙ found_among l (four_apart d part) ks lows k low

  twos : (z : Size) (b : ℕ) (ks : List ℕ) → Low ks → part_places z false d part b ≡ places m ks → (k : ℕ) → k < 4 → kept_of z false b (At (m k)) ≡ is_one ks k
  twos z b ks lows e k low = (λ j. has_place (places_are y z d n false part back b j) (m k)) ∙ (λ j. has_place (e j) (m k))
      ∙ found_among m (two_apart d part) ks lows k low

  bytes_four_0 : IsFilled size.Byte true 0
  bytes_four_0 = in_order l (four_apart d part) (kept_of size.Byte true 0) (0 ∷ 1 ∷ 2 ∷ 3 ∷ [])
      (fours size.Byte 0 (0 ∷ 1 ∷ 2 ∷ 3 ∷ []) (omega arith, (omega arith, (omega arith, (omega arith, tt)))) refl) _ _ _ _
      ∙ (λ j. (At (l 0), word (byte_0 (x 0) (o 0) j)) ∷ (At (l 1), word (byte_0 (x 1) (o 1) j)) ∷ (At (l 2), word (byte_0 (x 2) (o 2) j))
      ∷ (At (l 3), word (byte_0 (x 3) (o 3) j)) ∷ [])

  bytes_four_1 : IsFilled size.Byte true 1
  bytes_four_1 = in_order l (four_apart d part) (kept_of size.Byte true 1) (0 ∷ 1 ∷ 2 ∷ 3 ∷ [])
      (fours size.Byte 1 (0 ∷ 1 ∷ 2 ∷ 3 ∷ []) (omega arith, (omega arith, (omega arith, (omega arith, tt)))) refl) _ _ _ _
      ∙ (λ j. (At (l 0), word (byte_1 (x 4) (o 0) j)) ∷ (At (l 1), word (byte_1 (x 5) (o 1) j)) ∷ (At (l 2), word (byte_1 (x 6) (o 2) j))
      ∷ (At (l 3), word (byte_1 (x 7) (o 3) j)) ∷ [])

  bytes_four_2 : IsFilled size.Byte true 2
  bytes_four_2 = in_order l (four_apart d part) (kept_of size.Byte true 2) (0 ∷ 1 ∷ 2 ∷ 3 ∷ [])
      (fours size.Byte 2 (0 ∷ 1 ∷ 2 ∷ 3 ∷ []) (omega arith, (omega arith, (omega arith, (omega arith, tt)))) refl) _ _ _ _
      ∙ (λ j. (At (l 0), word (byte_2 (x 8) (o 0) j)) ∷ (At (l 1), word (byte_2 (x 9) (o 1) j)) ∷ (At (l 2), word (byte_2 (x 10) (o 2) j))
      ∷ (At (l 3), word (byte_2 (x 11) (o 3) j)) ∷ [])

  bytes_four_3 : IsFilled size.Byte true 3
  bytes_four_3 = in_order l (four_apart d part) (kept_of size.Byte true 3) (0 ∷ 1 ∷ 2 ∷ 3 ∷ [])
      (fours size.Byte 3 (0 ∷ 1 ∷ 2 ∷ 3 ∷ []) (omega arith, (omega arith, (omega arith, (omega arith, tt)))) refl) _ _ _ _
      ∙ (λ j. (At (l 0), word (byte_3 (x 12) (o 0) j)) ∷ (At (l 1), word (byte_3 (x 13) (o 1) j)) ∷ (At (l 2), word (byte_3 (x 14) (o 2) j))
      ∷ (At (l 3), word (byte_3 (x 15) (o 3) j)) ∷ [])

  halves_four_0 : IsFilled size.Half true 0
  halves_four_0 = in_order l (four_apart d part) (kept_of size.Half true 0) (0 ∷ 1 ∷ []) (fours size.Half 0 (0 ∷ 1 ∷ []) (omega arith, (omega arith, tt)) refl)
      _ _ _ _
      ∙ (λ j. (At (l 0), word (half_0 (x 0) (o 0) j)) ∷ (At (l 1), word (half_0 (x 1) (o 1) j)) ∷ [])

  halves_four_1 : IsFilled size.Half true 1
  halves_four_1 = in_order l (four_apart d part) (kept_of size.Half true 1) (2 ∷ 3 ∷ []) (fours size.Half 1 (2 ∷ 3 ∷ []) (omega arith, (omega arith, tt)) refl)
      _ _ _ _
      ∙ (λ j. (At (l 2), word (half_0 (x 2) (o 2) j)) ∷ (At (l 3), word (half_0 (x 3) (o 3) j)) ∷ [])

  halves_four_2 : IsFilled size.Half true 2
  halves_four_2 = in_order l (four_apart d part) (kept_of size.Half true 2) (0 ∷ 1 ∷ []) (fours size.Half 2 (0 ∷ 1 ∷ []) (omega arith, (omega arith, tt)) refl)
      _ _ _ _
      ∙ (λ j. (At (l 0), word (half_1 (x 4) (o 0) j)) ∷ (At (l 1), word (half_1 (x 5) (o 1) j)) ∷ [])

  halves_four_3 : IsFilled size.Half true 3
  halves_four_3 = in_order l (four_apart d part) (kept_of size.Half true 3) (2 ∷ 3 ∷ []) (fours size.Half 3 (2 ∷ 3 ∷ []) (omega arith, (omega arith, tt)) refl)
      _ _ _ _
      ∙ (λ j. (At (l 2), word (half_1 (x 6) (o 2) j)) ∷ (At (l 3), word (half_1 (x 7) (o 3) j)) ∷ [])

  words_four_0 : IsFilled size.Word true 0
  words_four_0 = in_order l (four_apart d part) (kept_of size.Word true 0) (0 ∷ []) (fours size.Word 0 (0 ∷ []) (omega arith, tt) refl) _ _ _ _
      ∙ (λ j. (At (l 0), word (sym (one_word (x 0) (o 0)) j)) ∷ [])

  words_four_1 : IsFilled size.Word true 1
  words_four_1 = in_order l (four_apart d part) (kept_of size.Word true 1) (1 ∷ []) (fours size.Word 1 (1 ∷ []) (omega arith, tt) refl) _ _ _ _
      ∙ (λ j. (At (l 1), word (sym (one_word (x 1) (o 1)) j)) ∷ [])

  words_four_2 : IsFilled size.Word true 2
  words_four_2 = in_order l (four_apart d part) (kept_of size.Word true 2) (2 ∷ []) (fours size.Word 2 (2 ∷ []) (omega arith, tt) refl) _ _ _ _
      ∙ (λ j. (At (l 2), word (sym (one_word (x 2) (o 2)) j)) ∷ [])

  words_four_3 : IsFilled size.Word true 3
  words_four_3 = in_order l (four_apart d part) (kept_of size.Word true 3) (3 ∷ []) (fours size.Word 3 (3 ∷ []) (omega arith, tt) refl) _ _ _ _
      ∙ (λ j. (At (l 3), word (sym (one_word (x 3) (o 3)) j)) ∷ [])

  bytes_two_0 : IsFilled size.Byte false 0
  bytes_two_0 = by_registers m (two_apart d part) (kept_of size.Byte false 0) (0 ∷ 1 ∷ []) (twos size.Byte 0 (0 ∷ 1 ∷ []) (omega arith, (omega arith, tt)) refl)
      _ _ _ _
      ∙ (λ j. (At (m 0), word (pair_0 (x 0) (x 2) (p 0) j)) ∷ (At (m 1), word (pair_0 (x 1) (x 3) (p 1) j)) ∷ [])

  bytes_two_1 : IsFilled size.Byte false 1
  bytes_two_1 = by_registers m (two_apart d part) (kept_of size.Byte false 1) (0 ∷ 1 ∷ []) (twos size.Byte 1 (0 ∷ 1 ∷ []) (omega arith, (omega arith, tt)) refl)
      _ _ _ _
      ∙ (λ j. (At (m 0), word (pair_2 (x 4) (x 6) (p 0) j)) ∷ (At (m 1), word (pair_2 (x 5) (x 7) (p 1) j)) ∷ [])

  bytes_two_2 : IsFilled size.Byte false 2
  bytes_two_2 = by_registers m (two_apart d part) (kept_of size.Byte false 2) (2 ∷ 3 ∷ []) (twos size.Byte 2 (2 ∷ 3 ∷ []) (omega arith, (omega arith, tt)) refl)
      _ _ _ _
      ∙ (λ j. (At (m 2), word (pair_0 (x 8) (x 10) (p 2) j)) ∷ (At (m 3), word (pair_0 (x 9) (x 11) (p 3) j)) ∷ [])

  bytes_two_3 : IsFilled size.Byte false 3
  bytes_two_3 = by_registers m (two_apart d part) (kept_of size.Byte false 3) (2 ∷ 3 ∷ []) (twos size.Byte 3 (2 ∷ 3 ∷ []) (omega arith, (omega arith, tt)) refl)
      _ _ _ _
      ∙ (λ j. (At (m 2), word (pair_2 (x 12) (x 14) (p 2) j)) ∷ (At (m 3), word (pair_2 (x 13) (x 15) (p 3) j)) ∷ [])

  halves_two_0 : IsFilled size.Half false 0
  halves_two_0 = by_registers m (two_apart d part) (kept_of size.Half false 0) (0 ∷ 1 ∷ [])
      (twos size.Half 0 (0 ∷ 1 ∷ []) (omega arith, (omega arith, tt)) refl) _ _ _ _
      ∙ (λ j. (At (m 0), word (half_0 (x 0) (p 0) j)) ∷ (At (m 1), word (half_0 (x 1) (p 1) j)) ∷ [])

  halves_two_1 : IsFilled size.Half false 1
  halves_two_1 = by_registers m (two_apart d part) (kept_of size.Half false 1) (0 ∷ 1 ∷ [])
      (twos size.Half 1 (0 ∷ 1 ∷ []) (omega arith, (omega arith, tt)) refl) _ _ _ _
      ∙ (λ j. (At (m 0), word (half_1 (x 2) (p 0) j)) ∷ (At (m 1), word (half_1 (x 3) (p 1) j)) ∷ [])

  halves_two_2 : IsFilled size.Half false 2
  halves_two_2 = by_registers m (two_apart d part) (kept_of size.Half false 2) (2 ∷ 3 ∷ [])
      (twos size.Half 2 (2 ∷ 3 ∷ []) (omega arith, (omega arith, tt)) refl) _ _ _ _
      ∙ (λ j. (At (m 2), word (half_0 (x 4) (p 2) j)) ∷ (At (m 3), word (half_0 (x 5) (p 3) j)) ∷ [])

  halves_two_3 : IsFilled size.Half false 3
  halves_two_3 = by_registers m (two_apart d part) (kept_of size.Half false 3) (2 ∷ 3 ∷ [])
      (twos size.Half 3 (2 ∷ 3 ∷ []) (omega arith, (omega arith, tt)) refl) _ _ _ _
      ∙ (λ j. (At (m 2), word (half_1 (x 6) (p 2) j)) ∷ (At (m 3), word (half_1 (x 7) (p 3) j)) ∷ [])

  words_two_0 : IsFilled size.Word false 0
  words_two_0 = by_registers m (two_apart d part) (kept_of size.Word false 0) (0 ∷ []) (twos size.Word 0 (0 ∷ []) (omega arith, tt) refl) _ _ _ _
      ∙ (λ j. (At (m 0), word (sym (one_word (x 0) (p 0)) j)) ∷ [])

  words_two_1 : IsFilled size.Word false 1
  words_two_1 = by_registers m (two_apart d part) (kept_of size.Word false 1) (1 ∷ []) (twos size.Word 1 (1 ∷ []) (omega arith, tt) refl) _ _ _ _
      ∙ (λ j. (At (m 1), word (sym (one_word (x 1) (p 1)) j)) ∷ [])

  words_two_2 : IsFilled size.Word false 2
  words_two_2 = by_registers m (two_apart d part) (kept_of size.Word false 2) (2 ∷ []) (twos size.Word 2 (2 ∷ []) (omega arith, tt) refl) _ _ _ _
      ∙ (λ j. (At (m 2), word (sym (one_word (x 2) (p 2)) j)) ∷ [])

  words_two_3 : IsFilled size.Word false 3
  words_two_3 = by_registers m (two_apart d part) (kept_of size.Word false 3) (3 ∷ []) (twos size.Word 3 (3 ∷ []) (omega arith, tt) refl) _ _ _ _
      ∙ (λ j. (At (m 3), word (sym (one_word (x 3) (p 3)) j)) ∷ [])

  pub beat_filled : (z : Size) (four : Bool) (b : ℕ) → b < 4 → IsFilled z four b
  beat_filled size.Byte true = by_beat (IsFilled size.Byte true) bytes_four_0 bytes_four_1 bytes_four_2 bytes_four_3
  beat_filled size.Half true = by_beat (IsFilled size.Half true) halves_four_0 halves_four_1 halves_four_2 halves_four_3
  beat_filled size.Word true = by_beat (IsFilled size.Word true) words_four_0 words_four_1 words_four_2 words_four_3
  beat_filled size.Byte false = by_beat (IsFilled size.Byte false) bytes_two_0 bytes_two_1 bytes_two_2 bytes_two_3
  beat_filled size.Half false = by_beat (IsFilled size.Half false) halves_two_0 halves_two_1 halves_two_2 halves_two_3
  beat_filled size.Word false = by_beat (IsFilled size.Word false) words_two_0 words_two_1 words_two_2 words_two_3

-- THE BEAT
module _ (y z : Size) (sign : Bool) (d n : ℕ) (four : Bool) (part : ℕ) (back : Bool) (x : Around) (s : State) (b : ℕ) (low : b < 4) where
  abbrev w : Found
  w = interleaved d n four part back

  abbrev row : Bool → Transfer
  row store = record { store = store; memory = y; register = z; signed = sign; found = w }

  abbrev by : Bool → Moves
  by store = moves_by (row store)

  -- where element k of the part stands
  abbrev place : ℕ → ℕ
  place = part_address y z n part s

  abbrev kept : Cell → Bool
  kept = moves_belong z w (eqb b 3) b

  stops_are : (store : Bool) (g : ℕ → Option Stop) → first_of g (elements_at (by store) b s) ≡ first_among g (moved_ones z w b s) (addresses y z w s)
  stops_are store g =
      (λ j. first_of g (elements_are y z d n four part back store sign b s j)) ∙ part_stop g place z four b low
      ∙ (λ j. first_among g (ones z b) (sym (addresses_are y z d n four part back s) j))

  -- what it stores
  abbrev taint : Bool
  taint = marks x.actor

  stored_is : stored_at (by true) taint b s ≡ all_bytes_from taint y (part_elements z four place b) (part_words z four d part s b)
  stored_is = λ j. all_bytes_from taint y (elements_are y z d n four part back true sign b s j)
      (numbers (map s.cell (map At (places_are y z d n four part back b j))))

  stores_are : byte_count y ≤ byte_count z
      → those kept (marked taint (element_bytes y (ones z b) (addresses y z w s) (stored_elements z w s))) ≡ stored_at (by true) taint b s
  stores_are narrow =
      marked_kept kept taint y (element_bytes y (ones z b) (addresses y z w s) (stored_elements z w s)) (part_elements z four place b)
      (part_words z four d part s b)
      (bytes_kept kept (λ a. refl) y (ones z b) (addresses y z w s) (stored_elements z w s)
      ∙ (λ j. element_bytes y (ones z b) (addresses_are y z d n four part back s j) (stored_elements z w s))
      ∙ beat_stored d n part back place s y z four narrow b low)
      ∙ sym stored_is

  -- what it loads
  loaded_is : loaded_at (by false) b s ≡ laid_words z 0 (part_elements z four place b) (loaded (row false) s) s (part_places z four d part b)
  loaded_is =
      let es = elements_are y z d n four part back false sign b s in
      let ps = places_are y z d n four part back b in
      (λ j. words_from (by false) 0 (es j) (numbers (map s.cell (map Byte (bytes_of_elements y (es j)) ++ map At (ps j)))) (ps j))
      ∙ words_got (by false) (part_elements z four place b) s (part_places z four d part b)

  loads_are : those kept (marked taint (filled_registers z w (loaded_among (loaded (row false) s) (ones z b) (addresses y z w s) (stored_elements z w s))))
      ≡ loaded_at (by false) b s ++ []
  loads_are =
      (λ j. those kept (marked taint
      (filled_registers z w (loaded_among (loaded (row false) s) (ones z b) (addresses_are y z d n four part back s j) (stored_elements z w s)))))
      ∙ beat_filled y d n part back place (loaded (row false) s) s taint z four b low ∙ sym loaded_is ∙ sym (append-nil (loaded_at (by false) b s))

  pub interleaved_part : (store : Bool) → (store ≡ true → byte_count y ≤ byte_count z) → IsMovedPart (row store) x b s
  interleaved_part true narrow =
      move_beat (row true) x b low s (λ k. refl, refl, refl) (stops_are true (element_stop x true y s)) (stores_are (narrow refl))
      (base_back kept back n _ b refl)
  interleaved_part false narrow =
      move_beat (row false) x b low s (λ k. refl, refl, refl) (stops_are false (element_stop x false y s)) loads_are (base_back kept back n _ b refl)
