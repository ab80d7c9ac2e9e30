-- Four beats of an interleaved row that stores give bytes a part of each register.
use Rattle.std.proofs.Common.{◌≡◌, ℕ, ◌+◌, ◌*◌, ◌/◌, ◌%◌, ◌<◌, ◌≤◌, Bool, true, false, List, [], ◌∷◌, ◌++◌, get_or, length, map, refl, sym, ◌∙◌, ap, arith}
use Rattle.std.proofs.Common.{append_assoc}
use Rattle.std.proofs.lemmas.List.{append-nil}
use Rattle.hm_lane.specs.declared.lanes.Size.{Size}
use Rattle.hm_lane.specs.declared.lanes.Size.TheVariants as size
use Rattle.hm_lane.specs.Lanes.{bytes_of, lanes, per_word}
use Rattle.hm_mem.specs.Devices.{byte_of}
use Rattle.hm_state.specs.State.{At, Byte, Cell, State, Value}
use Rattle.hm_beat.specs.Touches.{span_bytes}
use Rattle.hm_kinds.specs.Row.{numbers}
use Rattle.hm_moves.specs.declared.elements.Element.{Element}
use Rattle.hm_moves.specs.Moves.{all_bytes_from, bytes_from, byte_count}
use Rattle.hm_moves.specs.Ways.{each_from, interleaved, registers}
use Rattle.hm_moves.specs.Wholes.{count, number_bytes, part_at, element_bytes, stored_elements}
use Rattle.hm_moves.proofs.OneWord.{lane_byte, span_length}
use Rattle.hm_moves.proofs.InterleavedElements.{part_elements, part_places}

-- the first len bytes of w from byte l on are those of v
abbrev pub SameBytes : (len w l v : ℕ) → Type 0
SameBytes len w l v = (m : ℕ) → m < len → byte_of w (l + m) ≡ byte_of v m

-- a lane of a word, as far as it is stored
in_lane : (z : Size) (w j len : ℕ) → j < per_word z → len ≤ byte_count z → SameBytes len w (byte_count z * j) (get_or (lanes z (bytes_of w)) j 0)
in_lane z w j len low narrow m h = sym (lane_byte z w j m low (omega arith))

-- ELEMENTS
-- elements in their words are these numbers, as far as they are stored
abbrev pub AreStored : ℕ → List ℕ → List Element → List ℕ → Type 0
AreStored len xs [] [] = Unit {0}
AreStored len xs (e ∷ es) (v ∷ vs) = SameBytes len (get_or xs e.word 0) e.lane v × AreStored len xs es vs
AreStored len xs [] (v ∷ vs) = ⊥
AreStored len xs (e ∷ es) [] = ⊥

bytes_same : (e : Element) (xs : List ℕ) (v len k : ℕ) (bs : List ℕ) → SameBytes len (get_or xs e.word 0) e.lane v → k + length bs ≤ len
    → bytes_from false e xs k bs ≡ number_bytes v k bs
bytes_same e xs v len k [] h low = refl
bytes_same e xs v len k (a ∷ bs) h low = λ j. (Byte a, record { n = h k (omega arith) j; taint = false }) ∷ bytes_same e xs v len (k + 1) bs h (omega arith) j

stored_first : (y : Size) (es : List Element) (xs vs : List ℕ) (ps : List Bool) (addrs zs : List ℕ) → AreStored (byte_count y) xs es vs
    → all_bytes_from false y es xs ++ element_bytes y ps addrs zs
    ≡ element_bytes y (map (λ e. true) es ++ ps) (map (λ (e : Element). e.addr) es ++ addrs) (vs ++ zs)
stored_first y [] xs [] ps addrs zs h = refl
stored_first y [] xs (v ∷ vs) ps addrs zs h = absurd h
stored_first y (e ∷ es) xs [] ps addrs zs h = absurd h
stored_first y (e ∷ es) xs (v ∷ vs) ps addrs zs h =
    let bs = span_bytes e.addr (byte_count y) in
    let long = span_length y e.addr in
    append_assoc (bytes_from false e xs 0 bs) (all_bytes_from false y es xs) (element_bytes y ps addrs zs)
    ∙ (λ j. bytes_same e xs v (byte_count y) 0 bs h.0 (omega arith) j ++ stored_first y es xs vs ps addrs zs h.1 j)

regrouped : {A : Type 0} (a b c e : List A) → a ++ b ++ c ++ e ≡ a ++ (b ++ (c ++ (e ++ [])))
regrouped a b c e = append_assoc (a ++ b) c e ∙ append_assoc a b (c ++ e) ∙ ap (λ x. a ++ (b ++ (c ++ x))) (sym (append-nil e))

-- BEATS
-- the elements of beat b, as they stand in a part of each register
abbrev pub part_values : Size → Bool → ℕ → ℕ → State → ℕ → List ℕ
part_values z four d part s b =
    each_from (λ j. let k = per_word z * b + j in get_or (lanes z (part_at four part (d + k % registers four) s)) (k / registers four) 0) 0 (per_word z)

-- what stands in the words of beat b
abbrev pub part_words : Size → Bool → ℕ → ℕ → State → ℕ → List ℕ
part_words z four d part s b = numbers (map s.cell (map At (part_places z four d part b)))

abbrev pub BeatStored : Size → Size → Bool → ℕ → ℕ → (ℕ → ℕ) → State → ℕ → Type 0
BeatStored y z four d part f s b = AreStored (byte_count y) (part_words z four d part s b) (part_elements z four f b) (part_values z four d part s b)

abbrev pub FourStored : Size → Size → Bool → ℕ → ℕ → (ℕ → ℕ) → State → Type 0
FourStored y z four d part f s = BeatStored y z four d part f s 0 × BeatStored y z four d part f s 1 × BeatStored y z four d part f s 2
    × BeatStored y z four d part f s 3

module _ (y : Size) (d part : ℕ) (f : ℕ → ℕ) (s : State) where
  abbrev len : ℕ
  len = byte_count y

  beats_stored : (z : Size) (four : Bool) → byte_count y ≤ byte_count z → FourStored y z four d part f s
  beats_stored size.Byte true h = (
    (
      in_lane size.Byte _ 0 len (omega arith) h,
      (in_lane size.Byte _ 0 len (omega arith) h, (in_lane size.Byte _ 0 len (omega arith) h, (in_lane size.Byte _ 0 len (omega arith) h, tt))),
    ),
    (
      in_lane size.Byte _ 1 len (omega arith) h,
      (in_lane size.Byte _ 1 len (omega arith) h, (in_lane size.Byte _ 1 len (omega arith) h, (in_lane size.Byte _ 1 len (omega arith) h, tt))),
    ),
    (
      in_lane size.Byte _ 2 len (omega arith) h,
      (in_lane size.Byte _ 2 len (omega arith) h, (in_lane size.Byte _ 2 len (omega arith) h, (in_lane size.Byte _ 2 len (omega arith) h, tt))),
    ),
    (
      in_lane size.Byte _ 3 len (omega arith) h,
      (in_lane size.Byte _ 3 len (omega arith) h, (in_lane size.Byte _ 3 len (omega arith) h, (in_lane size.Byte _ 3 len (omega arith) h, tt))),
    ),
  )
  beats_stored size.Byte false h = (
    (
      in_lane size.Byte _ 0 len (omega arith) h,
      (in_lane size.Byte _ 0 len (omega arith) h, (in_lane size.Byte _ 1 len (omega arith) h, (in_lane size.Byte _ 1 len (omega arith) h, tt))),
    ),
    (
      in_lane size.Byte _ 2 len (omega arith) h,
      (in_lane size.Byte _ 2 len (omega arith) h, (in_lane size.Byte _ 3 len (omega arith) h, (in_lane size.Byte _ 3 len (omega arith) h, tt))),
    ),
    (
      in_lane size.Byte _ 0 len (omega arith) h,
      (in_lane size.Byte _ 0 len (omega arith) h, (in_lane size.Byte _ 1 len (omega arith) h, (in_lane size.Byte _ 1 len (omega arith) h, tt))),
    ),
    (
      in_lane size.Byte _ 2 len (omega arith) h,
      (in_lane size.Byte _ 2 len (omega arith) h, (in_lane size.Byte _ 3 len (omega arith) h, (in_lane size.Byte _ 3 len (omega arith) h, tt))),
    ),
  )
  beats_stored size.Half true h = (
    (in_lane size.Half _ 0 len (omega arith) h, (in_lane size.Half _ 0 len (omega arith) h, tt)),
    (in_lane size.Half _ 0 len (omega arith) h, (in_lane size.Half _ 0 len (omega arith) h, tt)),
    (in_lane size.Half _ 1 len (omega arith) h, (in_lane size.Half _ 1 len (omega arith) h, tt)),
    (in_lane size.Half _ 1 len (omega arith) h, (in_lane size.Half _ 1 len (omega arith) h, tt)),
  )
  beats_stored size.Half false h = (
    (in_lane size.Half _ 0 len (omega arith) h, (in_lane size.Half _ 0 len (omega arith) h, tt)),
    (in_lane size.Half _ 1 len (omega arith) h, (in_lane size.Half _ 1 len (omega arith) h, tt)),
    (in_lane size.Half _ 0 len (omega arith) h, (in_lane size.Half _ 0 len (omega arith) h, tt)),
    (in_lane size.Half _ 1 len (omega arith) h, (in_lane size.Half _ 1 len (omega arith) h, tt)),
  )
  beats_stored size.Word true h = (
    (in_lane size.Word _ 0 len (omega arith) h, tt),
    (in_lane size.Word _ 0 len (omega arith) h, tt),
    (in_lane size.Word _ 0 len (omega arith) h, tt),
    (in_lane size.Word _ 0 len (omega arith) h, tt),
  )
  beats_stored size.Word false h = (
    (in_lane size.Word _ 0 len (omega arith) h, tt),
    (in_lane size.Word _ 0 len (omega arith) h, tt),
    (in_lane size.Word _ 0 len (omega arith) h, tt),
    (in_lane size.Word _ 0 len (omega arith) h, tt),
  )

  abbrev beat_bytes : Size → Bool → ℕ → List (Cell × Value)
  beat_bytes z four b = all_bytes_from false y (part_elements z four f b) (part_words z four d part s b)

  -- all of them, as elements that stand one behind another
  joined : (z : Size) (four : Bool) (n : ℕ) (back : Bool)
      → (let E = part_elements z four f in let V = part_values z four d part s in
      element_bytes y (map (λ e. true) (E 0) ++ (map (λ e. true) (E 1) ++ (map (λ e. true) (E 2) ++ (map (λ e. true) (E 3) ++ []))))
      (map (λ (e : Element). e.addr) (E 0)
      ++ (map (λ (e : Element). e.addr) (E 1) ++ (map (λ (e : Element). e.addr) (E 2) ++ (map (λ (e : Element). e.addr) (E 3) ++ []))))
      (V 0 ++ (V 1 ++ (V 2 ++ (V 3 ++ [])))))
      ≡ element_bytes y (each_from (λ j. true) 0 (count z)) (each_from f 0 (count z)) (stored_elements z (interleaved d n four part back) s)
  joined size.Byte true n back = refl
  joined size.Byte false n back = refl
  joined size.Half true n back = refl
  joined size.Half false n back = refl
  joined size.Word true n back = refl
  joined size.Word false n back = refl

  pub part_stored : (z : Size) (four : Bool) (n : ℕ) (back : Bool) → byte_count y ≤ byte_count z
      → beat_bytes z four 0 ++ beat_bytes z four 1 ++ beat_bytes z four 2 ++ beat_bytes z four 3
      ≡ element_bytes y (each_from (λ j. true) 0 (count z)) (each_from f 0 (count z)) (stored_elements z (interleaved d n four part back) s)
  part_stored z four n back narrow =
      let E = part_elements z four f in
      let X = part_words z four d part s in
      let V = part_values z four d part s in
      let B = beat_bytes z four in
      let h = beats_stored z four narrow in
      regrouped (B 0) (B 1) (B 2) (B 3)
      ∙ ap (λ ws. B 0 ++ (B 1 ++ (B 2 ++ ws))) (stored_first y (E 3) (X 3) (V 3) [] [] [] h.3)
      ∙ ap (λ ws. B 0 ++ (B 1 ++ ws)) (stored_first y (E 2) (X 2) (V 2) _ _ _ h.2)
      ∙ ap (λ ws. B 0 ++ ws) (stored_first y (E 1) (X 1) (V 1) _ _ _ h.1)
      ∙ stored_first y (E 0) (X 0) (V 0) _ _ _ h.0
      ∙ joined z four n back
