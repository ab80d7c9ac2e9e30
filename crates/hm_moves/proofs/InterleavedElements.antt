-- Which elements and words a beat of an interleaved row moves, by their numbers within a part.
use Rattle.std.proofs.Common.{◌≡◌, ℕ, zero, suc, ◌+◌, ◌*◌, ◌/◌, ◌%◌, ◌^◌, ◌<◌, Bool, true, false, cond, eqb, ltb, List, [], ◌∷◌, ◌++◌, get_or, refl, sym, ◌∙◌}
use Rattle.std.proofs.Common.{ap, arith, eq-eqb, ne_eqb, eqb-true}
use Rattle.hm_base.specs.Place.{same_place}
use Rattle.hm_base.specs.declared.Place.{Place}
use Rattle.hm_base.specs.declared.Place.TheVariants.{R}
use Rattle.hm_lane.specs.declared.lanes.Size.{Size}
use Rattle.hm_lane.specs.declared.lanes.Size.TheVariants as size
use Rattle.hm_lane.specs.Lanes.{per_word}
use Rattle.hm_order.proofs.Results.{decide, true_not_false}
use Rattle.hm_state.specs.State.{State, at}
use Rattle.hm_beat.specs.Rows.{word_place}
use Rattle.hm_moves.specs.declared.elements.Element.{Element}
use Rattle.hm_moves.specs.Moves.{active_ones, elements_at, every_byte, first_fault, byte_count}
use Rattle.hm_moves.specs.Ways.{Transfer, each_from, interleaved, moves_by, registers, stream, way_words}
use Rattle.hm_moves.specs.Wholes.{addresses, count, fault_of, part_word}

-- ELEMENT k OF A PART
-- its lowest byte in its word, and which word of the part of its register it is of
abbrev pub turn_lane : Size → Bool → ℕ → ℕ
turn_lane z four k = byte_count z * (k / registers four) % 4

abbrev pub turn_word : Size → Bool → ℕ → ℕ
turn_word z four k = byte_count z * (k / registers four) / 4

-- m + n, which is m where n is 0
abbrev pub and_more : ℕ → ℕ → ℕ
and_more m n = cond (eqb n 0) m (m + n)

more_is : (m n : ℕ) → m + n ≡ and_more m n
more_is m n = decide (eqb n 0) (λ e. none (eqb-true n 0 e) ∙ (λ t. cond (sym e t) m (m + n))) (λ e t. cond (sym e t) m (m + n))
  where
    none : n ≡ 0 → m + n ≡ m
    none e = omega arith

stream_is : (z : Size) (part b j : ℕ) → stream part z b + j ≡ count z * part + (per_word z * b + j)
stream_is size.Byte part b j = omega arith
stream_is size.Half part b j = omega arith
stream_is size.Word part b j = omega arith

register_is : (z : Size) (four : Bool) (part b j : ℕ) → (stream part z b + j) % registers four ≡ (per_word z * b + j) % registers four
register_is size.Byte true part b j = omega arith
register_is size.Half true part b j = omega arith
register_is size.Word true part b j = omega arith
register_is size.Byte false part b j = omega arith
register_is size.Half false part b j = omega arith
register_is size.Word false part b j = omega arith

lane_is : (z : Size) (four : Bool) (part b j : ℕ) → byte_count z * ((stream part z b + j) / registers four) % 4 ≡ turn_lane z four (per_word z * b + j)
lane_is size.Byte true part b j = omega arith
lane_is size.Half true part b j = omega arith
lane_is size.Word true part b j = omega arith
lane_is size.Byte false part b j = omega arith
lane_is size.Half false part b j = omega arith
lane_is size.Word false part b j = omega arith

word_is : (z : Size) (four : Bool) (part b j : ℕ)
    → byte_count z * ((stream part z b + j) / registers four) / 4 ≡ part_word four part + turn_word z four (per_word z * b + j)
word_is size.Byte true part b j = omega arith
word_is size.Half true part b j = omega arith
word_is size.Word true part b j = omega arith
word_is size.Byte false part b j = omega arith
word_is size.Half false part b j = omega arith
word_is size.Word false part b j = omega arith

-- LISTS
-- the elements of beat b, of which element k of the part stands at f k
abbrev pub part_elements : Size → Bool → (ℕ → ℕ) → ℕ → List Element
part_elements z four f b =
    each_from (λ j. let k = per_word z * b + j in record { addr = f k; word = j % registers four; lane = turn_lane z four k }) 0 (per_word z)

-- how many words a beat has, and these of beat b
abbrev pub beat_words : Size → Bool → ℕ
beat_words z four = cond (ltb (per_word z) (registers four)) (per_word z) (registers four)

abbrev pub part_places : Size → Bool → ℕ → ℕ → ℕ → List Place
part_places z four d part b =
    each_from (λ j. let k = per_word z * b + j in word_place (d + k % registers four) (and_more (part_word four part) (turn_word z four k))) 0
    (beat_words z four)

-- where element k of the part stands
abbrev pub part_address : Size → Size → ℕ → ℕ → State → ℕ → ℕ
part_address y z n part s k = (at (R n) s + byte_count y * (count z * part + k)) % 2 ^ 32

in_word : (x : ℕ) → get_or every_byte (x % 4) false ≡ true
in_word x = go (x % 4) (omega arith)
  where
    go : (l : ℕ) → l < 4 → get_or every_byte l false ≡ true
    go zero h = refl
    go (suc zero) h = refl
    go (suc (suc zero)) h = refl
    go (suc (suc (suc zero))) h = refl
    go (suc (suc (suc (suc l)))) h = absurd (omega arith)

abbrev elements_with : (f g h : ℕ → ℕ) → ℕ → ℕ → List Element
elements_with f g h k m = each_from (λ j. record { addr = f j; word = g j; lane = h j % 4 }) k m

all_active : (f g h : ℕ → ℕ) (k m : ℕ) → active_ones every_byte (elements_with f g h k m) ≡ elements_with f g h k m
all_active f g h k zero = refl
all_active f g h k (suc m) = λ t. cond (in_word (h k) t) (record { addr = f k; word = g k; lane = h k % 4 } ∷ []) [] ++ all_active f g h (k + 1) m t

each_later : (f : ℕ → ℕ) (m a c : ℕ) → each_from f (m + a) c ≡ each_from (λ k. f (m + k)) a c
each_later f m a zero = refl
each_later f m a (suc c) =
    let e : m + a + 1 ≡ m + (a + 1) = omega arith in
    ap (λ ks. f (m + a) ∷ ks) (ap (λ k. each_from f k c) e ∙ each_later f m (a + 1) c)

module _ (y z : Size) (d n : ℕ) (four : Bool) (part : ℕ) (back : Bool) where
  pub places_are : (b : ℕ) → way_words z (interleaved d n four part back) b ≡ part_places z four d part b
  places_are b =
      let which : (j : ℕ) → _ ≡ and_more (part_word four part) (turn_word z four (per_word z * b + j))
      = λ j. word_is z four part b j ∙ more_is (part_word four part) (turn_word z four (per_word z * b + j)) in
      λ t. each_from (λ j. word_place (d + register_is z four part b j t) (which j t)) 0 (beat_words z four)

  pub elements_are : (store sign : Bool) (b : ℕ) (u : State)
      → (let t : Transfer = record { store = store; memory = y; register = z; signed = sign; found = interleaved d n four part back } in
      elements_at (moves_by t) b u)
      ≡ part_elements z four (part_address y z n part u) b
  elements_are store sign b u =
      let address : ℕ → ℕ = λ k. (at (R n) u + byte_count y * k) % 2 ^ 32 in
      (λ t. active_ones every_byte (each_from
      (λ j. record { addr = address (stream_is z part b j t); word = j % registers four; lane = lane_is z four part b j t }) 0 (per_word z)))
      ∙ all_active (λ j. part_address y z n part u (per_word z * b + j)) (λ j. j % registers four) (λ j. byte_count z * ((per_word z * b + j) / registers four))
      0
      (per_word z)

  pub addresses_are : (s : State) → addresses y z (interleaved d n four part back) s ≡ each_from (part_address y z n part s) 0 (count z)
  addresses_are s =
      let address : ℕ → ℕ = λ k. (at (R n) s + byte_count y * k) % 2 ^ 32 in
      ap (λ k. each_from address k (count z)) (omega arith) ∙ each_later address (count z * part) 0 (count z)

-- FAULTS
pub part_fault : (store : Bool) (len : ℕ) (f : ℕ → ℕ) (z : Size) (four : Bool)
    → first_fault store len (part_elements z four f 0 ++ part_elements z four f 1 ++ part_elements z four f 2 ++ part_elements z four f 3)
    ≡ fault_of store len (each_from (λ j. true) 0 (count z)) (each_from f 0 (count z))
part_fault store len f size.Byte true = refl
part_fault store len f size.Byte false = refl
part_fault store len f size.Half true = refl
part_fault store len f size.Half false = refl
part_fault store len f size.Word true = refl
part_fault store len f size.Word false = refl

-- FOUR WORDS
eqb_alike : (x y a b : ℕ) → (a ≡ b → x ≡ y) → (x ≡ y → a ≡ b) → eqb x y ≡ eqb a b
eqb_alike x y a b f g =
    decide (eqb a b) (λ e. eq-eqb x y (f (eqb-true a b e)) ∙ sym e)
    (λ e. ne_eqb x y (λ h. true_not_false (eqb a b) (eq-eqb a b (g h)) e) ∙ sym e)

-- one word of four registers
abbrev pub of_four : ℕ → ℕ → ℕ → Place
of_four d part k = word_place (d + k) part

pub four_apart : (d part a b : ℕ) → a < 4 → b < 4 → same_place (of_four d part a) (of_four d part b) ≡ eqb a b
four_apart d part a b low high = eqb_alike (4 * (d + a) + part) (4 * (d + b) + part) a b (λ e. omega arith) (λ e. omega arith)

-- two words of two registers
abbrev pub of_two : ℕ → ℕ → ℕ → Place
of_two d part k = word_place (d + k % 2) (and_more (2 * part) (k / 2))

pub two_apart : (d part a b : ℕ) → a < 4 → b < 4 → same_place (of_two d part a) (of_two d part b) ≡ eqb a b
two_apart d part a b low high =
    let p = more_is (2 * part) (a / 2) in
    let q = more_is (2 * part) (b / 2) in
    let number : ℕ → ℕ = λ k. 4 * (d + k % 2) + and_more (2 * part) (k / 2) in
    eqb_alike (number a) (number b) a b (λ e. ap number e) (λ e. omega (arith, p, q))
