-- What the words hold when four beats have filled them is a part of each register.
use Rattle.std.proofs.Common.{◌≡◌, ℕ, ◌+◌, ◌*◌, ◌%◌, ◌^◌, Bool, true, false, [], ◌∷◌, ◌∙◌}
use Rattle.hm_base.specs.Bits.{put_field}
use Rattle.hm_base.specs.declared.Place.{Place}
use Rattle.hm_lane.specs.declared.lanes.Size.{Size}
use Rattle.hm_lane.specs.declared.lanes.Size.TheVariants as size
use Rattle.hm_state.specs.Store.{put_all}
use Rattle.hm_state.specs.State.{At, State, at, cells, word}
use Rattle.hm_moves.specs.Ways.{each_from, interleaved}
use Rattle.hm_moves.specs.Wholes.{count, filled_registers, loaded_elements}
use Rattle.hm_moves.proofs.Fields.{four_bytes, one_word, two_halves, two_pairs}
use Rattle.hm_moves.proofs.Slots.{fill4_four, four_ones, turned_middle, twos_in_turn, twos_twice}
use Rattle.hm_moves.proofs.InterleavedElements.{four_apart, of_four, of_two, two_apart}
use Rattle.hm_moves.proofs.InterleavedLoads.{step}

module _ (d part : ℕ) (f v : ℕ → ℕ) (s : State) where
  -- element k
  abbrev x : ℕ → ℕ
  x k = v (f k)

  -- element k laid as a byte, or two of which one is the next of the register
  abbrev byte : ℕ → ℕ → ℕ → ℕ
  byte l k w = put_field (8 * l) 8 (x k) (w % 2 ^ 32)

  abbrev pair : ℕ → ℕ → ℕ → ℕ
  pair l k w = put_field (8 * l) 8 (x k) (put_field (8 * (l + 1)) 8 (x (k + 2)) (w % 2 ^ 32))

  abbrev half : ℕ → ℕ → ℕ → ℕ
  half l k w = put_field (16 * l) 16 (x k) (w % 2 ^ 32)

  abbrev whole : ℕ → ℕ → ℕ
  whole k w = put_field 0 32 (x k) (w % 2 ^ 32)

  abbrev beat : Size → Bool → ℕ → State → State
  beat z four = step z four d part f v

  abbrev beats : Size → Bool → State
  beats z four = beat z four 3 (beat z four 2 (beat z four 1 (beat z four 0 s)))

  -- four words with numbers
  abbrev with_four : (ℕ → Place) → (p q r t : ℕ) → State
  with_four l p q r t = put_all cells ((At (l 0), word p) ∷ (At (l 1), word q) ∷ (At (l 2), word r) ∷ (At (l 3), word t) ∷ []) s

  abbrev l : ℕ → Place
  l = of_four d part

  abbrev m : ℕ → Place
  m = of_two d part

  abbrev parts : Size → Bool → ℕ → Bool → State
  parts z four n back = put_all cells
      (filled_registers z (interleaved d n four part back) (loaded_elements v (each_from (λ j. true) 0 (count z)) (each_from f 0 (count z)))) s

  bytes_of_four : (n : ℕ) (back : Bool) → beats size.Byte true ≡ parts size.Byte true n back
  bytes_of_four n back =
      fill4_four l (four_apart d part) (λ b j. byte b (4 * b + j)) s
      ∙ (λ t. with_four l (four_bytes (x 0) (x 4) (x 8) (x 12) (at (l 0) s) t) (four_bytes (x 1) (x 5) (x 9) (x 13) (at (l 1) s) t)
      (four_bytes (x 2) (x 6) (x 10) (x 14) (at (l 2) s) t) (four_bytes (x 3) (x 7) (x 11) (x 15) (at (l 3) s) t))

  halves_of_four : (n : ℕ) (back : Bool) → beats size.Half true ≡ parts size.Half true n back
  halves_of_four n back =
      twos_in_turn l (four_apart d part) (half 0 0) (half 0 1) (half 0 2) (half 0 3) (half 1 4) (half 1 5) (half 1 6) (half 1 7) s
      ∙ (λ t. with_four l (two_halves (x 0) (x 4) (at (l 0) s) t) (two_halves (x 1) (x 5) (at (l 1) s) t) (two_halves (x 2) (x 6) (at (l 2) s) t)
      (two_halves (x 3) (x 7) (at (l 3) s) t))

  words_of_four : (n : ℕ) (back : Bool) → beats size.Word true ≡ parts size.Word true n back
  words_of_four n back =
      four_ones l (four_apart d part) (whole 0) (whole 1) (whole 2) (whole 3) s
      ∙ (λ t. with_four l (one_word (x 0) (at (l 0) s) t) (one_word (x 1) (at (l 1) s) t) (one_word (x 2) (at (l 2) s) t) (one_word (x 3) (at (l 3) s) t))

  bytes_of_two : (n : ℕ) (back : Bool) → beats size.Byte false ≡ parts size.Byte false n back
  bytes_of_two n back =
      twos_twice m (two_apart d part) (pair 0 0) (pair 0 1) (pair 0 8) (pair 0 9) (pair 2 4) (pair 2 5) (pair 2 12) (pair 2 13) s
      ∙ (λ t. with_four m (two_pairs (x 0) (x 2) (x 4) (x 6) (at (m 0) s) t) (two_pairs (x 1) (x 3) (x 5) (x 7) (at (m 1) s) t)
      (two_pairs (x 8) (x 10) (x 12) (x 14) (at (m 2) s) t) (two_pairs (x 9) (x 11) (x 13) (x 15) (at (m 3) s) t))
      ∙ turned_middle m (two_apart d part) _ _ _ _ s

  halves_of_two : (n : ℕ) (back : Bool) → beats size.Half false ≡ parts size.Half false n back
  halves_of_two n back =
      twos_twice m (two_apart d part) (half 0 0) (half 0 1) (half 0 4) (half 0 5) (half 1 2) (half 1 3) (half 1 6) (half 1 7) s
      ∙ (λ t. with_four m (two_halves (x 0) (x 2) (at (m 0) s) t) (two_halves (x 1) (x 3) (at (m 1) s) t) (two_halves (x 4) (x 6) (at (m 2) s) t)
      (two_halves (x 5) (x 7) (at (m 3) s) t))
      ∙ turned_middle m (two_apart d part) _ _ _ _ s

  words_of_two : (n : ℕ) (back : Bool) → beats size.Word false ≡ parts size.Word false n back
  words_of_two n back =
      four_ones m (two_apart d part) (whole 0) (whole 1) (whole 2) (whole 3) s
      ∙ (λ t. with_four m (one_word (x 0) (at (m 0) s) t) (one_word (x 1) (at (m 1) s) t) (one_word (x 2) (at (m 2) s) t) (one_word (x 3) (at (m 3) s) t))
      ∙ turned_middle m (two_apart d part) _ _ _ _ s

  -- the beats have filled a part of each register
  pub parts_filled : (z : Size) (four : Bool) (n : ℕ) (back : Bool) → beats z four ≡ parts z four n back
  parts_filled size.Byte true n back = bytes_of_four n back
  parts_filled size.Half true n back = halves_of_four n back
  parts_filled size.Word true n back = words_of_four n back
  parts_filled size.Byte false n back = bytes_of_two n back
  parts_filled size.Half false n back = halves_of_two n back
  parts_filled size.Word false n back = words_of_two n back
