-- Four beats of an interleaved row that loads fill a part of each register.
use Rattle.std.proofs.Common.{◌≡◌, ℕ, ◌+◌, ◌*◌, ◌%◌, ◌^◌, Bool, false, ◌++◌, map, refl, ◌∙◌, ap}
use Rattle.hm_base.specs.declared.Place.TheVariants.{R, QWord}
use Rattle.hm_lane.specs.declared.lanes.Size.{Size}
use Rattle.hm_state.specs.Store.{put_all}
use Rattle.hm_state.specs.State.{At, Byte, Cell, State, cells, same_cell}
use Rattle.hm_beat.proofs.Chained.{put_other}
use Rattle.hm_kinds.specs.Row.{numbers}
use Rattle.hm_moves.specs.Moves.{Moves, bytes_of_elements, elements_at, as_loaded, handed, byte_count, words_from}
use Rattle.hm_moves.specs.Ways.{Transfer, interleaved, moves_by}
use Rattle.hm_moves.specs.Wholes.{count, loaded}
use Rattle.hm_moves.proofs.Laying.{laid_words, off_laid, same_got, words_got}
use Rattle.hm_moves.proofs.InterleavedElements.{elements_are, part_address, part_elements, part_places, places_are}

-- u has the bytes and the base as s has them
pub record Kept (n : ℕ) (s u : State) : Type 0 where
  pub bytes : (a : ℕ) → u.cell (Byte a) ≡ s.cell (Byte a)
  pub base : u.cell (At (R n)) ≡ s.cell (At (R n))

-- beat b of a part of which element k stands at f k
abbrev pub step : Size → Bool → ℕ → ℕ → (ℕ → ℕ) → (ℕ → ℕ) → ℕ → State → State
step z four d part f v b u = put_all cells (laid_words z 0 (part_elements z four f b) v u (part_places z four d part b)) u

module _ (y z : Size) (sign : Bool) (d n : ℕ) (four : Bool) (part : ℕ) (back : Bool) (s : State) where
  abbrev pub t : Transfer
  t = record { store = false; memory = y; register = z; signed = sign; found = interleaved d n four part back }

  abbrev pub i : Moves
  i = moves_by t

  abbrev pub next : ℕ → State → State
  next = step z four d part (part_address y z n part s) (loaded t s)

  kept_next : (b : ℕ) (u : State) → Kept n s u → Kept n s (next b u)
  kept_next b u h = record { bytes = λ a. same (Byte a) (λ q. refl) ∙ h.bytes a; base = same (At (R n)) (λ q. refl) ∙ h.base }
    where
      same : (c : Cell) → ((q : ℕ) → same_cell (At (QWord q)) c ≡ false) → (next b u).cell c ≡ u.cell c
      same c e =
          let es = part_elements z four (part_address y z n part s) b in
          put_other (laid_words z 0 es (loaded t s) u (part_places z four d part b)) c u (off_laid z 0 es (loaded t s) u _ 0 _ c e)

  next_is : (b : ℕ) (u : State) → Kept n s u → handed i b u ≡ next b u
  next_is b u h =
      let es = part_elements z four (part_address y z n part s) b in
      let ps = part_places z four d part b in
      let from : ℕ → ℕ → ℕ = λ base k. (base + byte_count y * (count z * part + k)) % 2 ^ 32 in
      let same : elements_at i b u ≡ es = elements_are y z d n four part back false sign b u ∙ (λ j. part_elements z four (from (h.base j).n) b) in
      let places = places_are y z d n four part back b in
      (λ j. put_all cells (words_from i 0 (same j) (numbers (map u.cell (map Byte (bytes_of_elements y (same j)) ++ map At (places j)))) (places j)) u)
      ∙ ap (λ ws. put_all cells ws u) (words_got i es u ps)
      ∙ (λ j. put_all cells (laid_words z 0 es (λ a. as_loaded i (same_got y s u h.bytes a j)) u ps) u)

  -- four beats, each in turn
  pub four_next : handed i 3 (handed i 2 (handed i 1 (handed i 0 s))) ≡ next 3 (next 2 (next 1 (next 0 s)))
  four_next =
      let k0 : Kept n s s = record { bytes = λ a. refl; base = refl } in
      let k1 = kept_next 0 s k0 in
      let k2 = kept_next 1 (next 0 s) k1 in
      let k3 = kept_next 2 (next 1 (next 0 s)) k2 in
      ap (λ u. handed i 3 (handed i 2 (handed i 1 u))) (next_is 0 s k0)
      ∙ ap (λ u. handed i 3 (handed i 2 u)) (next_is 1 (next 0 s) k1)
      ∙ ap (handed i 3) (next_is 2 (next 1 (next 0 s)) k2)
      ∙ next_is 3 (next 2 (next 1 (next 0 s))) k3
