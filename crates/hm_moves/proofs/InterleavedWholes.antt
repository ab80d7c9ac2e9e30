-- Four beats of an interleaved row are the whole of it: elements in rising order, and whole parts of registers.
use Rattle.std.proofs.Common.{◌≡◌, Ok, ℕ, ◌≤◌, Bool, true, false, List, ◌++◌, map, refl, sym, ◌∙◌, ap}
use Rattle.hm_lane.specs.declared.lanes.Size.{Size}
use Rattle.hm_state.specs.Store.{put_all}
use Rattle.hm_state.specs.State.{At, State, cells}
use Rattle.hm_beat.specs.Rows.{advance_half, retired}
use Rattle.hm_kinds.specs.Row.{numbers}
use Rattle.hm_base.specs.Results.{unless}
use Rattle.hm_moves.specs.Moves.{Moves, all_bytes_from, all_elements, back_at, first_fault, handed, moved, moves_by_words, stored_at, byte_count}
use Rattle.hm_moves.specs.Ways.{Found, Transfer, each_from, interleaved, moves_by}
use Rattle.hm_moves.specs.Wholes.{addresses, are_moved, count, fault_of, filled_registers, loaded, loaded_elements, element_bytes, stored_elements}
use Rattle.hm_moves.specs.Wholes.{transfer_whole, transferred, written_back}
use Rattle.hm_moves.proofs.FourWords.{writes_joined}
use Rattle.hm_moves.proofs.InterleavedElements.{addresses_are, elements_are, part_address, part_elements, part_fault, part_places, places_are}
use Rattle.hm_moves.proofs.InterleavedLoads.{four_next}
use Rattle.hm_moves.proofs.InterleavedParts.{parts_filled}
use Rattle.hm_moves.proofs.InterleavedStores.{part_stored}

module _ (y z : Size) (sign : Bool) (d n : ℕ) (four : Bool) (part : ℕ) (back : Bool) (s : State) where
  abbrev found : Found
  found = interleaved d n four part back

  abbrev row : Bool → Transfer
  row store = record { store = store; memory = y; register = z; signed = sign; found = found }

  abbrev by : Bool → Moves
  by store = moves_by (row store)

  -- where element k of the part stands
  abbrev f : ℕ → ℕ
  f = part_address y z n part s

  abbrev ps : List Bool
  ps = are_moved z found s

  abbrev addrs : List ℕ
  addrs = addresses y z found s

  -- all that is written
  abbrev over : Bool → State
  over store = retired (put_all cells (transferred (row store) ps addrs s ++ written_back found s ++ advance_half 0 s ++ advance_half 2 s) s)

  faults_are : (store : Bool) → first_fault store (byte_count y) (all_elements (by store) s) ≡ fault_of store (byte_count y) ps addrs
  faults_are store =
      let e = elements_are y z d n four part back store sign in
      (λ j. first_fault store (byte_count y) (e 0 s j ++ e 1 s j ++ e 2 s j ++ e 3 s j))
      ∙ part_fault store (byte_count y) f z four
      ∙ (λ j. fault_of store (byte_count y) (each_from (λ k. true) 0 (count z)) (sym (addresses_are y z d n four part back s) j))

  backs_are : (store : Bool) → back_at (by store) 0 s ++ back_at (by store) 1 s ++ back_at (by store) 2 s ++ back_at (by store) 3 s ≡ written_back found s
  backs_are store = go back
    where
      go : (w : Bool) → (let i = moves_by (record { store = store; memory = y; register = z; signed = sign; found = interleaved d n four part w }) in
          back_at i 0 s ++ back_at i 1 s ++ back_at i 2 s ++ back_at i 3 s) ≡ written_back (interleaved d n four part w) s
      go true = refl
      go false = refl

  -- a row that loads
  loads_are : moved (by false) s ≡ over false
  loads_are =
      let last = handed (by false) 3 (handed (by false) 2 (handed (by false) 1 (handed (by false) 0 s))) in
      let filled : List ℕ → State = λ xs. put_all cells (filled_registers z found (loaded_elements (loaded (row false) s) ps xs)) s in
      let filled_is : last ≡ filled addrs
      = four_next y z sign d n four part back s ∙ parts_filled d part f (loaded (row false) s) s z four n back
      ∙ ap filled (sym (addresses_are y z d n four part back s)) in
      (λ j. retired (put_all cells (advance_half 0 s ++ advance_half 2 s) (put_all cells (backs_are false j) (filled_is j))))
      ∙ ap retired (writes_joined (transferred (row false) ps addrs s) (written_back found s) (advance_half 0 s) (advance_half 2 s) s)

  -- a row that stores
  stored_is : (b : ℕ)
      → stored_at (by true) false b s ≡ all_bytes_from false y (part_elements z four f b) (numbers (map s.cell (map At (part_places z four d part b))))
  stored_is b = λ j. all_bytes_from false y (elements_are y z d n four part back true sign b s j)
      (numbers (map s.cell (map At (places_are y z d n four part back b j))))

  stores_are : byte_count y ≤ byte_count z → moved (by true) s ≡ over true
  stores_are narrow =
      let S = λ (b : ℕ). stored_at (by true) false b s in
      let stored : S 0 ++ S 1 ++ S 2 ++ S 3 ≡ transferred (row true) ps addrs s
      = (λ j. stored_is 0 j ++ stored_is 1 j ++ stored_is 2 j ++ stored_is 3 j)
      ∙ part_stored y d part f s z four n back narrow
      ∙ ap (λ xs. element_bytes y ps xs (stored_elements z found s)) (sym (addresses_are y z d n four part back s)) in
      (λ j. retired (put_all cells (advance_half 0 s ++ advance_half 2 s) (put_all cells (backs_are true j) (put_all cells (stored j) s))))
      ∙ ap retired (writes_joined (transferred (row true) ps addrs s) (written_back found s) (advance_half 0 s) (advance_half 2 s) s)

  states_are : (store : Bool) → (store ≡ true → byte_count y ≤ byte_count z) → moved (by store) s ≡ over store
  states_are true narrow = stores_are (narrow refl)
  states_are false narrow = loads_are

-- the whole of an interleaved row
pub interleaved_is : (store : Bool) (y z : Size) (sign : Bool) (d n : ℕ) (four : Bool) (part : ℕ) (back : Bool) (s : State)
    → (store ≡ true → byte_count y ≤ byte_count z)
    → (let t : Transfer = record { store = store; memory = y; register = z; signed = sign; found = interleaved d n four part back } in
    moves_by_words (moves_by t) s ≡ transfer_whole t s)
interleaved_is store y z sign d n four part back s narrow =
    λ j. unless (faults_are y z sign d n four part back s store j) (Ok (states_are y z sign d n four part back s store narrow j))
