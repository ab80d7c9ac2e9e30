-- The whole of a row that loads or stores, V24 to V28: its elements as lists, in rising order, and whole registers.
use Rattle.std.specs.Prelude.{ℕ, ◌≡◌, ◌≤◌, ◌+◌, ◌*◌, ◌/◌, ◌%◌, ◌^◌, Bool, true, false, cond, List, [], ◌∷◌, ◌++◌, map, get_or, Option, None, Result, Ok}
use Rattle.std.specs.List.{flat_map}
use Rattle.std.specs.Option.{option_or}
use Rattle.hm_base.specs.declared.Fault.{Fault}
use Rattle.hm_base.specs.declared.Place.TheVariants.{R}
use Rattle.hm_regs.specs.Writes.{write}
use Rattle.hm_lane.specs.declared.lanes.Size.{Size}
use Rattle.hm_lane.specs.declared.lanes.Size.TheVariants.{Word}
use Rattle.hm_lane.specs.Lanes.{bytes_of, firsts, lanes, per_word, unlanes, words}
use Rattle.hm_mem.specs.declared.Access.TheVariants.{Vector}
use Rattle.hm_mem.specs.Devices.{byte_of}
use Rattle.hm_mem.specs.Seen.{fault_kind}
use Rattle.hm_base.specs.Results.{unless}
use Rattle.hm_state.specs.Store.{put_all}
use Rattle.hm_state.specs.State.{Byte, Cell, State, Value, at, cells, into}
use Rattle.hm_beat.specs.Rows.{advance_half, predicate_at, register_at, retired, word_place, write_register, write_words}
use Rattle.hm_beat.specs.Touches.{span_bytes}
use Rattle.hm_kinds.specs.Row.{numbers}
use Rattle.hm_moves.specs.Moves.{as_loaded, fault_after, little_endian, byte_count}
use Rattle.hm_moves.specs.Ways.{Found, Transfer, at_addresses, at_offsets, contiguous, each_from, interleaved, moves_by, registers, start, way_predicated}

-- how many elements a row moves
abbrev pub count : Size → ℕ
count z = 4 * per_word z

-- WHERE THE ELEMENTS STAND IN MEMORY
-- the addresses of the elements, of size y in memory and of size z in their register; an element at an address has that of its word
abbrev pub addresses : Size → Size → Found → State → List ℕ
addresses y z (contiguous d n offset before back) s = each_from (λ j. (start before offset (at (R n) s) + byte_count y * j) % 2 ^ 32) 0 (count z)
addresses y z (at_offsets d n m scale) s = map (λ o. (at (R n) s + o * 2 ^ scale) % 2 ^ 32) (lanes z (register_at m s))
addresses y z (at_addresses d m offset back) s = each_from (λ j. (get_or (lanes Word (register_at m s)) (j / per_word z) 0 + offset) % 2 ^ 32) 0 (count z)
addresses y z (interleaved d n four part back) s = each_from (λ k. (at (R n) s + byte_count y * k) % 2 ^ 32) (count z * part) (count z)

-- which elements are moved: the active ones, or all of a row that is not under the predicate
abbrev pub are_moved : Size → Found → State → List Bool
are_moved z w s = cond (way_predicated w) (firsts z (predicate_at s)) (each_from (λ j. true) 0 (count z))

-- the fault of the first of those that has one
abbrev pub fault_of : Bool → ℕ → List Bool → List ℕ → Option Fault
fault_of store len (p ∷ ps) (a ∷ addrs) = option_or (cond p (fault_after (fault_kind true Vector store len a) a) None) (fault_of store len ps addrs)
fault_of store len _ _ = None

-- A PART OF A REGISTER
-- V28: each register gives or takes one word, this one, by VLD40, VLD41, VLD42, VLD43, VST40, VST41, VST42 and VST43, and two words, from this one on,
-- by VLD20, VLD21, VST20 and VST21
-- (DDI0553, "VLD2", "VLD4", "VST2" and "VST4")
abbrev pub part_word : Bool → ℕ → ℕ
part_word four part = cond four part (2 * part)

-- V28: the bytes of a register that belong to a part: one word of each of the four registers of VLD40, VLD41, VLD42, VLD43, VST40, VST41, VST42 and
-- VST43, two words of each of the two of VLD20, VLD21, VST20 and VST21
-- (DDI0553, "VLD2", "VLD4", "VST2" and "VST4")
abbrev pub part_at : Bool → ℕ → ℕ → State → List ℕ
part_at four part q s =
    let b = part_word four part in
    cond four (bytes_of (at (word_place q b) s)) (bytes_of (at (word_place q b) s) ++ bytes_of (at (word_place q (b + 1)) s))

-- LOADS
-- the number that stands at an address
abbrev pub read_at : Size → State → ℕ → ℕ
read_at y s a = little_endian (byte_count y) (numbers (map s.cell (map Byte (span_bytes a (byte_count y)))))

-- what the number at an address is loaded as, extended with its sign or without
abbrev pub loaded : Transfer → State → ℕ → ℕ
loaded t s a = as_loaded (moves_by t) (read_at t.memory s a)

-- the elements as they are loaded, with zero in the place of each that is not
abbrev pub loaded_elements : (ℕ → ℕ) → List Bool → List ℕ → List ℕ
loaded_elements f (p ∷ ps) (a ∷ addrs) = cond p (f a) 0 ∷ loaded_elements f ps addrs
loaded_elements f _ _ = []

-- V28: of all elements those from number i on that registers which take them in turn leave to one: every second by VLD20 and VLD21,
-- every fourth by VLD40, VLD41, VLD42 and VLD43
-- (DDI0553, "VLD2" and "VLD4")
abbrev pub taken_by : ℕ → ℕ → ℕ → List ℕ → List ℕ
taken_by all every i xs = each_from (λ e. get_or xs (every * e + i) 0) 0 (all / every)

-- a register takes the elements, or each register its own, as a part of it
abbrev pub filled_registers : Size → Found → List ℕ → List (Cell × Value)
filled_registers z (contiguous d n offset before back) xs = write_register d (unlanes z xs)
filled_registers z (at_offsets d n m scale) xs = write_register d (unlanes z xs)
filled_registers z (at_addresses d m offset back) xs = write_register d (unlanes z xs)
filled_registers z (interleaved d n four part back) xs =
    flat_map (λ i. write_words (d + i) (part_word four part) (words (unlanes z (taken_by (count z) (registers four) i xs))))
    (each_from (λ i. i) 0 (registers four))

-- STORES
-- the elements as they stand in their register, or in a part of each register by turns
abbrev pub stored_elements : Size → Found → State → List ℕ
stored_elements z (contiguous d n offset before back) s = lanes z (register_at d s)
stored_elements z (at_offsets d n m scale) s = lanes z (register_at d s)
stored_elements z (at_addresses d m offset back) s = lanes z (register_at d s)
stored_elements z (interleaved d n four part back) s =
    each_from (λ k. get_or (lanes z (part_at four part (d + k % registers four) s)) (k / registers four) 0) 0 (count z)

-- bytes take those of a number, from its byte k on
abbrev pub number_bytes : ℕ → ℕ → List ℕ → List (Cell × Value)
number_bytes x k [] = []
number_bytes x k (a ∷ bs) = (Byte a, record { n = byte_of x k; taint = false }) ∷ number_bytes x (k + 1) bs

-- of the elements each that is moved is stored at its address
abbrev pub element_bytes : Size → List Bool → List ℕ → List ℕ → List (Cell × Value)
element_bytes y (p ∷ ps) (a ∷ addrs) (x ∷ xs) = cond p (number_bytes x 0 (span_bytes a (byte_count y))) [] ++ element_bytes y ps addrs xs
element_bytes y _ _ _ = []

-- THE WHOLE
-- what is written back: the base register with the offset, or each word of addresses with it; the base of interleaved elements moves past them all
abbrev pub written_back : Found → State → List (Cell × Value)
written_back (contiguous d n offset before back) s = cond back (into (write (R n) ((at (R n) s + offset) % 2 ^ 32)) ∷ []) []
written_back (at_offsets d n m scale) s = []
written_back (at_addresses d m offset back) s = cond back (write_register m (unlanes Word (map (λ a. (a + offset) % 2 ^ 32) (lanes Word (register_at m s))))) []
written_back (interleaved d n four part back) s = cond back (into (write (R n) ((at (R n) s + 16 * registers four) % 2 ^ 32)) ∷ []) []

-- what registers and bytes get, by which elements are moved and where they stand
abbrev pub transferred : Transfer → List Bool → List ℕ → State → List (Cell × Value)
transferred t ps addrs s = cond t.store (element_bytes t.memory ps addrs (stored_elements t.register t.found s))
    (filled_registers t.register t.found (loaded_elements (loaded t s) ps addrs))

-- V24 to V28: VLDRB, VLDRH, VLDRW, VSTRB, VSTRH, VSTRW, VLD20, VLD21, VLD40, VLD41, VLD42, VLD43, VST20, VST21, VST40, VST41, VST42 and VST43:
-- the first element that has a fault gives it; else all elements are moved, the base or the addresses are written back, and the masks advance
-- (DDI0553, "VLDRB, VLDRH, VLDRW", "VSTRB, VSTRH, VSTRW", "VLDRB, VLDRH, VLDRW, VLDRD (vector)", "VSTRB, VSTRH, VSTRW, VSTRD (vector)",
-- "VLD2", "VLD4", "VST2" and "VST4")
abbrev pub transfer_whole : Transfer → State → Result State Fault
transfer_whole t s =
    let ps = are_moved t.register t.found s in
    let addrs = addresses t.memory t.register t.found s in
    unless (fault_of t.store (byte_count t.memory) ps addrs)
    (Ok (retired (put_all cells (transferred t ps addrs s ++ written_back t.found s ++ advance_half 0 s ++ advance_half 2 s) s)))

-- an element that is stored is not longer in memory than in its register
abbrev pub FitsRegister : Transfer → Type 0
FitsRegister t = t.store ≡ true → byte_count t.memory ≤ byte_count t.register
