-- Rows that load or store elements of vector registers, V24 to V28: one form for all of them.
use Rattle.std.specs.Prelude.{ℕ, zero, suc, ◌≡◌, ◌+◌, ◌-◌, ◌*◌, ◌%◌, ◌^◌, ◌<◌, Bool, true, false, not, ◌&&◌, ◌||◌, cond, eqb, leb, ltb, List, [], ◌∷◌, ◌++◌}
use Rattle.std.specs.Prelude.{map, drop, get_or, Option, Some, None, Result, Ok}
use Rattle.std.specs.Option.{option_or}
use Rattle.hm_base.specs.Bits.{put_field}
use Rattle.hm_base.specs.Place.{fit, same_place}
use Rattle.hm_base.specs.declared.Fault.{Fault}
use Rattle.hm_base.specs.declared.FaultKind.{FaultKind}
use Rattle.hm_base.specs.declared.Place.{Place}
use Rattle.hm_base.specs.declared.Place.TheVariants.{R, QWord, P0}
use Rattle.hm_base.specs.declared.Stop.{Stop}
use Rattle.hm_base.specs.declared.Stop.TheVariants as stop
use Rattle.hm_regs.specs.Writes.{Write, write}
use Rattle.hm_lane.specs.declared.lanes.Size.{Size}
use Rattle.hm_lane.specs.declared.lanes.Size.TheVariants as size
use Rattle.hm_lane.specs.Predicate.{advance_of, mask_place}
use Rattle.hm_mem.specs.declared.Access.TheVariants.{Vector}
use Rattle.hm_mem.specs.declared.Actor.{Actor}
use Rattle.hm_mem.specs.declared.Actor.TheVariants.{Handler}
use Rattle.hm_mem.specs.Devices.{byte_of}
use Rattle.hm_mem.specs.Memory.{Around, Bounds}
use Rattle.hm_mem.specs.Seen.{fault_kind, is_denied, is_thread, marks, stop_after}
use Rattle.hm_base.specs.Results.{unless}
use Rattle.hm_state.specs.Store.{put_all}
use Rattle.hm_state.specs.State.{At, Byte, Cell, State, Value, at, cells, into, word}
use Rattle.hm_beat.specs.Trees.{Asks, Check, Do, Fails, Leaf}
use Rattle.hm_beat.specs.Rows.{Each, Tree, active_at, advance_half, always, looked, retired, test, test_where}
use Rattle.hm_beat.specs.Touches.{span_bytes}
use Rattle.hm_kinds.specs.Row.{is_body, numbers}
use Rattle.hm_moves.specs.declared.elements.Element.{Element}

-- how many bytes an element has
abbrev pub byte_count : Size → ℕ
byte_count size.Byte = 1
byte_count size.Half = 2
byte_count size.Word = 4

-- Beat b of a row moves elements between memory and words of vector registers. The addresses are made of what stands in its sources. An
-- element has the number of its word among those of the beat, and the lowest of its bytes there, at whose truth it is active.
pub record Moves : Type 0 where
  -- the elements are stored, or else loaded
  pub store : Bool
  -- it is under the predicate, or else every element is active
  pub predicated : Bool
  -- the size of an element in memory, and in its register
  pub memory : Size
  pub register : Size
  -- what is loaded is extended with its sign
  pub signed : Bool
  pub sources : ℕ → List Place
  -- in rising order
  pub elements : ℕ → List ℕ → List Element
  pub words : ℕ → List Place
  -- what beat b writes back
  pub back : ℕ → List ℕ → List Write

-- ELEMENTS
-- those of a list of elements that are active, by the active bytes of a word
abbrev pub active_ones : List Bool → List Element → List Element
active_ones active [] = []
active_ones active (e ∷ es) = cond (get_or active e.lane false) (e ∷ []) [] ++ active_ones active es

-- their bytes in memory
abbrev pub bytes_of_elements : Size → List Element → List ℕ
bytes_of_elements z [] = []
bytes_of_elements z (e ∷ es) = span_bytes e.addr (byte_count z) ++ bytes_of_elements z es

-- CHECKS
-- a handler stores where it may not
abbrev pub is_closed : Actor → Bounds → Bool → ℕ → ℕ → Bool
is_closed (Handler frame) x store len a = store && is_denied x frame len a
is_closed actor x store len a = false

-- the stop of an access that no taint decides
abbrev pub sure_stop : Around → Bool → ℕ → ℕ → Option Stop
sure_stop x store len a = stop_after (fault_kind (is_thread x.actor) Vector store len a) (is_closed x.actor x.bounds store len a) store a

-- a stop as a check that fails, and none where there is no stop
abbrev pub fails : Option Stop → List (Check Cell Stop)
fails None = []
fails (Some e) = Fails e ∷ []

-- none of these bytes may be tainted, or it stops as tainted at the first of them
abbrev pub asks : ℕ → List ℕ → List (Check Cell Stop)
asks a [] = []
asks a (b ∷ bs) = Asks (Byte b) (stop.Tainted a) ∷ asks a bs

-- the checks of one element: a stop that no taint decides fails, and the thread asks for each byte that it loads
abbrev pub element_checks : Around → Bool → ℕ → ℕ → List (Check Cell Stop)
element_checks x store len a = fails (sure_stop x store len a) ++ cond (is_thread x.actor && not store) (asks a (span_bytes a len)) []

-- the checks of a list of elements, one element after another
abbrev pub checks_of : Around → Bool → ℕ → List Element → List (Check Cell Stop)
checks_of x store len [] = []
checks_of x store len (e ∷ es) = element_checks x store len e.addr ++ checks_of x store len es

-- LOADS
-- the little-endian number of the first n bytes
abbrev pub little_endian : ℕ → List ℕ → ℕ
little_endian zero xs = 0
little_endian (suc n) [] = 0
little_endian (suc n) (x ∷ xs) = x + 256 * little_endian n xs

-- a number that was loaded, as its register has it
abbrev pub as_loaded : Moves → ℕ → ℕ
as_loaded i x = let n = 8 * byte_count i.memory in cond (i.signed && leb (2 ^ (n - 1)) x) ((x + (2 ^ 32 - 2 ^ n)) % 2 ^ 32) x

-- an element laid into word j as this number, where it is of that word
abbrev pub laid_as : Size → ℕ → Element → ℕ → ℕ → ℕ
laid_as z j e x w = cond (eqb e.word j) (put_field (8 * e.lane) (8 * byte_count z) x w) w

-- an element that was loaded, laid into word j
abbrev pub laid : Moves → ℕ → Element → ℕ → ℕ → ℕ
laid i j e x w = laid_as i.register j e (as_loaded i x) w

-- word j with the elements that are loaded, by their bytes and then the old words of 32 bits; a word that was not read begins as zero
abbrev pub filled : Moves → ℕ → List Element → List ℕ → ℕ
filled i j [] xs = get_or xs j 0 % 2 ^ 32
filled i j (e ∷ es) xs = laid i j e (little_endian (byte_count i.memory) xs) (filled i j es (drop (byte_count i.memory) xs))

-- words from number j on are filled
abbrev pub fill : Moves → ℕ → List Element → List Place → List (Cell × (List Value → Value))
fill i j es [] = []
fill i j es (p ∷ ps) = (At p, λ vs. word (fit p (filled i j es (numbers vs)))) ∷ fill i (j + 1) es ps

-- STORES
-- byte k of an element and those after it are stored from words that were read
abbrev pub store_bytes : Bool → Element → ℕ → List ℕ → List (Cell × (List Value → Value))
store_bytes tainted e k [] = []
store_bytes tainted e k (a ∷ bs) =
    (Byte a, λ vs. record { n = byte_of (get_or (numbers vs) e.word 0) (e.lane + k); taint = tainted }) ∷ store_bytes tainted e (k + 1) bs

-- the bytes of a list of elements are stored from words that were read
abbrev pub store_all : Bool → Size → List Element → List (Cell × (List Value → Value))
store_all tainted z [] = []
store_all tainted z (e ∷ es) = store_bytes tainted e 0 (span_bytes e.addr (byte_count z)) ++ store_all tainted z es

-- THE TREE
-- tests of several places
abbrev pub test_all : List Place → (List ℕ → Tree) → Tree
test_all [] k = k []
test_all (p ∷ ps) k = test p λ n. test_all ps λ ns. k (n ∷ ns)

-- the four bytes of a word, all of them active
abbrev pub every_byte : List Bool
every_byte = true ∷ true ∷ true ∷ true ∷ []

-- the predicate is looked at; or the mask alone, and the slice of P0 where the advance inverts it
abbrev pub begun : Bool → ℕ → (ℕ → ℕ → List Bool → Tree) → Tree
begun true b k = looked false b k
begun false b k = test (mask_place b) λ mask. test_where (ltb 8 mask) (P0 b) λ slice. k mask slice every_byte

-- stores read their words, and so do loads that leave some of a word
abbrev pub words_read : Moves → ℕ → List Place
words_read i b = cond (i.store || not i.predicated) (i.words b) []

-- what beat b reads once its elements are known: the bytes that it loads, and the words that it reads
abbrev pub reads_of : Moves → ℕ → List Element → List Cell
reads_of i b es = cond i.store [] (map Byte (bytes_of_elements i.memory es)) ++ map At (words_read i b)

-- what the moved elements of beat b write: bytes of memory for a store, words of registers for a load
abbrev pub moved_by : Moves → Around → ℕ → List Element → List (Cell × (List Value → Value))
moved_by i x b es = cond i.store (store_all (marks x.actor) i.memory es) (fill i 0 es (i.words b))

-- the leaf of beat b, by what its sources hold, the elements that it moves, and the advance
abbrev pub moves_leaf : Moves → Around → ℕ → List ℕ → List Element → List Write → Leaf Cell Value Stop
moves_leaf i x b ns es advance = record {
  checks = checks_of x i.store (byte_count i.memory) es;
  reads = reads_of i b es;
  writes = moved_by i x b es ++ map always (i.back b ns ++ advance);
  mark = None;
}

-- V24 to V28: VLDRB, VLDRH, VLDRW, VSTRB, VSTRH, VSTRW, VLD20, VLD21, VLD40, VLD41, VLD42, VLD43, VST20, VST21, VST40, VST41, VST42 and VST43: beat b of a row
-- (DDI0553, "VLDRB, VLDRH, VLDRW", "VSTRB, VSTRH, VSTRW", "VLDRB, VLDRH, VLDRW, VLDRD (vector)", "VSTRB, VSTRH, VSTRW, VSTRD (vector)",
-- "VLD2", "VLD4", "VST2" and "VST4")
abbrev pub moves_tree : Moves → Around → ℕ → Tree
moves_tree i x b =
    begun i.predicated b λ mask slice active. test_all (i.sources b) λ ns.
    Do (moves_leaf i x b ns (active_ones active (i.elements b ns)) (advance_of b mask slice))

-- THE SAME OF A STATE
-- what beat b makes its addresses of
abbrev pub sources_at : Moves → ℕ → State → List ℕ
sources_at i b s = map (λ p. at p s) (i.sources b)

-- the elements that beat b moves
abbrev pub elements_at : Moves → ℕ → State → List Element
elements_at i b s = active_ones (cond i.predicated (active_at b s) every_byte) (i.elements b (sources_at i b s))

-- what beat b reads
abbrev pub values_at : Moves → ℕ → State → List ℕ
values_at i b s = numbers (map s.cell (reads_of i b (elements_at i b s)))

-- words from number j on as they are filled, by what was read
abbrev pub words_from : Moves → ℕ → List Element → List ℕ → List Place → List (Cell × Value)
words_from i j es xs [] = []
words_from i j es xs (p ∷ ps) = into (write p (filled i j es xs)) ∷ words_from i (j + 1) es xs ps

-- the words of beat b as they are filled, where it loads
abbrev pub loaded_at : Moves → ℕ → State → List (Cell × Value)
loaded_at i b s = cond i.store [] (words_from i 0 (elements_at i b s) (values_at i b s) (i.words b))

-- byte k of an element and those after it, as they are stored from words that were read
abbrev pub bytes_from : Bool → Element → List ℕ → ℕ → List ℕ → List (Cell × Value)
bytes_from tainted e xs k [] = []
bytes_from tainted e xs k (a ∷ bs) = (Byte a, record { n = byte_of (get_or xs e.word 0) (e.lane + k); taint = tainted }) ∷ bytes_from tainted e xs (k + 1) bs

-- the bytes of a list of elements, as they are stored from words that were read
abbrev pub all_bytes_from : Bool → Size → List Element → List ℕ → List (Cell × Value)
all_bytes_from tainted z [] xs = []
all_bytes_from tainted z (e ∷ es) xs = bytes_from tainted e xs 0 (span_bytes e.addr (byte_count z)) ++ all_bytes_from tainted z es xs

-- the bytes of the elements of beat b as they are stored, where it stores
abbrev pub stored_at : Moves → Bool → ℕ → State → List (Cell × Value)
stored_at i tainted b s = cond i.store (all_bytes_from tainted i.memory (elements_at i b s) (values_at i b s)) []

-- what beat b writes back
abbrev pub back_at : Moves → ℕ → State → List (Cell × Value)
back_at i b s = map into (i.back b (sources_at i b s))

-- FOUR BEATS
-- the fault of an access of the thread
abbrev pub fault_after : Option FaultKind → ℕ → Option Fault
fault_after None a = None
fault_after (Some k) a = Some (record { kind = k; addr = a })

-- the fault of the first element that has one
abbrev pub first_fault : Bool → ℕ → List Element → Option Fault
first_fault store len [] = None
first_fault store len (e ∷ es) = option_or (fault_after (fault_kind true Vector store len e.addr) e.addr) (first_fault store len es)

-- a state with the words of beat b filled
abbrev pub handed : Moves → ℕ → State → State
handed i b s = put_all cells (loaded_at i b s) s

-- all elements are moved in rising order, of which a word that is filled in parts takes one after another; and then come what is written
-- back and the advance
abbrev pub moved : Moves → State → State
moved i s =
    let s1 = handed i 0 s in
    let s2 = handed i 1 s1 in
    let s3 = handed i 2 s2 in
    retired (put_all cells (advance_half 0 s ++ advance_half 2 s)
    (put_all cells (back_at i 0 s ++ back_at i 1 s ++ back_at i 2 s ++ back_at i 3 s)
    (put_all cells (stored_at i false 0 s ++ stored_at i false 1 s ++ stored_at i false 2 s ++ stored_at i false 3 s) (handed i 3 s3))))

-- the active elements of all four words
abbrev pub all_elements : Moves → State → List Element
all_elements i s = elements_at i 0 s ++ elements_at i 1 s ++ elements_at i 2 s ++ elements_at i 3 s

-- V24 to V28: VLDRB, VLDRH, VLDRW, VSTRB, VSTRH, VSTRW, VLD20, VLD21, VLD40, VLD41, VLD42, VLD43, VST20, VST21, VST40, VST41, VST42 and VST43:
-- what four beats come to: the first active element that has a fault gives it, and else all are moved
-- (DDI0553, "VLDRB, VLDRH, VLDRW", "VSTRB, VSTRH, VSTRW", "VLDRB, VLDRH, VLDRW, VLDRD (vector)", "VSTRB, VSTRH, VSTRW, VSTRD (vector)",
-- "VLD2", "VLD4", "VST2" and "VST4")
abbrev pub moves_by_words : Moves → State → Result State Fault
moves_by_words i s = unless (first_fault i.store (byte_count i.memory) (all_elements i s)) (Ok (moved i s))

-- WHAT A ROW OWES
-- whether a place is a word of a vector register
abbrev pub is_word : Place → Bool
is_word (QWord k) = true
is_word p = false

-- this place is not written back
abbrev pub Unwritten : Place → List Write → Type 0
Unwritten p ws = Each (λ (w : Write). same_place w.place p ≡ false) ws

-- Sources are registers and words, and what is filled or stored from are words. No beat reads what an earlier one writes back, or makes addresses
-- of what an earlier one fills; and none but the last writes lr.
pub record IsMoves (i : Moves) : Type 0 where
  pub sources : (b : ℕ) → Each (λ (p : Place). is_body p ≡ true) (i.sources b)
  pub words : (b : ℕ) → Each (λ (p : Place). is_word p ≡ true) (i.words b)
  pub back : (b : ℕ) (ns : List ℕ) → Each (λ (w : Write). is_body w.place ≡ true) (i.back b ns)
  pub unsourced : (b k : ℕ) (ns : List ℕ) → k < b → b < 4 → Each (λ (p : Place). Unwritten p (i.back k ns)) (i.sources b)
  pub unread : (b k : ℕ) (ns : List ℕ) → k < b → b < 4 → Each (λ (p : Place). Unwritten p (i.back k ns)) (i.words b)
  pub unfilled : (b k : ℕ) → k < b → b < 4 → i.store ≡ false → Each (λ (p : Place). Each (λ (q : Place). same_place q p ≡ false) (i.words k)) (i.sources b)
  pub early : (k : ℕ) (ns : List ℕ) → k < 3 → Unwritten (R 14) (i.back k ns)

-- no beat writes lr
abbrev pub SparesLr : Moves → Type 0
SparesLr i = (b : ℕ) (ns : List ℕ) → Unwritten (R 14) (i.back b ns)
