-- The rows that load or store, V24 to V28: where each finds its elements.
use Rattle.std.specs.Prelude.{ℕ, zero, suc, ◌+◌, ◌*◌, ◌/◌, ◌%◌, ◌^◌, Bool, true, false, ◌&&◌, cond, eqb, ltb, List, [], ◌∷◌, get_or}
use Rattle.hm_base.specs.Bits.{field}
use Rattle.hm_base.specs.declared.Place.{Place}
use Rattle.hm_base.specs.declared.Place.TheVariants.{R}
use Rattle.hm_regs.specs.Writes.{Write, write}
use Rattle.hm_lane.specs.declared.lanes.Size.{Size}
use Rattle.hm_lane.specs.Lanes.{per_word}
use Rattle.hm_mem.specs.Memory.{Around}
use Rattle.hm_beat.specs.Rows.{Tree, word_place}
use Rattle.hm_moves.specs.declared.elements.Element.{Element}
use Rattle.hm_moves.specs.declared.ways.Way.{Way}
use Rattle.hm_moves.specs.declared.ways.Way.TheVariants.{Contiguous, Offsets, Addresses, Interleaved}
use Rattle.hm_moves.specs.declared.ways.Move.{Move}
use Rattle.hm_moves.specs.Moves.{Moves, moves_tree, byte_count}

-- f of n numbers from j on
abbrev pub each_from : {A : Type 0} → (ℕ → A) → ℕ → ℕ → List A
each_from f j zero = []
each_from f j (suc n) = f j ∷ each_from f (j + 1) n

-- WHERE A ROW FINDS ITS ELEMENTS
-- how a row finds the elements that it loads or stores
pub data Found : Type 0 where
  -- V24 and V25: VLDRB, VLDRH, VLDRW, VSTRB, VSTRH and VSTRW (DDI0553, "VLDRB, VLDRH, VLDRW" and "VSTRB, VSTRH, VSTRW"):
  -- one behind another, for vector register d: from the base in register n, or from there with the offset; the base may get it too
  contiguous : (d n offset : ℕ) (before back : Bool) → Found
  -- V26: VLDRB, VLDRH, VLDRW, VSTRB, VSTRH and VSTRW (DDI0553, "VLDRB, VLDRH, VLDRW, VLDRD (vector)" and "VSTRB, VSTRH, VSTRW, VSTRD (vector)"):
  -- for d, at the base in n and the offsets in vector register m, times 2 to the power scale
  at_offsets : (d n m scale : ℕ) → Found
  -- V27: VLDRW and VSTRW (DDI0553, "VLDRB, VLDRH, VLDRW, VLDRD (vector)" and "VSTRB, VSTRH, VSTRW, VSTRD (vector)"):
  -- for d, at the addresses in vector register m with the offset added, which m may get
  at_addresses : (d m offset : ℕ) (back : Bool) → Found
  -- V28: VLD20, VLD21, VLD40, VLD41, VLD42, VLD43, VST20, VST21, VST40, VST41, VST42 and VST43 (DDI0553, "VLD2", "VLD4", "VST2" and "VST4"):
  -- in turn for two registers from d on, or for four, from the base in n: one part of as many as there are registers
  interleaved : (d n : ℕ) (four : Bool) (part : ℕ) (back : Bool) → Found

-- V24 to V28: VLDRB, VLDRH, VLDRW, VSTRB, VSTRH, VSTRW, VLD20, VLD21, VLD40, VLD41, VLD42, VLD43, VST20, VST21, VST40, VST41, VST42 and VST43:
-- what a row moves: it stores or loads elements, whose size in memory and in their register it says, with their sign or without
-- (DDI0553, "VLDRB, VLDRH, VLDRW", "VSTRB, VSTRH, VSTRW", "VLDRB, VLDRH, VLDRW, VLDRD (vector)", "VSTRB, VSTRH, VSTRW, VSTRD (vector)",
-- "VLD2", "VLD4", "VST2" and "VST4")
pub record Transfer : Type 0 where
  pub store : Bool
  pub memory : Size
  pub register : Size
  pub signed : Bool
  pub found : Found

-- an element by its address modulo 2^32, the number of its word among those of the beat, and its lowest byte there
abbrev pub element : ℕ → ℕ → ℕ → Element
element a word lane = record { addr = a % 2 ^ 32; word = word; lane = lane }

-- where elements that stand one behind another begin, before meaning with the offset
abbrev pub start : Bool → ℕ → ℕ → ℕ
start before offset base = cond before ((base + offset) % 2 ^ 32) base

-- V28: how many registers take elements in turn: four by VLD40, VLD41, VLD42, VLD43, VST40, VST41, VST42 and VST43, two by VLD20, VLD21, VST20 and
-- VST21 (DDI0553, "VLD2", "VLD4", "VST2" and "VST4")
abbrev pub registers : Bool → ℕ
registers four = cond four 4 2

-- V28: the number in the stream of the first element of beat b of VLD20, VLD21, VLD40, VLD41, VLD42, VLD43, VST20, VST21, VST40, VST41, VST42 or VST43:
-- beat b of a part moves word 4 * part + b of memory
-- (DDI0553, "VLD2", "VLD4", "VST2" and "VST4")
abbrev pub stream : ℕ → Size → ℕ → ℕ
stream part z b = per_word z * (4 * part + b)

-- what the addresses of beat b are made of, by how its row finds them
abbrev pub way_sources : Found → ℕ → List Place
way_sources (contiguous d n offset before back) b = R n ∷ []
way_sources (at_offsets d n m scale) b = R n ∷ word_place m b ∷ []
way_sources (at_addresses d m offset back) b = word_place m b ∷ []
way_sources (interleaved d n four part back) b = R n ∷ []

-- element j of beat b, of size y in memory and z in its register, by what stands in the sources; of interleaved ones element k of
-- the stream is element k div R of register k mod R, where there are R registers
abbrev pub way_element : Size → Size → Found → ℕ → List ℕ → ℕ → Element
way_element y z (contiguous d n offset before back) b ns j =
    element (start before offset (get_or ns 0 0) + byte_count y * (per_word z * b + j)) 0 (byte_count z * j)
way_element y z (at_offsets d n m scale) b ns j =
    element (get_or ns 0 0 + field (8 * (byte_count z * j)) (8 * byte_count z) (get_or ns 1 0) * 2 ^ scale) 0 (byte_count z * j)
way_element y z (at_addresses d m offset back) b ns j = element (get_or ns 0 0 + offset) 0 (byte_count z * j)
way_element y z (interleaved d n four part back) b ns j =
    let k = stream part z b + j in
    element (get_or ns 0 0 + byte_count y * k) (j % registers four) (byte_count z * (k / registers four) % 4)

-- the words that beat b fills or stores from; interleaved elements are of one word of each register that they are of
abbrev pub way_words : Size → Found → ℕ → List Place
way_words z (contiguous d n offset before back) b = word_place d b ∷ []
way_words z (at_offsets d n m scale) b = word_place d b ∷ []
way_words z (at_addresses d m offset back) b = word_place d b ∷ []
way_words z (interleaved d n four part back) b =
    each_from (λ i. let k = stream part z b + i in word_place (d + k % registers four) (byte_count z * (k / registers four) / 4)) 0
    (cond (ltb (per_word z) (registers four)) (per_word z) (registers four))

-- what beat b writes back: the base on the last beat, or each address on its beat
abbrev pub way_back : Found → ℕ → List ℕ → List Write
way_back (contiguous d n offset before back) b ns = cond (back && eqb b 3) (write (R n) ((get_or ns 0 0 + offset) % 2 ^ 32) ∷ []) []
way_back (at_offsets d n m scale) b ns = []
way_back (at_addresses d m offset back) b ns = cond back (write (word_place m b) ((get_or ns 0 0 + offset) % 2 ^ 32) ∷ []) []
way_back (interleaved d n four part back) b ns = cond (back && eqb b 3) (write (R n) ((get_or ns 0 0 + 16 * registers four) % 2 ^ 32) ∷ []) []

-- whether a row is under the predicate; one of interleaved elements moves every one
abbrev pub way_predicated : Found → Bool
way_predicated (interleaved d n four part back) = false
way_predicated w = true

-- whether a beat of a row writes lr
abbrev pub way_writes_lr : Found → Bool
way_writes_lr (contiguous d n offset before back) = back && eqb n 14
way_writes_lr (at_offsets d n m scale) = false
way_writes_lr (at_addresses d m offset back) = false
way_writes_lr (interleaved d n four part back) = back && eqb n 14

-- V24 to V28: VLDRB, VLDRH, VLDRW, VSTRB, VSTRH, VSTRW, VLD20, VLD21, VLD40, VLD41, VLD42, VLD43, VST20, VST21, VST40, VST41, VST42 and VST43:
-- a row as what each beat moves
-- (DDI0553, "VLDRB, VLDRH, VLDRW", "VSTRB, VSTRH, VSTRW", "VLDRB, VLDRH, VLDRW, VLDRD (vector)", "VSTRB, VSTRH, VSTRW, VSTRD (vector)",
-- "VLD2", "VLD4", "VST2" and "VST4")
abbrev pub moves_by : Transfer → Moves
moves_by t = record {
  store = t.store;
  predicated = way_predicated t.found;
  memory = t.memory;
  register = t.register;
  signed = t.signed;
  sources = way_sources t.found;
  elements = λ b ns. each_from (way_element t.memory t.register t.found b ns) 0 (per_word t.register);
  words = way_words t.register t.found;
  back = way_back t.found;
}

-- THE SAME OF WHAT THE CODE HOLDS
-- what the code holds of where a row finds its elements, as one of these ways
abbrev pub way_of : Way → Found
way_of (Contiguous w) = contiguous w.d w.n w.offset w.before w.back
way_of (Offsets w) = at_offsets w.d w.n w.m w.scale
way_of (Addresses w) = at_addresses w.d w.m w.offset w.back
way_of (Interleaved w) = interleaved w.d w.n w.four w.part w.back

-- what the code holds of a load or store, as what the row moves
abbrev pub transfer_of : Move → Transfer
transfer_of m = record { store = m.store; memory = m.memory; register = m.register; signed = m.signed; found = way_of m.way }

-- what the code holds of a load or store, as what each beat moves
abbrev pub moves_of : Move → Moves
moves_of m = moves_by (transfer_of m)

-- V24 to V28: VLDRB, VLDRH, VLDRW, VSTRB, VSTRH, VSTRW, VLD20, VLD21, VLD40, VLD41, VLD42, VLD43, VST20, VST21, VST40, VST41, VST42 and VST43:
-- beat b of a row, by what the code holds
-- (DDI0553, "VLDRB, VLDRH, VLDRW", "VSTRB, VSTRH, VSTRW", "VLDRB, VLDRH, VLDRW, VLDRD (vector)", "VSTRB, VSTRH, VSTRW, VSTRD (vector)",
-- "VLD2", "VLD4", "VST2" and "VST4")
abbrev pub move_tree : Move → Around → ℕ → Tree
move_tree m = moves_tree (moves_of m)
