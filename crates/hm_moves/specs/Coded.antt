-- What the code of a row that loads or stores says of itself.
use Rattle.std.specs.Prelude.{ℕ, ◌≡◌, ◌+◌, ◌%◌, ◌^◌, ◌≤◌, ◌<◌, Bool, true, false, cond, ltb, List, [], ◌∷◌, Option, None, All, IfSome}
use Rattle.std.specs.Option.{option_or}
use Rattle.hm_base.specs.declared.Place.{Place}
use Rattle.hm_base.specs.declared.Stop.{Stop}
use Rattle.hm_base.specs.declared.Place.TheVariants.{P0}
use Rattle.hm_regs.specs.declared.Regs.{Regs}
use Rattle.hm_regs.specs.Place.{value_at}
use Rattle.hm_regs.specs.Writes.{Write, write}
use Rattle.hm_lane.specs.declared.lanes.Size.{Size}
use Rattle.hm_mem.specs.declared.Access.TheVariants.{Vector}
use Rattle.hm_mem.specs.Memory.{Around}
use Rattle.hm_mem.specs.Seen.{Seen, read, stop_of}
use Rattle.hm_state.specs.State.{State}
use Rattle.hm_lane.specs.Predicate.{mask_of, mask_place}
use Rattle.hm_beat.specs.Touches.{looked_places}
use Rattle.hm_beat.specs.Rows.{active_at, word_place}
use Rattle.hm_kinds.specs.declared.rows.Written.{Written}
use Rattle.hm_moves.specs.declared.elements.Element.{Element}
use Rattle.hm_moves.specs.Moves.{Moves, as_loaded, every_byte, laid_as, byte_count}
use Rattle.hm_moves.specs.Ways.{Found, way_predicated, way_words}

-- the stop of the first element that has one
abbrev pub first_stop : Around → Bool → ℕ → List Element → Seen → Option Stop
first_stop x store len [] s = None
first_stop x store len (e ∷ es) s = option_or (stop_of x Vector store len e.addr s) (first_stop x store len es s)

-- each element lies in its word
abbrev pub Fit : Size → List Element → Type 0
Fit z es = All (λ (e : Element). e.lane + byte_count z ≤ 4) es

-- word j with elements laid into it, each as the number of its address
abbrev pub laid_all : Size → ℕ → List Element → (ℕ → ℕ) → ℕ → ℕ
laid_all z j [] v w = w
laid_all z j (e ∷ es) v w = laid_as z j e (v e.addr) (laid_all z j es v w)

-- word j with the elements that are loaded
abbrev pub filled_in : Moves → ℕ → List Element → ℕ → Seen → ℕ
filled_in i j es old s = laid_all i.register j es (λ a. as_loaded i (read (byte_count i.memory) a s)) old

-- words from number j on, as they are filled
abbrev pub word_puts : Moves → ℕ → List Element → List Place → (Place → ℕ) → Seen → List Write
word_puts i j es [] old s = []
word_puts i j es (p ∷ ps) old s = write p (filled_in i j es (old p) s) ∷ word_puts i (j + 1) es ps old s

-- the active bytes of beat b
abbrev pub active_of : Moves → ℕ → State → List Bool
active_of i b s = cond i.predicated (active_at b s) every_byte

-- how a word begins to be filled, as the registers stand
abbrev pub old_word : Moves → Regs → Place → ℕ
old_word i r p = cond i.predicated 0 (value_at p r % 2 ^ 32)

-- the words of beat b as they are filled, where the row loads, as the registers stand before
abbrev pub loads_of : Moves → ℕ → List Element → Regs → Seen → List Write
loads_of i b es r s = cond i.store [] (word_puts i 0 es (i.words b) (old_word i r) s)

-- the places that say which elements are active and how the masks advance, as the registers stand
abbrev pub begun_in : Bool → ℕ → Regs → List Place
begun_in true b r = looked_places false b r
begun_in false b r = mask_place b ∷ cond (ltb 8 (mask_of b r)) (P0 b ∷ []) []

-- where a register is named, each beat of a way fills or stores a word of it and no other, under the predicate
abbrev pub IsSingle : Found → Option ℕ → Type 0
IsSingle w o = IfSome o λ q. (q < 8) × (way_predicated w ≡ true) × ((z : Size) (b : ℕ) → way_words z w b ≡ word_place q b ∷ [])

-- what the code says is written, as writes in the same order
abbrev pub puts_of : List Written → List Write
puts_of [] = []
puts_of (w ∷ ws) = write w.place w.value ∷ puts_of ws
