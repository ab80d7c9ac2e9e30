-- Where a beat is more or less than the part of the whole on its word with all other words inactive: a table of all exceptions.
use Rattle.std.specs.Prelude.{ℕ, Bool, true, false, cond, eqb, not, ◌&&◌, List, [], ◌∷◌, Option}
use Rattle.hm_base.specs.Place.{has_place}
use Rattle.hm_base.specs.declared.Place.{Place}
use Rattle.hm_base.specs.declared.Place.TheVariants.{QWord, P0, Mask01, Mask23}
use Rattle.hm_base.specs.declared.Stop.{Stop}
use Rattle.hm_isa.specs.declared.vectors.CarryName.{CarryName}
use Rattle.hm_isa.specs.declared.vectors.CarryName.TheVariants as carry
use Rattle.hm_lane.specs.declared.lanes.Size.{Size}
use Rattle.hm_mem.specs.Memory.{Around}
use Rattle.hm_mem.specs.declared.Access.TheVariants.{Vector}
use Rattle.hm_mem.specs.Seen.{stop_of}
use Rattle.hm_state.specs.State.{At, Byte, Cell, State, Value}
use Rattle.hm_forms.specs.declared.form.Form.{Form}
use Rattle.hm_forms.specs.declared.form.Form.TheVariants as form
use Rattle.hm_moves.specs.Moves.{byte_count}
use Rattle.hm_moves.specs.Ways.{Found, Transfer, way_predicated}
use Rattle.hm_rows.specs.Rows.{Kind, Moves, Registers}
use Rattle.hm_whole.specs.Whole.{seen_in}

-- V8: what begins anew on the first beat goes on from where it stands on the others: VADCI as VADC, and VSBCI as VSBC (DDI0553, "VADC" and "VSBC")
abbrev pub goes_on_name : CarryName → CarryName
goes_on_name carry.Adci = carry.Adc
goes_on_name carry.Sbci = carry.Sbc
goes_on_name name = name

-- a form as beat b does it: a sum without accumulation is one with it on the beats after the first, and a carry that begins goes on
abbrev pub from_beat : ℕ → Form → Form
from_beat b (form.Sum r) = form.Sum (record r { goes_on = cond (eqb b 0) r.goes_on true })
from_beat b (form.Long r) = form.Long (record r { goes_on = cond (eqb b 0) r.goes_on true })
from_beat b (form.Carry r) = form.Carry (record r { name = cond (eqb b 0) r.name (goes_on_name r.name) })
from_beat b f = f

-- 2. CORE REGISTERS, which are part of no word
-- those that get the offset after the last, and bases, are written on the last beat alone
abbrev pub gives_at_end : Kind → Bool
gives_at_end (Registers (form.Offsets r)) = true
gives_at_end (Moves t) = true
gives_at_end k = false

-- whether those that a row writes belong to beat b: sums, extremes and a register that is shifted through go from beat to beat, and belong to each
abbrev pub gives_registers : Kind → ℕ → Bool
gives_registers k b = cond (gives_at_end k) (eqb b 3) true

-- 3. P0 AND THE MASKS
-- the places of the predicate
abbrev pub is_predicate : Cell → Bool
is_predicate (At (P0 j)) = true
is_predicate (At Mask01) = true
is_predicate (At Mask23) = true
is_predicate c = false

-- another word is made inactive by another P0 and other masks, so what becomes of these is taken of v, which the state itself comes to, and all else of w
abbrev pub with_predicate : State → State → State
with_predicate v w = record { cell = λ c. cond (is_predicate c) (v.cell c) (w.cell c); sticky = w.sticky; pc = w.pc; rest = w.rest }

-- V21: VPSEL reads P0 as data, also where no predicate is in force, so the whole is that of P0 and the masks as they stand (DDI0553, "VPSEL")
abbrev pub chooses_by_predicate : Form → Bool
chooses_by_predicate (form.Select r) = true
chooses_by_predicate f = false

-- V28: whether registers take elements in turn, as those of VLD20, VLD21, VLD40, VLD41, VLD42, VLD43, VST20, VST21, VST40, VST41, VST42 and VST43 do
-- (DDI0553, "VLD2", "VLD4", "VST2" and "VST4")
abbrev pub takes_turns : Found → Bool
takes_turns w = not (way_predicated w)

-- a beat moves the elements of its word of memory, so the words of registers that these are in belong to it, in place of its word of each register
abbrev pub belongs_in_turn : List Place → Cell → Bool → Bool
belongs_in_turn words (At (QWord k)) by_word = has_place words (QWord k)
belongs_in_turn words c by_word = by_word

-- an element that is not loaded stays as it stands, as it is of another beat; in other registers zero takes its place
abbrev pub keeps_others : Transfer → Bool
keeps_others t = takes_turns t.found && not t.store

-- 5. WHO ACCESSES THE MEMORY: the whole of a row that loads or stores knows faults alone, and no taint
-- the stop of an element at an address, if it has one: that of its access in the machine
abbrev pub element_stop : Around → Bool → Size → State → ℕ → Option Stop
element_stop x store y s a = stop_of x Vector store (byte_count y) a (seen_in s)

-- a byte that is written is tainted so
abbrev pub mark : Bool → Cell → Value → Value
mark m (At p) v = v
mark m (Byte a) v = record { n = v.n; taint = m }

-- and each of a list of writes
abbrev pub marked : Bool → List (Cell × Value) → List (Cell × Value)
marked m [] = []
marked m (w ∷ ws) = (w.0, mark m w.0 w.1) ∷ marked m ws
