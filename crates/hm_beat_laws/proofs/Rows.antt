-- Each beat of each vector row.
use Rattle.std.proofs.Common.{◌≡◌, ℕ, ◌<◌, ◌≤◌, Bool, true, refl, subst}
use Rattle.hm_isa.specs.declared.Vector.{Vector}
use Rattle.hm_lane.specs.declared.lanes.Size.{Size}
use Rattle.hm_mem.specs.Memory.{Around}
use Rattle.hm_state.specs.State.{State, cells}
use Rattle.hm_beat.specs.Trees.{action}
use Rattle.hm_moves.specs.Moves.{byte_count}
use Rattle.hm_moves.specs.Ways.{Found, Transfer, at_addresses, at_offsets, contiguous, interleaved}
use Rattle.hm_moves.specs.Wholes.{FitsRegister}
use Rattle.hm_rows.specs.Rows.{Kind, Moves, Registers, kind_of, tree_of, vector_tree}
use Rattle.hm_rows.proofs.Rows.{IsSized, are_sized}
use Rattle.hm_beat_laws.specs.Rows.{kind_part, row_part}
use Rattle.hm_beat_laws.proofs.AllParts.{form_beat}
use Rattle.hm_beat_laws.proofs.Interleaved.{interleaved_part}
use Rattle.hm_beat_laws.proofs.MovedParts.{IsMovedPart, addresses_part, contiguous_part, offsets_part}

abbrev transfer : Bool → Size → Size → Bool → Found → Transfer
transfer store y z sign w = record { store = store; memory = y; register = z; signed = sign; found = w }

by_way : (store : Bool) (y z : Size) (sign : Bool) (w : Found) (x : Around) (s : State) (b : ℕ) → b < 4 → (store ≡ true → byte_count y ≤ byte_count z)
    → IsMovedPart (transfer store y z sign w) x b s
by_way store y z sign (contiguous d n offset before back) x s b low narrow = contiguous_part y z sign x s b low store d n offset before back narrow
by_way store y z sign (at_offsets d n m scale) x s b low narrow = offsets_part y z sign x s b low store d n m scale narrow
by_way store y z sign (at_addresses d m offset back) x s b low narrow = addresses_part y z sign x s b low store d m offset back narrow
by_way store y z sign (interleaved d n four part back) x s b low narrow = interleaved_part y z sign d n four part back x s b low store narrow

pub moved_parts : (t : Transfer) (x : Around) (b : ℕ) (s : State) → FitsRegister t → b < 4 → IsMovedPart t x b s
moved_parts t x b s narrow low = by_way t.store t.memory t.register t.signed t.found x s b low narrow

pub kind_parts : (k : Kind) (x : Around) (b : ℕ) (s : State) → ((t : Transfer) → k ≡ Moves t → FitsRegister t) → b < 4
    → (action cells (tree_of k x b)).run s ≡ kind_part k x b s
kind_parts (Registers f) x b s narrow low = form_beat f b s low
kind_parts (Moves t) x b s narrow low = moved_parts t x b s (narrow t refl) low

pub row_parts : (v : Vector) (x : Around) (b : ℕ) (s : State) → b < 4 → (action cells (vector_tree v x b)).run s ≡ row_part v x b s
row_parts v x b s low = kind_parts (kind_of v) x b s (λ t e. subst IsSized e (are_sized v)) low
