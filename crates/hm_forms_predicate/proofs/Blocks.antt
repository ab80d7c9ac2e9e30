-- The code of a row that begins a block does what its tree says.
use Rattle.std.proofs.Common.{◌≡◌, ℕ, ◌%◌, true, false, cond, eqb, List, [], ◌∷◌, Ok, sym, ◌∙◌, ap}
use Rattle.hm_base.specs.declared.Place.{Place}
use Rattle.hm_regs.specs.declared.Regs.{Regs}
use Rattle.hm_regs.specs.Place.{Counted, with_value}
use Rattle.hm_regs.specs.Writes.{write}
use Rattle.hm_lane.specs.Predicate.{mask_place}
use Rattle.hm_mem.specs.Memory.{Memory}
use Rattle.hm_state.specs.Store.{flagged, put_all}
use Rattle.hm_state.specs.State.{cells, state_of}
use Rattle.hm_state.proofs.Cells.{proper_cell, put_is}
use Rattle.hm_beat.specs.Trees.{written}
use Rattle.hm_beat.specs.Rows.{always}
use Rattle.hm_beat.specs.Laws.{run}
use Rattle.hm_lane.proofs.Ends.{mask_placed}
use Rattle.hm_beat.proofs.Footprint.{mask_plain}
use Rattle.hm_forms_predicate.specs.Blocks.{block_tree}

pub block_done : (k b : ℕ) (p : Place) (r r' : Regs) (m : Memory) (output : List ℕ) → eqb (b % 2) 1 ≡ true → p ≡ mask_place b → Counted r
    → r' ≡ with_value p k r
    → run (block_tree k b) r m output ≡ Ok (state_of r' m output)
block_done k b p r r' m output odd e n f =
    let s = state_of r m output in
    (λ j. Ok (flagged false (put_all cells (written (cond (odd j) (always (write (mask_place b) k) ∷ []) []) []) s)))
    ∙ ap Ok (sym (put_is (mask_place b) k r m output (mask_placed b) (proper_cell (mask_place b) (mask_placed b) (mask_plain b)) n)
    ∙ ap (λ q. state_of (with_value q k r) m output) (sym e) ∙ ap (λ x. state_of x m output) (sym f))
