-- A block that begins: its beats, and the whole.
use Rattle.std.specs.Prelude.{ℕ, ◌%◌, cond, eqb, [], ◌∷◌, None}
use Rattle.hm_base.specs.declared.Place.TheVariants.{Mask01, Mask23}
use Rattle.hm_regs.specs.Writes.{write}
use Rattle.hm_lane.specs.Predicate.{mask_place}
use Rattle.hm_state.specs.Store.{put_all}
use Rattle.hm_state.specs.State.{State, cells, into}
use Rattle.hm_beat.specs.Trees.{Do}
use Rattle.hm_beat.specs.Rows.{Tree, always, retired}

-- V21: VPST, beat by beat: it is not under the predicate, and the second beat of a half gives it the mask (DDI0553, "VPST")
abbrev pub block_tree : ℕ → ℕ → Tree
block_tree k b = Do (record { checks = []; reads = []; writes = cond (eqb (b % 2) 1) (always (write (mask_place b) k) ∷ []) []; mark = None })

-- V21: VPST as a whole: both halves get the mask of the block (DDI0553, "VPST")
abbrev pub block_whole : ℕ → State → State
block_whole k s = retired (put_all cells (into (write Mask01 k) ∷ into (write Mask23 k) ∷ []) s)
