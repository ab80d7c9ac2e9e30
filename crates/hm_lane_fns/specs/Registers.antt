-- Whole vector registers, as forms of rows take and give them, and what ends an instruction.
use Rattle.std.specs.Prelude.{ℕ, ◌*◌, Bool, cond, nat_eq, List, ◌++◌, replicate}
use Rattle.hm_base.specs.declared.Place.TheVariants.{R}
use Rattle.hm_lane.specs.declared.lanes.Size.{Size}
use Rattle.hm_lane.specs.Lanes.{lanes, merged, per_word, unlanes}
use Rattle.hm_state.specs.Store.{flagged, put_all}
use Rattle.hm_state.specs.State.{Cell, State, Value, at, cells}
use Rattle.hm_beat.specs.Rows.{advance_half, predicate_at, register_at, retired, write_register}
use Rattle.hm_lane_fns.specs.declared.words.Operand.{Operand}
use Rattle.hm_lane_fns.specs.declared.words.Operand.TheVariants.{Vector, Scalar, Constant}

-- registers get these values, the masks advance, and the next instruction stands behind it
abbrev pub advancing : List (Cell × Value) → State → State
advancing ws s = retired (put_all cells (ws ++ advance_half 0 s ++ advance_half 2 s) s)

-- registers get these values, QC is set where this says so, the masks advance, and the next instruction stands behind it
abbrev pub saturating : Bool → List (Cell × Value) → State → State
saturating marked ws s = retired (flagged marked (put_all cells (ws ++ advance_half 0 s ++ advance_half 2 s) s))

-- a register merges 16 bytes under 16 truth values
abbrev pub merges_under : List Bool → ℕ → List ℕ → State → List (Cell × Value)
merges_under ps d result s = write_register d (merged ps (register_at d s) result)

-- a register merges 16 bytes under the predicate
abbrev pub merges : ℕ → List ℕ → State → List (Cell × Value)
merges d result s = merges_under (predicate_at s) d result s

-- the elements of a register
abbrev pub elements : Size → ℕ → State → List ℕ
elements z q s = lanes z (register_at q s)

-- the 16 bytes of a vector register with a number in each lane
abbrev pub in_each_lane : Size → ℕ → List ℕ
in_each_lane z x = unlanes z (replicate (4 * per_word z) x)

-- the second operand: a register, or a core register or a constant in each lane; number 15 stands for zero
abbrev pub operand_register : Size → Operand → State → List ℕ
operand_register z (Vector q) s = register_at q.value s
operand_register z (Scalar m) s = in_each_lane z (cond (nat_eq m.value 15) 0 (at (R m.value) s))
operand_register z (Constant k) s = in_each_lane z k
