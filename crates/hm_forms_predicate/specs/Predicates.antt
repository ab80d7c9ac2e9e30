-- What forms make of P0, as truth values for the 16 bytes of a register.
use Rattle.std.specs.Prelude.{ℕ, ◌+◌, ◌*◌, ◌^◌, Bool, not, cond, eqb, ltb, List, [], ◌∷◌, ◌++◌, drop, map, take, Option, Some, None}
use Rattle.hm_base.specs.declared.Place.{Place}
use Rattle.hm_base.specs.declared.Place.TheVariants.{R, P0}
use Rattle.hm_regs.specs.Writes.{write}
use Rattle.hm_isa.specs.declared.vectors.Tail.{Tail}
use Rattle.hm_lane.specs.Lanes.{lanes, paired_tests}
use Rattle.hm_lane.specs.Predicate.{mask_place}
use Rattle.hm_state.specs.Store.{put_all}
use Rattle.hm_state.specs.State.{Cell, State, Value, at, cells, into}
use Rattle.hm_beat.specs.Rows.{predicate_at, retired}
use Rattle.hm_lane_fns.specs.Words.{both, filled, nibble, truths}
use Rattle.hm_forms_predicate.specs.declared.compare.Comparison.{Comparison}
use Rattle.hm_forms_predicate.specs.Forms.{compares, negated}
use Rattle.hm_lane_fns.specs.Registers.{elements, operand_register}

-- the truth values of a half, inverted where its mask is greater than 8
abbrev pub inverted_half : ℕ → List Bool → List Bool
inverted_half mask l = cond (ltb 8 mask) (negated l) l

-- a mask shifts, or gets a new one
abbrev pub mask_after : Place → ℕ → Option ℕ → List (Cell × Value)
mask_after p mask None = cond (not (eqb mask 0)) (into (write p (2 * mask)) ∷ []) []
mask_after p mask (Some k) = into (write p k) ∷ []

-- the half whose first word is b gets eight truth values in P0, and then its mask
abbrev pub half_writes : ℕ → List Bool → Option ℕ → State → List (Cell × Value)
half_writes b l new s =
    let mask = at (mask_place b) s in
    let inverted = inverted_half mask l in
    into (write (P0 b) (nibble inverted)) ∷ into (write (P0 (b + 1)) (nibble (drop 4 inverted))) ∷ mask_after (mask_place b) mask new

-- P0 gets 16 truth values, and the mask of each half shifts, or gets a new one
abbrev pub predicate_whole : List Bool → Option ℕ → State → State
predicate_whole l new s = retired (put_all cells (half_writes 0 (take 8 l) new s ++ half_writes 2 (drop 8 l) new s) s)

-- V20: the truth values that VCMP and VPT make: where a comparison of elements holds, of active bytes (DDI0553, "VCMP (vector)" and "VPT")
abbrev pub compare_result : Comparison → State → List Bool
compare_result r s = both (filled r.z (paired_tests (compares r.c.value r.z) (elements r.z r.n.value s) (lanes r.z (operand_register r.z r.by s))))
    (predicate_at s)

-- V21: the truth values that VCTP makes: the bytes of the first elements, of active bytes (DDI0553, "VCTP")
abbrev pub count_result : Tail → State → List Bool
count_result r s = both (map (λ k. ltb k (at (R r.n.value) s * 2 ^ r.z.value)) (0 ∷ 1 ∷ 2 ∷ 3 ∷ 4 ∷ 5 ∷ 6 ∷ 7 ∷ 8 ∷ 9 ∷ 10 ∷ 11 ∷ 12 ∷ 13 ∷ 14 ∷ 15 ∷ []))
    (predicate_at s)

-- V21: the truth values that VPNOT makes: P0 inverted, of active bytes (DDI0553, "VPNOT")
abbrev pub invert_result : State → List Bool
invert_result s = both (negated (truths (at (P0 0) s) ++ truths (at (P0 1) s) ++ truths (at (P0 2) s) ++ truths (at (P0 3) s))) (predicate_at s)
