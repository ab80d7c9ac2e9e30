-- The forms of vector rows that make P0.
use Rattle.std.specs.Prelude.{ℕ, ◌+◌, ◌*◌, ◌^◌, Bool, true, false, not, cond, eqb, ltb, leb, nat_eq, if◌then◌else◌, List, [], ◌∷◌, map, Option, Some, None}
use Rattle.std.specs.Prelude.{int_lt}
use Rattle.hm_base.specs.declared.Place.{Place}
use Rattle.hm_base.specs.declared.Place.TheVariants.{R}
use Rattle.hm_isa.specs.declared.vectors.Tail.{Tail}
use Rattle.hm_lane.specs.declared.lanes.Size.{Size}
use Rattle.hm_lane.specs.Lanes.{bytes_of, lanes, paired_tests}
use Rattle.hm_beat.specs.Rows.{word_place}
use Rattle.hm_kinds.specs.Row.{Row}
use Rattle.hm_lane_fns.specs.LaneFns.{lane_value}
use Rattle.hm_lane_fns.specs.Words.{both, filled, nibble, operand_of, operand_places, truths}
use Rattle.hm_forms_predicate.specs.declared.compare.Comparison.{Comparison}

-- THE PREDICATE ITSELF
-- V20: whether condition c of VCMP or VPT holds of two lanes: eq, ne; without a sign cs, hi; with a sign ge, lt, gt, le (DDI0553, "VCMP (vector)" and "VPT")
abbrev pub compares : ℕ → Size → ℕ → ℕ → Bool
compares c z x y =
    if nat_eq c 0 then eqb x y
    else (if nat_eq c 1 then not (eqb x y)
    else (if nat_eq c 2 then leb y x
    else (if nat_eq c 3 then ltb y x
    else (if nat_eq c 4 then not (int_lt (lane_value false z x) (lane_value false z y))
    else (if nat_eq c 5 then int_lt (lane_value false z x) (lane_value false z y)
    else (if nat_eq c 6 then int_lt (lane_value false z y) (lane_value false z x)
    else not (int_lt (lane_value false z y) (lane_value false z x))))))))

-- V20: the slice of P0 that VCMP and VPT make: the active bytes of elements that compare so (DDI0553, "VCMP (vector)" and "VPT")
abbrev pub compare_slice : Comparison → List Bool → List ℕ → ℕ
compare_slice r active (x ∷ ys) =
    nibble (both (filled r.z (paired_tests (compares r.c.value r.z) (lanes r.z (bytes_of x)) (lanes r.z (bytes_of (operand_of r.z r.by ys))))) active)
compare_slice r active _ = 0

-- a row that makes a slice of P0, and a mask where it begins a block
abbrev pub slice_row : Bool → (ℕ → List Place) → (ℕ → ℕ → List Bool → List ℕ → ℕ) → Option ℕ → Row
slice_row always_slice reads f mask = record {
  always_slice = always_slice;
  reads = reads;
  links = λ b. [];
  outs = λ b. [];
  slice = Some f;
  mask = mask;
  mark = None;
}

-- V20: the mask that VPT begins a block with; 0 stands for VCMP, which begins none (DDI0553, "VCMP (vector)" and "VPT")
abbrev pub block_mask : ℕ → Option ℕ
block_mask k = cond (eqb k 0) None (Some k)

-- V20: VCMP and VPT, beat by beat (DDI0553, "VCMP (vector)" and "VPT")
abbrev pub compare_row : Comparison → Row
compare_row r = slice_row false (λ b. word_place r.n.value b ∷ operand_places r.by b) (λ b slice. compare_slice r) (block_mask r.k.value)

-- V21: the bytes of word b that the first n elements, which VCTP counts, have (DDI0553, "VCTP")
abbrev pub counted : ℕ → ℕ → ℕ → List Bool
counted z n b = ltb (4 * b) (n * 2 ^ z) ∷ ltb (4 * b + 1) (n * 2 ^ z) ∷ ltb (4 * b + 2) (n * 2 ^ z) ∷ ltb (4 * b + 3) (n * 2 ^ z) ∷ []

-- V21: the slice of P0 that VCTP makes: the active bytes of the first elements, as many as the core register says (DDI0553, "VCTP")
abbrev pub count_slice : Tail → ℕ → List Bool → List ℕ → ℕ
count_slice r b active (n ∷ vs) = nibble (both (counted r.z.value n b) active)
count_slice r b active [] = 0

-- V21: VCTP, beat by beat (DDI0553, "VCTP")
abbrev pub count_row : Tail → Row
count_row r = slice_row false (λ b. R r.n.value ∷ []) (λ b slice. count_slice r b) None

-- a list of truth values, each negated
abbrev pub negated : List Bool → List Bool
negated l = map not l

-- V21: VPNOT, beat by beat (DDI0553, "VPNOT")
abbrev pub invert_row : Row
invert_row = slice_row true (λ b. []) (λ b slice active vs. nibble (both (negated (truths slice)) active)) None
