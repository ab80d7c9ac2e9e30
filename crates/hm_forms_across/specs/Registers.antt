-- What sums and extremes do to core registers, over the elements of whole registers in rising order.
use Rattle.std.specs.Prelude.{◌+◌, ◌*◌, ◌/◌, ◌%◌, ◌^◌, Bool, cond, List, [], ◌∷◌, map, nat_eq}
use Rattle.hm_base.specs.declared.Place.TheVariants.{R}
use Rattle.hm_isa.specs.declared.vectors.V23.{V23}
use Rattle.hm_lane.specs.declared.lanes.Size.TheVariants.{Word}
use Rattle.hm_lane.specs.Lanes.{firsts, modulus}
use Rattle.hm_regs.specs.Writes.{write}
use Rattle.hm_state.specs.State.{Cell, State, Value, at, into}
use Rattle.hm_beat.specs.Rows.{predicate_at}
use Rattle.hm_lane_fns.specs.LaneFns.{cut, lane_value}
use Rattle.hm_lane_fns.specs.Words.{size_of}
use Rattle.hm_lane_fns.specs.Registers.{elements}
use Rattle.hm_forms_across.specs.declared.long_sums.LongSums.{LongSums}
use Rattle.hm_forms_across.specs.declared.sums.Sums.{Sums}
use Rattle.hm_forms_across.specs.Forms.{added, best, term}

-- V22: VADDV, VADDVA, VMLADAV and VMLADAVA under 16 truth values: the elements of a register, or the products of those of two, are added to a register
-- one after another (DDI0553, "VADDV" and "VMLADAV")
abbrev pub sum_under : List Bool → Sums → State → List (Cell × Value)
sum_under ps r s =
    let place = R (2 * r.l.value) in
    let start = cond r.goes_on (at place s) 0 in
    let sum = added (2 ^ 32) (term r.terms) (firsts r.terms.z ps) (elements r.terms.z r.n.value s) (elements r.terms.z r.m.value s) start in
    into (write place sum) ∷ []

-- V22: what VADDV, VADDVA, VMLADAV and VMLADAVA write, which is under the predicate (DDI0553, "VADDV" and "VMLADAV")
abbrev pub sum_writes : Sums → State → List (Cell × Value)
sum_writes r s = sum_under (predicate_at s) r s

-- V22: VADDLV, VADDLVA, VMLALDAV and VMLALDAVA under 16 truth values: the same in two registers (DDI0553, "VADDLV" and "VMLALDAV")
abbrev pub long_under : List Bool → LongSums → State → List (Cell × Value)
long_under ps r s =
    let low = R (2 * r.l.value) in
    let high = R (2 * r.h.value + 1) in
    let start = cond r.goes_on (at low s + 2 ^ 32 * at high s) 0 in
    let sum = added (2 ^ 64) (term r.terms) (firsts r.terms.z ps) (elements r.terms.z r.n.value s) (elements r.terms.z r.m.value s) start in
    into (write low (sum % 2 ^ 32)) ∷ into (write high (sum / 2 ^ 32)) ∷ []

-- V22: what VADDLV, VADDLVA, VMLALDAV and VMLALDAVA write, which is under the predicate (DDI0553, "VADDLV" and "VMLALDAV")
abbrev pub long_writes : LongSums → State → List (Cell × Value)
long_writes r s = long_under (predicate_at s) r s

-- V23: VMAXV and VMINV under 16 truth values: the best of a register's old value and of the elements of a vector register
-- (DDI0553, "VMAXV, VMAXAV" and "VMINV, VMINAV")
abbrev pub extreme_under : List Bool → V23 → State → List (Cell × Value)
extreme_under ps r s =
    let z = size_of r.z.value in
    let u = nat_eq r.u.value 1 in
    let place = R r.t.value in
    let extreme = best r.name (firsts z ps) (map (lane_value u z) (elements z r.m.value s)) (lane_value u z (at place s % modulus z)) in
    into (write place (cut Word extreme)) ∷ []

-- V23: what VMAXV and VMINV write, which is under the predicate (DDI0553, "VMAXV, VMAXAV" and "VMINV, VMINAV")
abbrev pub extreme_writes : V23 → State → List (Cell × Value)
extreme_writes r s = extreme_under (predicate_at s) r s
