use Rattle.std.proofs.Common.{rules, ◌≡◌, ℤ, FitsSigned, w64, to_z, of_z, Bool, true, false, refl}
use Rattle.hm_lane.specs.declared.lanes.Size.{Size}
use Rattle.hm_lane_fns.specs.LaneFns.{StandsFor, exact, lane_value, shifts}
use Rattle.hm_lane_fns.proofs.Shifts.{of_numbers, stands_itself}
use Rattle.hm_lane_fns.proofs.functions.exact_lane.Goals as goal

-- what is the number itself where p fails, and stands for it where p holds, stands for it
either_way : (p u : Bool) (z : Size) (v w : ℤ) → (p ≡ false → v ≡ w) → (p ≡ true → StandsFor u z v w) → StandsFor u z v w
either_way false u z v w same stands = stands_itself u z v w (same refl)
either_way true u z v w same stands = stands refl

pub returns : goal.returns
returns c =
    let fits : FitsSigned w64 c.exact_value.result = search rules in
    let x : FitsSigned w64 c.lane_value-x.result = search rules in
    let y : FitsSigned w64 c.lane_value-y.result = search rules in
    let old = lane_value c.takes_unsigned-u.result c.args.z c.args.c in
    let value = exact c.args.f c.args.z old (to_z w64 (of_z w64 c.lane_value-x.result)) (to_z w64 (of_z w64 c.lane_value-y.result)) in
    of_numbers c.args.f c.args.unsigned c.takes_unsigned-u.result c.args.z c.exact_value.result c.lane_value-x.result c.lane_value-y.result c.args.c c.args.a
    c.args.b fits x y c.takes_unsigned-u.ensures.value c.lane_value-x.ensures.value c.lane_value-y.ensures.value
    (either_way (shifts c.args.f) c.args.unsigned c.args.z c.exact_value.result value c.exact_value.ensures.value
    (c.exact_value.ensures.stand_in c.args.unsigned))
