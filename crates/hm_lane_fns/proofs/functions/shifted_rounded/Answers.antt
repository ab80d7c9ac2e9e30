use Rattle.std.proofs.Common.{rules, ◌≡◌, pos, false, FitsSigned, w64, arith}
use Rattle.std.proofs.lemmas.Int.{ints}
use Rattle.std.specs.Prelude.{int_lt}
use Rattle.hm_lane_fns.proofs.Shifts.{shifted_rounded_up}
use Rattle.hm_lane_fns.proofs.functions.shifted_rounded.Goals as goal

pub returns-else-s-lt0 : goal.returns-else-s-lt0
returns-else-s-lt0 c =
    let f : FitsSigned w64 c.times_power.result = search rules in
    let up : int_lt c.args.s (pos 0) ≡ false = grind (arith, ints) in
    λ u z. shifted_rounded_up u z c.times_power.result c.args.v c.args.s c.unsigned_abs-k.result f c.ranges.v c.ranges.s c.unsigned_abs-k.ensures.value up
    (c.times_power.ensures u z)
