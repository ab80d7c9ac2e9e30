use Rattle.std.proofs.Common.{rules, ◌^◌, pos, ◌*ℤ◌, FitsSigned, w64, arith, subst}
use Rattle.std.proofs.lemmas.Int.{to_z-of_z}
use Rattle.hm_lane_fns.specs.LaneFns.{StandsFor}
use Rattle.hm_lane_fns.proofs.Shifts.{passed}
use Rattle.hm_lane_fns.proofs.functions.times_power.Goals as goal

pub returns-else-k-lt32 : goal.returns-else-k-lt32
returns-else-k-lt32 c =
    let f : FitsSigned w64 c.scaled_out.result = search rules in
    λ u z. passed u z c.scaled_out.result (c.args.v *ℤ pos (2 ^ c.args.k)) f
    (subst (λ v. StandsFor u z c.scaled_out.result (v *ℤ pos (2 ^ c.args.k))) (to_z-of_z w64 c.args.v c.ranges.v)
    (c.scaled_out.ensures u z c.args.k (omega arith)))
