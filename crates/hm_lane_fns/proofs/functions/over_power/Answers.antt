use Rattle.std.proofs.Common.{rules, ◌^◌, pos, ap, ◌∙◌}
use Rattle.std.specs.Int.{int_div_euclid}
use Rattle.hm_lane_fns.proofs.Shifts.{at_most_63}
use Rattle.hm_lane_fns.proofs.functions.over_power.Goals as goal

pub returns : goal.returns
returns c =
    search rules ∙ ap (λ k. int_div_euclid c.args.v (pos (2 ^ k))) c.min.ensures ∙ at_most_63 c.args.v c.args.k c.requires.low c.requires.high
