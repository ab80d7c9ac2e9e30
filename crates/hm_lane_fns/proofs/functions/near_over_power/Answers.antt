use Rattle.std.proofs.Common.{arith, sym}
use Rattle.hm_lane_fns.proofs.Shifts.{near_zero}
use Rattle.hm_lane_fns.proofs.functions.near_over_power.Goals as goal

pub returns-else-k-lt40 : goal.returns-else-k-lt40
returns-else-k-lt40 c = sym (near_zero c.args.v c.args.k c.requires.low c.requires.high (omega arith))
