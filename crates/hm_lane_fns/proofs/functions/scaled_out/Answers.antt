use Rattle.std.proofs.Common.{arith}
use Rattle.std.proofs.lemmas.Int.{ints}
use Rattle.hm_lane_fns.proofs.Shifts.{far_down, far_up}
use Rattle.hm_lane_fns.proofs.functions.scaled_out.Goals as goal

pub returns-then-v-lt0 : goal.returns-then-v-lt0
returns-then-v-lt0 c = far_down c.args.v (omega (arith, ints))

pub returns-else-v-eq0 : goal.returns-else-v-eq0
returns-else-v-eq0 c = far_up c.args.v (omega (arith, ints))
