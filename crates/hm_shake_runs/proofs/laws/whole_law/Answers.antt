use Rattle.hm_shake_runs.proofs.Wholes.{whole_begun, whole_outcome}
use Rattle.hm_shake_runs.proofs.laws.whole_law.Goals as goal

pub returns : goal.returns
returns c = record { outcome = whole_outcome; ticks = whole_begun }
