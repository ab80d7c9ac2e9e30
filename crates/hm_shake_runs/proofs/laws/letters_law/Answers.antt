use Rattle.hm_shake_runs.proofs.Lawful.{shaken_lawful}
use Rattle.hm_shake_runs.proofs.Letters.{breaks_no_rule, shaken_older}
use Rattle.hm_shake_runs.proofs.laws.letters_law.Goals as goal

pub returns : goal.returns
returns c = record { letters = shaken_older; sched = shaken_lawful; no_rule = λ image listing s t step r. breaks_no_rule listing s image t step r }
