use Rattle.std.proofs.Common.{sym, ◌∙◌}
use Rattle.hm_beat.proofs.Footprint.{active_is}
use Rattle.hm_kinds.proofs.rows.active.Goals as goal

pub returns-then-is_unpredicated : goal.returns-then-is_unpredicated
returns-then-is_unpredicated c = λ m output. sym (active_is c.args.b c.args.r.now m output c.requires ∙ c.is_unpredicated.ensures.active (cc) c.args.b)
