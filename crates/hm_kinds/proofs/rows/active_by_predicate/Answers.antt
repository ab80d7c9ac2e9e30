use Rattle.std.proofs.Common.{sym, ◌∙◌}
use Rattle.hm_beat.proofs.Footprint.{active_is}
use Rattle.hm_kinds.proofs.rows.active_by_predicate.Goals as goal

pub returns : goal.returns
returns c = λ m output. c.predicate-p.ensures.words c.args.b c.requires ∙ sym (active_is c.args.b c.args.r.now m output c.requires)
