use Rattle.std.proofs.Common.{sym, ◌∙◌}
use Rattle.hm_listing.proofs.Halves.{narrow_stands, wide_stands}
use Rattle.hm_listing.proofs.lines.second_of.Goals as goal

pub returns-then-width-eq2 : goal.returns-then-width-eq2
returns-then-width-eq2 c = record { code = narrow_stands _ c.args.at c.args.i.now c.requires.stands (sym c.width.ensures ∙ c.if-width-eq2.true) }

pub returns : goal.returns
returns c = record { code = wide_stands _ c.args.at _ c.args.i.now c.requires.stands (λ e. c.if-width-eq2.false (c.width.ensures ∙ e)) c.half_of.ensures.value }
