use Rattle.std.proofs.Common.{sym, ◌∙◌}
use Rattle.hm_kernel_text.proofs.ShapeSteps.{closed_other, closed_none, closed_next, closed_end}
use Rattle.hm_kernel_text.proofs.shape.close_all.Goals as goal

pub returns-then-bracket-ne41 : goal.returns-then-bracket-ne41
returns-then-bracket-ne41 c = record {
  closed = sym c.loop-bracket.invariant ∙ closed_other _ c.args.brackets.now c.loop-bracket.bracket-index c.loop-bracket-test.true c.if-bracket-ne41.true;
}

pub returns-then-not-close_one : goal.returns-then-not-close_one
returns-then-not-close_one c = record {
  closed = sym c.loop-bracket.invariant
      ∙ closed_none _ c.args.brackets.now c.loop-bracket.bracket-index c.loop-bracket-test.true c.if-bracket-ne41.false c.if-not-close_one.ensures.closed;
}

pub loop-bracket-preserved : goal.loop-bracket-preserved
loop-bracket-preserved c = sym
    (closed_next _ _ c.args.brackets.now c.loop-bracket.bracket-index c.loop-bracket-test.true c.if-bracket-ne41.false c.if-not-close_one.ensures.closed)
    ∙ c.loop-bracket.invariant

pub returns : goal.returns
returns c = record { closed = sym c.loop-bracket.invariant ∙ closed_end _ c.args.brackets.now c.loop-bracket.bracket-index c.loop-bracket-test.false }
