use Rattle.std.proofs.Common.{◌<◌, length, sym, ◌∙◌, arith, rules}
use Rattle.std.proofs.lemmas.Bool.{eqb-true}
use Rattle.hm_tokens.specs.Tokens.{tok}
use Rattle.hm_line.proofs.Fronts.{whole_read, too_early, strange_byte, wrong_token, next_token, token_shorter}
use Rattle.hm_line.proofs.reading.follow.Goals as goal

pub returns-then-is_end : goal.returns-then-is_end
returns-then-is_end c = record {
  read = whole_read c.args.form c.args.text.now c.loop-here.rest.now c.skip-here.result.now c.loop-here.state c.skip-here.ensures.rest
      c.loop-here.invariant.read
      (eqb-true (length c.skip-here.result.now) 0 (sym c.is_empty.ensures ∙ c.if-is_empty.true)) (sym c.is_end.ensures ∙ c.if-is_end.true);
}

pub returns-else-is_end : goal.returns-else-is_end
returns-else-is_end c = record {
  read = too_early c.args.form c.args.text.now c.loop-here.rest.now c.skip-here.result.now c.loop-here.state c.column.result c.skip-here.ensures.rest
      c.loop-here.invariant.read
      (eqb-true (length c.skip-here.result.now) 0 (sym c.is_empty.ensures ∙ c.if-is_empty.true)) (sym c.is_end.ensures ∙ c.if-is_end.false)
      c.column.ensures.value;
}

pub returns-in_default : goal.returns-in_default
returns-in_default c =
    let some : 0 < length c.skip-here.result.now = search rules in
    record {
      read = strange_byte c.args.form c.args.text.now c.loop-here.rest.now c.skip-here.result.now c.loop-here.state c.column-in_default.result
          c.skip-here.ensures.rest c.loop-here.invariant.read
          some c.in_default.ensures.read c.column-in_default.ensures.value;
    }

pub returns-in_default-step : goal.returns-in_default-step
returns-in_default-step c =
    let some : 0 < length c.skip-here.result.now = search rules in
    record {
      read = wrong_token c.args.form c.args.text.now c.loop-here.rest.now c.skip-here.result.now c.in-Some.after.now c.loop-here.state (tok c.in-Some.token)
          c.stands_apart.result
          c.column-in_default-step.result c.skip-here.ensures.rest c.loop-here.invariant.read some c.in-Some.ensures.read c.stands_apart.ensures.value
          c.in_default-step.ensures c.column-in_default-step.ensures.value;
    }

pub loop-here-smaller : goal.loop-here-smaller
loop-here-smaller c =
    let less = token_shorter c.skip-here.result.now (tok c.in-Some.token, c.in-Some.after.now) c.in-Some.ensures.read in
    omega (arith, less, c.skip-here.ensures.shorter)

pub loop-here-preserved : goal.loop-here-preserved
loop-here-preserved c =
    let less = token_shorter c.skip-here.result.now (tok c.in-Some.token, c.in-Some.after.now) c.in-Some.ensures.read in
    record {
      read = next_token c.args.form c.args.text.now c.loop-here.rest.now c.skip-here.result.now c.in-Some.after.now c.loop-here.state c.in-Some-step.next
          (tok c.in-Some.token) c.stands_apart.result
          c.skip-here.ensures.rest c.loop-here.invariant.read c.in-Some.ensures.read c.stands_apart.ensures.value c.in-Some-step.ensures;
      within = omega (arith, less, c.skip-here.ensures.shorter, c.loop-here.invariant.within);
    }
