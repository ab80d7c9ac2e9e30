use Rattle.std.proofs.Common.{◌≡◌, ◌<◌, ℕ, List, length, sym, ap, subst, ◌∙◌, arith, rules}
use Rattle.std.proofs.lemmas.Bool.{eqb-true}
use Rattle.hm_tokens.specs.Tokens.{tok}
use Rattle.hm_line.specs.Texts.{column}
use Rattle.hm_line.proofs.Fronts.{token_shorter}
use Rattle.hm_line.proofs.Lasts.{last_behind, last_here, no_last}
use Rattle.hm_line.proofs.reading.last_column.Goals as goal

pub returns-in_default : goal.returns-in_default
returns-in_default c = record {
  value =
      λ h last. absurd (no_last c.loop-token.rest.now c.skip-here.result.now c.skip-here.ensures.rest c.in_default.ensures.read h
      (c.loop-token.invariant.last h last));
}

pub returns-then-is_empty : goal.returns-then-is_empty
returns-then-is_empty c =
    let end : length c.skip.result.now ≡ 0 = eqb-true (length c.skip.result.now) 0 (sym c.is_empty.ensures ∙ c.if-is_empty.true) in
    record {
      value =
          λ h last. c.column-then-is_empty.ensures.value
          ∙ ap (column c.args.text.now)
          (last_here c.loop-token.rest.now c.skip-here.result.now c.in-Some.after.now (tok c.in-Some._token) c.skip-here.ensures.rest c.in-Some.ensures.read
          (ap length (sym c.skip.ensures.rest) ∙ end) h (c.loop-token.invariant.last h last));
    }

pub loop-token-smaller : goal.loop-token-smaller
loop-token-smaller c =
    let less = token_shorter c.skip-here.result.now (tok c.in-Some._token, c.in-Some.after.now) c.in-Some.ensures.read in
    omega (arith, less, c.skip-here.ensures.shorter)

pub loop-token-preserved : goal.loop-token-preserved
loop-token-preserved c =
    let less = token_shorter c.skip-here.result.now (tok c.in-Some._token, c.in-Some.after.now) c.in-Some.ensures.read in
    let some : 0 < length c.skip.result.now = search rules in
    record {
      last =
          λ h last. last_behind c.loop-token.rest.now c.skip-here.result.now c.in-Some.after.now (tok c.in-Some._token) c.skip-here.ensures.rest
          c.in-Some.ensures.read
          (subst (λ (x : List ℕ). 0 < length x) c.skip.ensures.rest some) h (c.loop-token.invariant.last h last);
      within = omega (arith, less, c.skip-here.ensures.shorter, c.loop-token.invariant.within);
    }
