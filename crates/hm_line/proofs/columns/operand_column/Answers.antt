use Rattle.std.proofs.Common.{◌≡◌, ℕ, Some, ap, ◌∙◌, arith}
use Rattle.hm_tokens.specs.Tokens.{skip, tok}
use Rattle.hm_line.specs.Texts.{column}
use Rattle.hm_line.proofs.OperandColumns.{before_passed, here_passed, no_more_passed, none_passed, operand_passes, passes_operand, then_passed}
use Rattle.hm_line.proofs.columns.operand_column.Goals as goal

pub loop-left-init : goal.loop-left-init
loop-left-init c = record {
  behind = λ there o. operand_passes c.args.text.now c.in_ok-_first_word.behind.now there c.args.n (tok c.in_ok-_first_word._first_word)
      c.in_ok-_first_word.ensures.read o;
  before = λ there p. passes_operand c.args.text.now c.in_ok-_first_word.behind.now there c.args.n (tok c.in_ok-_first_word._first_word)
      c.in_ok-_first_word.ensures.read p;
  within = omega (arith, c.in_ok-_first_word.ensures.shorter);
}

pub returns-in_err-token-clause-only : goal.returns-in_err-token-clause-only
returns-in_err-token-clause-only c here o =
    absurd (no_more_passed c.loop-left.left c.loop-left.inside c.loop-left.rest.now here c.loop-left-test.true
    c.in_err-token.ensures.read (c.loop-left.invariant.behind here o))

pub loop-left-preserved : goal.loop-left-preserved
loop-left-preserved c =
    let inside = c.is_inside-inside.ensures.value in
    record {
      behind =
          λ there o. rw inside
          (then_passed c.loop-left.left c.left_behind-left.result c.loop-left.inside c.loop-left.rest.now c.in_ok-token.after.now
          there (tok c.in_ok-token.token) c.loop-left-test.true c.left_behind-left.ensures.value
          c.in_ok-token.ensures.read (c.loop-left.invariant.behind there o));
      before =
          λ there p. c.loop-left.invariant.before there
          (before_passed c.loop-left.left c.left_behind-left.result c.loop-left.inside c.loop-left.rest.now
          c.in_ok-token.after.now there (tok c.in_ok-token.token) c.loop-left-test.true c.left_behind-left.ensures.value
          c.in_ok-token.ensures.read (rw inside at p));
      within = omega (arith, c.in_ok-token.ensures.shorter, c.loop-left.invariant.within);
    }

pub returns-clause-found : goal.returns-clause-found
returns-clause-found c =
    let none : c.loop-left.left ≡ 0 = omega arith in
    let here = here_passed c.loop-left.inside c.loop-left.rest.now in (
      c.loop-left.rest.now,
      c.loop-left.invariant.before c.loop-left.rest.now (rw none here),
      c.column.ensures.value
          ∙ ap (column c.args.text.now) c.skip.ensures.rest,
    )

pub returns-clause-only : goal.returns-clause-only
returns-clause-only c there o =
    let none : c.loop-left.left ≡ 0 = omega arith in
    let p = c.loop-left.invariant.behind there o in
    let same = none_passed c.loop-left.inside c.loop-left.rest.now there (rw none at p) in
    ap (λ (x : ℕ). Some x) (c.column.ensures.value ∙ ap (column c.args.text.now) (c.skip.ensures.rest ∙ ap skip same))
