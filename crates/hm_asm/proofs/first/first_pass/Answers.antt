use Rattle.std.proofs.Common.{◌≡◌, ℕ, suc, ◌+◌, ◌-◌, List, length, refl, sym, subst, ◌∙◌, arith}
use Rattle.std.specs.FinMap.{empty}
use Rattle.std.proofs.lemmas.Bool.{eqb-true}
use Rattle.std.proofs.lemmas.Result.{err_from_is_err_and}
use Rattle.hm_source.specs.Lines.{source_lines}
use Rattle.hm_asm.specs.FirstPass.{AreFine, IsFirstRefused}
use Rattle.hm_asm.proofs.Steps.{fine_step, first_err, no_lines, refused_step}
use Rattle.hm_asm.proofs.first.first_pass.Goals as goal

pub returns-in_err-at-clause-refused : goal.returns-in_err-at-clause-refused
returns-in_err-at-clause-refused c =
    let p = err_from_is_err_and c.from_residual.result c.from_residual.ensures.1 in
    rw (p.1, p.2) (first_err c.args.source.now c.loop-rest.labels c.loop-rest.at c.loop-rest.number c.first_line.result.0.now
    (source_lines c.first_line.result.1.now) (source_lines c.loop-rest.rest.now) c.in_err-at.field-0.0 c.loop-rest.invariant.counted
    c.first_line.ensures.first c.loop-rest.invariant.refused c.in_err-at.ensures.refused)

pub loop-rest-preserved : goal.loop-rest-preserved
loop-rest-preserved c = record {
  counted = omega arith;
  numbered = omega (arith, c.first_line.ensures.shorter);
  fine = λ all more.
      c.loop-rest.invariant.fine all
      (fine_step c.loop-rest.labels c.take_line.new.labels c.loop-rest.at c.in_ok-at.at c.first_line.result.0.now (source_lines c.first_line.result.1.now)
      (source_lines c.loop-rest.rest.now) c.in_ok-at.ensures.fine.0 all
      c.first_line.ensures.first c.in_ok-at.ensures.fine.1 c.in_ok-at.ensures.fine.2 (c.in_ok-at.ensures.named refl) more);
  refused = λ kind n k more.
      (let count : c.loop-rest.number - 1 + suc n ≡ c.loop-rest.number + 1 - 1 + n = omega (arith, c.loop-rest.invariant.counted) in
      subst (λ (i : ℕ). IsFirstRefused kind empty 0 (source_lines c.args.source.now) i k) count
      (c.loop-rest.invariant.refused kind (suc n) k
      (refused_step kind c.loop-rest.labels c.take_line.new.labels c.loop-rest.at c.in_ok-at.at c.first_line.result.0.now
      (source_lines c.first_line.result.1.now) (source_lines c.loop-rest.rest.now) c.in_ok-at.ensures.fine.0 n k
      c.first_line.ensures.first c.in_ok-at.ensures.fine.1 c.in_ok-at.ensures.fine.2 (c.in_ok-at.ensures.named refl) more)));
}

pub returns-clause-fine : goal.returns-clause-fine
returns-clause-fine c =
    let none : length c.loop-rest.rest.now ≡ 0 = eqb-true (length c.loop-rest.rest.now) 0 (sym c.is_empty.ensures ∙ c.loop-rest-test.false) in
    c.loop-rest.invariant.fine c.loop-rest.labels
    (subst (λ (x : List (List ℕ)). AreFine c.loop-rest.labels c.loop-rest.at x c.loop-rest.labels) (sym (no_lines c.loop-rest.rest.now none)) refl)
