use Rattle.std.proofs.Common.{◌≡◌, ℕ, suc, ◌+◌, ◌-◌, List, [], ◌∷◌, length, refl, sym, subst, ◌∙◌, arith}
use Rattle.std.specs.FinMap.{empty, get}
use Rattle.std.proofs.lemmas.Bool.{eqb-true}
use Rattle.std.proofs.lemmas.Result.{err_from_is_err_and}
use Rattle.hm_base.specs.Image.{segment}
use Rattle.hm_source.specs.Lines.{source_lines}
use Rattle.hm_asm.specs.FirstPass.{AreFine}
use Rattle.hm_asm.specs.Making.{place_of}
use Rattle.hm_asm.specs.SecondPass.{AreGiven, IsNextRefused}
use Rattle.hm_asm.proofs.Steps.{First, begun_place, begun_whole, fine_behind, first_of, given_step, next_step, no_lines, second_err}
use Rattle.hm_asm.proofs.second.second_pass.Goals as goal
use Rattle.hm_asm.proofs.second.second_pass.Goals.{After-first_line}

pub loop-rest-init : goal.loop-rest-init
loop-rest-init c =
    let place = begun_place c.new-out.result c.new-out.ensures.nothing in
    record {
      counted = omega arith;
      numbered = omega arith;
      fine = (empty, subst (λ (a : ℕ). AreFine empty a (source_lines c.args.source.now) c.args.labels.now) (sym place) c.requires.fine);
      given = λ ps given. (
        ps,
        subst (λ (a : ℕ). AreGiven (get c.args.labels.now) a (source_lines c.args.source.now) ps) place given,
        begun_whole c.new-out.result ps c.new-out.ensures.nothing,
      );
      refused = λ kind n k r.
          (let count : n ≡ 1 - 1 + n = omega arith in
          subst (λ (i : ℕ). IsNextRefused kind (get c.args.labels.now) 0 (source_lines c.args.source.now) i k) count
          (subst (λ (a : ℕ). IsNextRefused kind (get c.args.labels.now) a (source_lines c.args.source.now) n k) place r));
    }

-- the line that was read, and those behind it
line_of : (c : After-first_line)
    → First c.loop-rest.invariant.fine.0 (place_of c.loop-rest.out) c.first_line.result.0.now (source_lines c.first_line.result.1.now) c.args.labels.now
line_of c =
    first_of c.loop-rest.invariant.fine.0 (place_of c.loop-rest.out) c.first_line.result.0.now (source_lines c.first_line.result.1.now)
    (source_lines c.loop-rest.rest.now) c.args.labels.now c.first_line.ensures.first
    c.loop-rest.invariant.fine.1

pub add_line-requires-clause-fine : goal.add_line-requires-clause-fine
add_line-requires-clause-fine c = let f = line_of (goal.at.add_line-requires-clause-fine c).After-first_line in (c.loop-rest.invariant.fine.0, f.said, f.fine)

pub returns-in_err-add_line-clause-refused : goal.returns-in_err-add_line-clause-refused
returns-in_err-add_line-clause-refused c =
    let f = line_of (goal.at.returns-in_err-add_line-clause-refused c).After-first_line in
    let p = err_from_is_err_and c.from_residual.result c.from_residual.ensures.1 in
    rw (p.1, p.2) (second_err (get c.args.labels.now) (source_lines c.args.source.now) (place_of c.loop-rest.out) c.loop-rest.number
    c.first_line.result.0.now (source_lines c.first_line.result.1.now) (source_lines c.loop-rest.rest.now) f.said c.in_err-add_line.field-0.0
    c.loop-rest.invariant.counted c.first_line.ensures.first f.fine.says c.loop-rest.invariant.refused
    (c.in_err-add_line.ensures.refused f.said f.fine.says))

pub loop-rest-preserved : goal.loop-rest-preserved
loop-rest-preserved c =
    let f = line_of (goal.at.loop-rest-preserved c).After-first_line in
    let m = c.loop-rest.invariant.fine.0 in
    let g = c.in_ok-add_line.ensures.given f.said f.fine.says in
    let line = c.first_line.result.0.now in
    let behind = source_lines c.first_line.result.1.now in
    let lines = source_lines c.loop-rest.rest.now in
    record {
      counted = omega arith;
      numbered = omega (arith, c.first_line.ensures.shorter, c.loop-rest.invariant.numbered);
      fine = fine_behind c.args.labels.now m c.loop-rest.out c.add_line.new.out line behind lines f.said g.0 c.first_line.ensures.first f.fine f.others g.1 g.2;
      given = λ ps given.
          (let s = given_step c.args.labels.now m c.loop-rest.out c.add_line.new.out line behind lines f.said g.0 c.first_line.ensures.first f.fine f.others g.1
          g.2 ps given in
          let whole = c.loop-rest.invariant.given (segment (place_of c.loop-rest.out) g.0 ∷ ps) s.0 in
          (whole.0, whole.1, s.1 ∙ whole.2));
      refused = λ kind n k r.
          (let count : c.loop-rest.number - 1 + suc n ≡ c.loop-rest.number + 1 - 1 + n = omega (arith, c.loop-rest.invariant.counted) in
          subst (λ (i : ℕ). IsNextRefused kind (get c.args.labels.now) 0 (source_lines c.args.source.now) i k) count
          (c.loop-rest.invariant.refused kind (suc n) k
          (next_step c.args.labels.now m c.loop-rest.out c.add_line.new.out line behind lines f.said g.0 c.first_line.ensures.first f.fine f.others g.1 g.2 kind
          n k r)));
    }

pub returns-clause-given : goal.returns-clause-given
returns-clause-given c =
    let none : length c.loop-rest.rest.now ≡ 0 = eqb-true (length c.loop-rest.rest.now) 0 (sym c.is_empty.ensures ∙ c.loop-rest-test.false) in
    let given : AreGiven (get c.args.labels.now) (place_of c.loop-rest.out) (source_lines c.loop-rest.rest.now) []
    = subst (λ (x : List (List ℕ)). AreGiven (get c.args.labels.now) (place_of c.loop-rest.out) x []) (sym (no_lines c.loop-rest.rest.now none)) refl in
    let whole = c.loop-rest.invariant.given [] given in
    (whole.0, whole.1, c.in_ok-image.ensures.image ∙ whole.2)
