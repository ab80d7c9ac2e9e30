use Rattle.std.proofs.Common.{◌≡◌, ◌∷◌, [], length, sym, ap, subst, ◌∙◌, arith}
use Rattle.std.proofs.lemmas.Bool.{eqb-false, eqb-true, false≢true}
use Rattle.std.proofs.lemmas.List.{nil_from_length}
use Rattle.hm_tokens.specs.Tokens.{skip}
use Rattle.hm_source.specs.Directives.{Datum, Fits}
use Rattle.hm_source.specs.Shown.{datum}
use Rattle.hm_source.proofs.Fronts.{if_none, not_empty}
use Rattle.hm_source.proofs.Listed.{listed_alone, listed_behind, listed_first, listed_last, listed_more, not_listed}
use Rattle.hm_source.proofs.values.count_values.Goals as goal

pub returns-in_err-item-clause-only : goal.returns-in_err-item-clause-only
returns-in_err-item-clause-only c d ds l =
    let x = c.loop-item.invariant.left d ds l in
    let f = listed_first c.args.size c.loop-item.rest.now x.0 x.1 x.2 in
    absurd (c.in_err-item.ensures.only x.0 f.mid f.front f.ends)

pub returns-in_err-item-clause-none : goal.returns-in_err-item-clause-none
returns-in_err-item-clause-none c =
    if_none c.from_residual.result _
    (λ d ds l.
    let x = c.loop-item.invariant.left d ds l in
    let f = listed_first c.args.size c.loop-item.rest.now x.0 x.1 x.2 in
    c.in_err-item.ensures.only x.0 f.mid f.front f.ends)

pub returns-then-not-fits-clause-only : goal.returns-then-not-fits-clause-only
returns-then-not-fits-clause-only c d ds l =
    let x = c.loop-item.invariant.left d ds l in
    let f = listed_first c.args.size c.loop-item.rest.now x.0 x.1 x.2 in
    let same : datum c.in_ok-item.item ≡ x.0 = (c.in_ok-item.ensures.only x.0 f.mid f.front f.ends).0 in
    false≢true (sym c.if-not-fits.true ∙ c.fits.ensures.value.1 (subst (λ (e : Datum). Fits c.args.size e) (sym same) f.fits))

pub returns-then-not-fits-clause-none : goal.returns-then-not-fits-clause-none
returns-then-not-fits-clause-none c d ds l =
    let x = c.loop-item.invariant.left d ds l in
    let f = listed_first c.args.size c.loop-item.rest.now x.0 x.1 x.2 in
    let same : datum c.in_ok-item.item ≡ x.0 = (c.in_ok-item.ensures.only x.0 f.mid f.front f.ends).0 in
    false≢true (sym c.if-not-fits.true ∙ c.fits.ensures.value.1 (subst (λ (e : Datum). Fits c.args.size e) (sym same) f.fits))

pub returns-then-is_empty-clause-found : goal.returns-then-is_empty-clause-found
returns-then-is_empty-clause-found c =
    let fits : Fits c.args.size (datum c.in_ok-item.item) = c.fits.ensures.value.0 c.if-not-fits.false in
    let empty : skip c.in_ok-item.behind.now ≡ [] = sym c.skip.ensures.rest
    ∙ nil_from_length c.skip.result.now (eqb-true (length c.skip.result.now) 0 (sym c.is_empty.ensures ∙ c.if-is_empty.true)) in
    let w = c.loop-item.invariant.whole (datum c.in_ok-item.item) []
    (listed_last c.args.size c.loop-item.rest.now c.in_ok-item.behind.now (datum c.in_ok-item.item) c.in_ok-item.ensures.found empty fits) in
    (w.0, w.1, w.2, sym w.3)

pub returns-then-is_empty-clause-only : goal.returns-then-is_empty-clause-only
returns-then-is_empty-clause-only c d ds l =
    let empty : skip c.in_ok-item.behind.now ≡ [] = sym c.skip.ensures.rest
    ∙ nil_from_length c.skip.result.now (eqb-true (length c.skip.result.now) 0 (sym c.is_empty.ensures ∙ c.if-is_empty.true)) in
    let x = c.loop-item.invariant.left d ds l in
    let alone : length x.1 ≡ 0 = ap length
    (listed_alone c.args.size c.loop-item.rest.now c.in_ok-item.behind.now x.0 x.1 (λ e r f h. (c.in_ok-item.ensures.only e r f h).1) empty x.2) in
    omega (arith, x.3, alone)

pub returns-in_err-rest-clause-only : goal.returns-in_err-rest-clause-only
returns-in_err-rest-clause-only c d ds l =
    let x = c.loop-item.invariant.left d ds l in
    absurd (not_listed c.args.size c.loop-item.rest.now c.in_ok-item.behind.now x.0 x.1 (λ e r f h. (c.in_ok-item.ensures.only e r f h).1)
    (not_empty c.skip.result.now c.in_ok-item.behind.now (eqb-false (length c.skip.result.now) 0 (sym c.is_empty.ensures ∙ c.if-is_empty.false))
    c.skip.ensures.rest) c.in_err-rest.ensures.only x.2)

pub returns-in_err-rest-clause-none : goal.returns-in_err-rest-clause-none
returns-in_err-rest-clause-none c =
    if_none c.from_residual-in_err-rest.result _
    (λ d ds l.
    let x = c.loop-item.invariant.left d ds l in
    not_listed c.args.size c.loop-item.rest.now c.in_ok-item.behind.now x.0 x.1 (λ e r f h. (c.in_ok-item.ensures.only e r f h).1)
    (not_empty c.skip.result.now c.in_ok-item.behind.now (eqb-false (length c.skip.result.now) 0 (sym c.is_empty.ensures ∙ c.if-is_empty.false))
    c.skip.ensures.rest) c.in_err-rest.ensures.only x.2)

pub loop-item-preserved : goal.loop-item-preserved
loop-item-preserved c =
    let fits : Fits c.args.size (datum c.in_ok-item.item) = c.fits.ensures.value.0 c.if-not-fits.false in
    record {
      whole =
          λ d ds l.
          let w = c.loop-item.invariant.whole (datum c.in_ok-item.item) (d ∷ ds)
          (listed_more c.args.size c.loop-item.rest.now c.in_ok-item.behind.now c.in_ok-rest.rest.now (datum c.in_ok-item.item) d ds
          c.in_ok-item.ensures.found c.in_ok-rest.ensures.found fits l) in
          (w.0, w.1, w.2, omega (arith, w.3));
      left =
          λ d ds l.
          let x = c.loop-item.invariant.left d ds l in
          let o = listed_behind c.args.size c.loop-item.rest.now c.in_ok-item.behind.now c.in_ok-rest.rest.now x.0 x.1
          (λ e r f h. (c.in_ok-item.ensures.only e r f h).1) c.in_ok-rest.ensures.found x.2 in
          let more : length x.1 ≡ length (o.e ∷ o.es) = ap length o.are in
          (o.e, o.es, o.listed, omega (arith, x.3, more));
      counted = omega (arith, c.loop-item.invariant.counted, c.in_ok-item.ensures.shorter, c.in_ok-rest.ensures.shorter);
    }
