use Rattle.std.proofs.Common.{◌≡◌, rules}
use Rattle.std.specs.Prelude.{codes}
use Rattle.hm_source.specs.Directives.{values}
use Rattle.hm_source.proofs.Asks.{asks_align, asks_org, asks_space, values_found, values_only}
use Rattle.hm_source.proofs.Fronts.{if_none}
use Rattle.hm_source.proofs.directives.asked_of.Goals as goal

pub returns-in-Some-clause-found : goal.returns-in-Some-clause-found
returns-in-Some-clause-found c text f =
    let x = c.in_ok-values.ensures.found in
    let shown = values_found text c.args.name.now c.args.behind.now c.in-Some.size c.in_ok-values.values x.0 x.1 f c.in-Some.ensures.found
    c.in_ok-values.ensures.parts x.2 x.3 in
    (values c.in-Some.size x.0 x.1, shown.0, shown.1)

pub returns-in-Some-clause-only : goal.returns-in-Some-clause-only
returns-in-Some-clause-only c text asked f d =
    values_only text c.args.name.now c.args.behind.now c.in-Some.size c.in_ok-values.values asked f c.in-Some.ensures.found c.in_ok-values.ensures.parts d
    c.in_ok-values.ensures.only

pub returns-in_err-number_alone-clause-only : goal.returns-in_err-number_alone-clause-only
returns-in_err-number_alone-clause-only c text asked f d =
    let e : c.args.name.now ≡ codes ".org" = search rules in
    let a = asks_org text c.args.name.now c.args.behind.now asked f d e in
    absurd (c.in_err-number_alone.ensures.only a.0 a.1 a.2)

pub returns-in_err-number_alone-clause-none : goal.returns-in_err-number_alone-clause-none
returns-in_err-number_alone-clause-none c text f =
    if_none c.from_residual-in_err-number_alone.result _
    (λ asked d.
    let e : c.args.name.now ≡ codes ".org" = search rules in
    let a = asks_org text c.args.name.now c.args.behind.now asked f d e in
    c.in_err-number_alone.ensures.only a.0 a.1 a.2)

pub returns-in_err-multiple_alone-clause-only : goal.returns-in_err-multiple_alone-clause-only
returns-in_err-multiple_alone-clause-only c text asked f d =
    let e : c.args.name.now ≡ codes ".align" = search rules in
    let a = asks_align text c.args.name.now c.args.behind.now asked f d e in
    absurd (c.in_err-multiple_alone.ensures.only a.0 a.1)

pub returns-in_err-multiple_alone-clause-none : goal.returns-in_err-multiple_alone-clause-none
returns-in_err-multiple_alone-clause-none c text f =
    if_none c.from_residual-in_err-multiple_alone.result _
    (λ asked d.
    let e : c.args.name.now ≡ codes ".align" = search rules in
    let a = asks_align text c.args.name.now c.args.behind.now asked f d e in
    c.in_err-multiple_alone.ensures.only a.0 a.1)

pub returns-in_err-number_alone-2-clause-only : goal.returns-in_err-number_alone-2-clause-only
returns-in_err-number_alone-2-clause-only c text asked f d =
    let e : c.args.name.now ≡ codes ".space" = search rules in
    let a = asks_space text c.args.name.now c.args.behind.now asked f d e in
    absurd (c.in_err-number_alone-2.ensures.only a.0 a.1 a.2)

pub returns-in_err-number_alone-2-clause-none : goal.returns-in_err-number_alone-2-clause-none
returns-in_err-number_alone-2-clause-none c text f =
    if_none c.from_residual-in_err-number_alone-2.result _
    (λ asked d.
    let e : c.args.name.now ≡ codes ".space" = search rules in
    let a = asks_space text c.args.name.now c.args.behind.now asked f d e in
    c.in_err-number_alone-2.ensures.only a.0 a.1 a.2)
