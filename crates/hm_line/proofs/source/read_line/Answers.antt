use Rattle.std.proofs.Common.{◌≡◌, ℕ, List, ap}
use Rattle.hm_line.specs.Sources.{before_comment}
use Rattle.hm_line.proofs.Labelled.{fine_label, no_label, line_refusals}
use Rattle.hm_line.proofs.source.read_line.Goals as goal

pub returns-then-is_label_name-clause-refused : goal.returns-then-is_label_name-clause-refused
returns-then-is_label_name-clause-refused c =
    let cut : c.span.result.0.now ≡ before_comment c.args.line.now = ap (λ (p : List ℕ × List ℕ). p.0) c.span.ensures.parts in
    line_refusals c.args.line.now c.span.result.0.now c.labelled.result cut
    (fine_label c.args.line.now c.span.result.0.now (c.in-Some.name.now, c.in-Some.behind.now) c.is_label_name.result cut c.in-Some.ensures.read
    c.is_label_name.ensures.value c.if-is_label_name.true)
    c.labelled.ensures.refused

pub returns-in-None-clause-refused : goal.returns-in-None-clause-refused
returns-in-None-clause-refused c =
    let cut : c.span.result.0.now ≡ before_comment c.args.line.now = ap (λ (p : List ℕ × List ℕ). p.0) c.span.ensures.parts in
    line_refusals c.args.line.now c.span.result.0.now c.labelled-in-None.result cut (no_label c.args.line.now c.span.result.0.now cut c.in-None.ensures.read)
    c.labelled-in-None.ensures.refused
