use Rattle.std.proofs.Common.{◌≡◌, ◌≤◌, length, sym, ◌∙◌, rules}
use Rattle.std.proofs.lemmas.Bool.{eqb-true}
use Rattle.hm_source.proofs.SourceLines.{front_le, last_line, next_line}
use Rattle.hm_source.proofs.lines.first_line.Goals as goal

pub returns-then-is_empty-clause-first : goal.returns-then-is_empty-clause-first
returns-then-is_empty-clause-first c =
    let none : length c.span.result.1.now ≡ 0 = eqb-true (length c.span.result.1.now) 0 (sym c.is_empty.ensures ∙ c.if-is_empty.true) in
    last_line c.args.text.now c.span.result.0.now c.span.result.1.now c.span.ensures.parts none c.requires.some

pub returns-then-is_empty-clause-within : goal.returns-then-is_empty-clause-within
returns-then-is_empty-clause-within c = front_le c.args.text.now c.span.result.0.now c.span.result.1.now c.span.ensures.parts

pub returns-else-is_empty-clause-first : goal.returns-else-is_empty-clause-first
returns-else-is_empty-clause-first c =
    let some : 1 ≤ length c.span.result.1.now = search rules in
    next_line c.args.text.now c.span.result.0.now c.span.result.1.now c.span.ensures.parts some

pub returns-else-is_empty-clause-within : goal.returns-else-is_empty-clause-within
returns-else-is_empty-clause-within c = front_le c.args.text.now c.span.result.0.now c.span.result.1.now c.span.ensures.parts
