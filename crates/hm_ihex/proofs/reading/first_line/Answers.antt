use Rattle.std.proofs.Common.{◌-◌, ◌∷◌, List, ℕ, length, drop, take, sym, ap, ◌∙◌, rules}
use Rattle.hm_text_base.specs.Spans.{lines_of}
use Rattle.hm_ihex.specs.Files.{all_lines}
use Rattle.hm_ihex.proofs.Lines.{line_ended, line_unended}
use Rattle.hm_ihex.proofs.reading.first_line.Goals as goal

pub returns-then-is_empty-clause-lines : goal.returns-then-is_empty-clause-lines
returns-then-is_empty-clause-lines c = line_unended c.args.text.now c.span.result.0.now c.span.result.1.now c.requires.some c.span.ensures.parts (search rules)

pub returns-clause-lines : goal.returns-clause-lines
returns-clause-lines c =
    line_ended c.args.text.now c.span.result.0.now c.span.result.1.now c.span.ensures.parts (search rules)
    ∙ ap (λ (l : List ℕ). l ∷ all_lines (lines_of (take (length c.span.result.1.now - 1) (drop 1 c.span.result.1.now)))) (sym c.without_return.ensures.value)
