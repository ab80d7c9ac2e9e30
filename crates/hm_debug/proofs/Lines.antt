-- The first line of a text, and the lines behind it.
use Rattle.std.proofs.Common.{◌≡◌, ℕ, ◌+◌, ◌-◌, ◌≤◌, ap, arith, refl, sym, ◌∙◌, List, [], ◌∷◌, ◌++◌, append-nil, drop, length, take, true, Option, Some}
use Rattle.std.proofs.Common.{None, is_some, IfSome}
use Rattle.std.proofs.lemmas.List.{take_all}
use Rattle.hm_text_base.proofs.LineLaws.{lines_from, lines_span}
use Rattle.hm_text_base.proofs.SpanLaws.{span_parts}
use Rattle.hm_text_base.specs.Spans.{lines_of, span}
use Rattle.hm_debug.specs.Commands.{Says}
use Rattle.hm_debug.specs.Scripts.{lines_in}
use Rattle.hm_debug.specs.declared.command.Command.{Command}

pub line_unended : (text front rest : List ℕ) → (front, rest) ≡ span 10 text → length rest ≡ 0 → lines_of text ≡ ([], text)
line_unended text front [] e none =
    lines_span text ∙ ap lines_from (sym e) ∙ (λ i. ([], (sym (append-nil front) ∙ ap (λ (p : List ℕ × List ℕ). p.0 ++ p.1) e ∙ span_parts 10 text) i))
line_unended text front (b ∷ rest) e none = absurd (omega arith)

pub line_ended : (text front rest : List ℕ) → (front, rest) ≡ span 10 text → 1 ≤ length rest
    → lines_of text ≡ (front ∷ (lines_of (take (length rest - 1) (drop 1 rest))).0, (lines_of (take (length rest - 1) (drop 1 rest))).1)
line_ended text front [] e some = absurd (omega arith)
line_ended text front (b ∷ rest) e some = rw (lines_span text, ← e, take_all (length (b ∷ rest) - 1) rest (omega arith)) refl

pub count_line : (ls : List (List ℕ)) (l rest : List ℕ) → lines_in (l ∷ ls, rest) ≡ lines_in (ls, rest) + 1
count_line ls l [] = omega arith
count_line ls l (b ∷ bs) = omega arith

pub some_says : (line : List ℕ) (o : Option Command) → is_some o ≡ true → IfSome o (λ c. Says line c) → (c : Command) × Says line c
some_says line (Some c) e says = (c, says)
some_says line None e says = absurd cc
