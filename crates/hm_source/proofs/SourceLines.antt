-- The first line of a source, and the others.
use Rattle.std.proofs.Common.{◌≡◌, ℕ, ◌-◌, ◌<◌, ◌≤◌, List, [], ◌∷◌, ◌++◌, take, drop, length, length-append, refl, sym, ap, ◌∙◌, arith}
use Rattle.std.proofs.lemmas.List.{take_all}
use Rattle.hm_text_base.specs.Spans.{span, Lines, lines_of}
use Rattle.hm_text_base.proofs.LineLaws.{lines_span, lines_from}
use Rattle.hm_text_base.proofs.SpanLaws.{span_parts}
use Rattle.hm_source.specs.Lines.{with_last, source_lines}

-- a line in front of others
onto_others : (l : List ℕ) (ls : Lines) → with_last (l ∷ ls.0, ls.1) ≡ l ∷ with_last ls
onto_others l (ls, []) = refl
onto_others l (ls, b ∷ rest) = refl

-- the last line has no end
pub last_line : (text front rest : List ℕ) → (front, rest) ≡ span 10 text → length rest ≡ 0 → 0 < length text → source_lines text ≡ front ∷ source_lines rest
unfolding lines_of
last_line text [] [] e none some = absurd (omega (arith, some, ap length (ap (λ (p : List ℕ × List ℕ). p.0 ++ p.1) e ∙ span_parts 10 text)))
last_line text (b ∷ front) [] e none some = ap with_last (lines_span text ∙ ap lines_from (sym e))
last_line text front (b ∷ rest) e none some = absurd (omega (arith, none))

-- a line and its end
pub next_line : (text front rest : List ℕ) → (front, rest) ≡ span 10 text → 1 ≤ length rest
    → source_lines text ≡ front ∷ source_lines (take (length rest - 1) (drop 1 rest))
next_line text front [] e some = absurd (omega (arith, some))
next_line text front (b ∷ rest) e some =
    ap with_last (lines_span text ∙ ap lines_from (sym e)) ∙ onto_others front (lines_of rest)
    ∙ ap (λ (x : List ℕ). front ∷ source_lines x) (sym (take_all (length (b ∷ rest) - 1) rest (omega arith)))

pub front_le : (text front rest : List ℕ) → (front, rest) ≡ span 10 text → length front ≤ length text
front_le text front rest e =
    let whole : front ++ rest ≡ text = ap (λ (p : List ℕ × List ℕ). p.0 ++ p.1) e ∙ span_parts 10 text in
    omega (arith, ap length whole, length-append front rest)
