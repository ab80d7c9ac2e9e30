-- The first line of a text, and the lines behind it.
use Rattle.std.proofs.Common.{◌≡◌, ℕ, ◌+◌, ◌-◌, ◌<◌, ◌≤◌, List, [], ◌∷◌, ◌++◌, append-nil, drop, length, take, Ok, Err, refl, sym, ap, ◌∙◌, arith}
use Rattle.std.proofs.lemmas.List.{nil_from_length, take_all}
use Rattle.hm_base.specs.declared.errors.ImageErr.TheVariants as refusals
use Rattle.hm_text_base.proofs.LineLaws.{lines_from, lines_span, some_lines}
use Rattle.hm_text_base.proofs.SpanLaws.{span_parts}
use Rattle.hm_text_base.specs.Spans.{Lines, lines_of, span}
use Rattle.hm_ihex.specs.Cells.{Cells, image_of}
use Rattle.hm_ihex.specs.Files.{all_lines, ended_by, without_return}

-- no lines in no text
pub no_lines : all_lines (lines_of []) ≡ []
unfolding lines_of
no_lines = refl

pub one_line : (text : List ℕ) → 0 < length text → all_lines ([], text) ≡ text ∷ []
one_line [] some = absurd (omega arith)
one_line (b ∷ bs) some = refl

pub more_lines : (l : List ℕ) (ls : Lines) → all_lines (l ∷ ls.0, ls.1) ≡ without_return l ∷ all_lines ls
more_lines l (ended, []) = refl
more_lines l (ended, c ∷ cs) = refl

-- a line without an end is the last
pub line_unended : (text front rest : List ℕ) → 0 < length text → (front, rest) ≡ span 10 text → length rest ≡ 0
    → all_lines (lines_of text) ≡ front ∷ all_lines (lines_of rest)
line_unended text front [] some e none =
    let same : front ≡ text = sym (append-nil front) ∙ ap (λ (p : List ℕ × List ℕ). p.0 ++ p.1) e ∙ span_parts 10 text in
    ap all_lines (lines_span text ∙ ap lines_from (sym e) ∙ ap (λ (l : List ℕ). ([], l)) same) ∙ one_line text some ∙ ap (λ (l : List ℕ). l ∷ []) (sym same)
    ∙ ap (λ (ls : List (List ℕ)). front ∷ ls) (sym no_lines)
line_unended text front (b ∷ rest) some e none = absurd (omega arith)

pub line_ended : (text front rest : List ℕ) → (front, rest) ≡ span 10 text → 1 ≤ length rest
    → all_lines (lines_of text) ≡ without_return front ∷ all_lines (lines_of (take (length rest - 1) (drop 1 rest)))
line_ended text front [] e some = absurd (omega arith)
line_ended text front (b ∷ rest) e some =
    let same : take (length (b ∷ rest) - 1) rest ≡ rest = take_all (length (b ∷ rest) - 1) rest (omega arith) in
    ap all_lines (lines_span text ∙ ap lines_from (sym e)) ∙ more_lines front (lines_of rest)
    ∙ ap (λ (r : List ℕ). without_return front ∷ all_lines (lines_of r)) (sym same)

-- behind the end record
followed : (k : ℕ) (cells : Cells) (ls : Lines) → 0 < length ls.0 + length ls.1 → ended_by k cells (all_lines ls) ≡ Err (refusals.Hex (k + 1))
followed k cells ([], []) some = absurd (omega arith)
followed k cells ([], c ∷ cs) some = refl
followed k cells (l ∷ ls, []) some = refl
followed k cells (l ∷ ls, c ∷ cs) some = refl

pub line_follows : (k : ℕ) (cells : Cells) (text : List ℕ) → 0 < length text → ended_by k cells (all_lines (lines_of text)) ≡ Err (refusals.Hex (k + 1))
line_follows k cells text some = followed k cells (lines_of text) (some_lines text some)

pub nothing_follows : (k : ℕ) (cells : Cells) (text : List ℕ) → length text ≡ 0 → ended_by k cells (all_lines (lines_of text)) ≡ Ok (image_of cells)
nothing_follows k cells text none = ap (λ (t : List ℕ). ended_by k cells (all_lines (lines_of t))) (nil_from_length text none) ∙ ap (ended_by k cells) no_lines
