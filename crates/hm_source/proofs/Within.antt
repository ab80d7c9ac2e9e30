-- The text of a line is no longer than the line.
use Rattle.std.proofs.Common.{◌≡◌, ◌≤◌, ℕ, ◌+◌, List, Option, Some, None, length, refl, sym, ap, ◌∙◌, length-append, arith}
use Rattle.std.specs.Prelude.{option_map}
use Rattle.hm_text_base.specs.Spans.{span}
use Rattle.hm_text_base.proofs.SpanLaws.{span_parts}
use Rattle.hm_text_base.proofs.Steps.{and_then_some, map_some, some_is, test_some}
use Rattle.hm_tokens.specs.declared.marks.Mark.TheVariants as marks
use Rattle.hm_tokens.specs.declared.token.Class.TheVariants as classes
use Rattle.hm_tokens.specs.Tokens.{Tok, word, number, mark, is_the_mark, skip, token_at}
use Rattle.hm_line.specs.Fronts.{behind_mark, mark_with, word_in_front, word_with}
use Rattle.hm_line.specs.Sources.{before_comment, behind_label, label_of}
use Rattle.hm_line.proofs.Fronts.{run_le, token_shorter}
use Rattle.hm_source.specs.Lines.{text_of}

abbrev given : {A : Type 0} → A → Option A
given x = Some x

skip_le : (text : List ℕ) → length (skip text) ≤ length text
skip_le text = run_le classes.Space text

cut_le : (line : List ℕ) → length (before_comment line) ≤ length line
cut_le line =
    let whole : length (before_comment line) + length (span 64 line).1 ≡ length line = sym (length-append (before_comment line) (span 64 line).1)
    ∙ ap length (span_parts 64 line) in
    omega (arith, whole)

word_rest : (t : Tok) (r : List ℕ) (x : List ℕ × List ℕ) → word_with t r ≡ Some x → length r ≡ length x.1
word_rest (word w) r x e = ap (λ (y : List ℕ × List ℕ). length y.1) (some_is (w, r) x e)
word_rest (number n) r x e = absurd cc
word_rest (mark c) r x e = absurd cc

behind_word : (text : List ℕ) (x : List ℕ × List ℕ) → word_in_front text ≡ Some x → length x.1 ≤ length text
behind_word text x e =
    let p = and_then_some (token_at (skip text)) (λ y. word_with y.0 y.1) x e in
    omega (arith, skip_le text, token_shorter (skip text) p.0 p.1, word_rest p.0.0 p.0.1 x p.2)

colon_rest : (t : Tok) (r x : List ℕ) → mark_with marks.Colon t r ≡ Some x → length r ≡ length x
colon_rest t r x e = ap length (some_is r x (test_some (is_the_mark marks.Colon t) (given r) x e).1)

colon_le : (text x : List ℕ) → behind_mark marks.Colon text ≡ Some x → length x ≤ length text
colon_le text x e =
    let p = and_then_some (token_at (skip text)) (λ y. mark_with marks.Colon y.0 y.1) x e in
    omega (arith, skip_le text, token_shorter (skip text) p.0 p.1, colon_rest p.0.0 p.0.1 x p.2)

label_le : (text : List ℕ) (o : Option (List ℕ × List ℕ)) → label_of text ≡ o → length (behind_label text o) ≤ length text
label_le text None e = omega arith
label_le text (Some x) e =
    let p = and_then_some (word_in_front text) (λ y. option_map (λ rest. (y.0, rest)) (behind_mark marks.Colon y.1)) x e in
    let q = map_some (λ (rest : List ℕ). (p.0.0, rest)) (behind_mark marks.Colon p.0.1) x p.2 in
    let same : length q.0 ≡ length x.1 = ap (λ (y : List ℕ × List ℕ). length y.1) q.2 in
    omega (arith, behind_word text p.0 p.1, colon_le p.0.1 q.0 q.1, same)

pub text_le : (line : List ℕ) → length (text_of line) ≤ length line
text_le line =
    let text : List ℕ = before_comment line in
    omega (
      arith,
      cut_le line,
      label_le (before_comment line) (label_of (before_comment line)) refl,
      skip_le (behind_label (before_comment line) (label_of (before_comment line))),
    )
