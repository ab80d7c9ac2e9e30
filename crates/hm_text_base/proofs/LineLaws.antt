-- Texts as lines.
use Rattle.std.proofs.Common.{◌≡◌, ℕ, ◌+◌, ◌<◌, eqb, List, [], ◌∷◌, ◌++◌, length, refl, ap, ◌∙◌, append_assoc, arith, inl, inr}
use Rattle.std.specs.List.{AllByRecursion, flat_map}
use Rattle.std.proofs.lemmas.Bool.{cases_Bool, eqb-true, ne_eqb}
use Rattle.hm_text_base.specs.Spans.{span, Lacks, line, Lines, onto_line, lines_of}

-- the lines and the rest are the bytes
abbrev pub whole : Lines → List ℕ
whole ls = flat_map line ls.0 ++ ls.1

onto_whole : (b : ℕ) (ls : Lines) → whole (onto_line b ls) ≡ b ∷ whole ls
onto_whole b ([], rest) = refl
onto_whole b (l ∷ ls, rest) = refl

pub lines_whole : (bytes : List ℕ) → whole (lines_of bytes) ≡ bytes
unfolding lines_of
lines_whole [] = refl
lines_whole (b ∷ bs) =
    elim (cases_Bool (eqb b 10)) [
      | inl e ↦ rw (e, eqb-true b 10 e) (ap (λ (x : List ℕ). 10 ∷ x) (lines_whole bs))
      | inr e ↦ rw e (onto_whole b (lines_of bs) ∙ ap (λ (x : List ℕ). b ∷ x) (lines_whole bs))
    ]

pub front_line : (text rest : List ℕ) → Lacks 10 text → lines_of (text ++ 10 ∷ rest) ≡ (text ∷ (lines_of rest).0, (lines_of rest).1)
unfolding lines_of
front_line [] rest lacks = refl
front_line (b ∷ text) rest lacks = rw (ne_eqb b 10 lacks.0, front_line text rest lacks.1) refl

-- lines that are written are the lines that are read
pub lines_again : (ls : List (List ℕ)) → AllByRecursion (Lacks 10) ls → lines_of (flat_map line ls) ≡ (ls, [])
unfolding lines_of
lines_again [] all = refl
lines_again (l ∷ ls) all =
    ap lines_of (append_assoc l (10 ∷ []) (flat_map line ls)) ∙ front_line l (flat_map line ls) all.0 ∙ rw (lines_again ls all.1) refl

-- the lines, by what stands before the first end
abbrev pub lines_from : List ℕ × List ℕ → Lines
lines_from (front, []) = ([], front)
lines_from (front, b ∷ rest) = (front ∷ (lines_of rest).0, (lines_of rest).1)

onto_from : (b : ℕ) (s : List ℕ × List ℕ) → onto_line b (lines_from s) ≡ lines_from (b ∷ s.0, s.1)
onto_from b (front, []) = refl
onto_from b (front, c ∷ rest) = refl

pub lines_span : (text : List ℕ) → lines_of text ≡ lines_from (span 10 text)
unfolding lines_of span
lines_span [] = refl
lines_span (b ∷ bs) =
    elim (cases_Bool (eqb b 10)) [
      | inl e ↦ rw e refl
      | inr e ↦ rw (e, lines_span bs) (onto_from b (span 10 bs))
    ]

onto_some : (b : ℕ) (ls : Lines) → 0 < length (onto_line b ls).0 + length (onto_line b ls).1
onto_some b ([], rest) = omega arith
onto_some b (l ∷ ls, rest) = omega arith

-- bytes that are left hold a line or a rest
pub some_lines : (bytes : List ℕ) → 0 < length bytes → 0 < length (lines_of bytes).0 + length (lines_of bytes).1
unfolding lines_of
some_lines [] some = absurd (omega arith)
some_lines (b ∷ bytes) some =
    elim (cases_Bool (eqb b 10)) [
      | inl e ↦ rw e (omega arith)
      | inr e ↦ rw e (onto_some b (lines_of bytes))
    ]
