-- The steps of lines one after another.
use Rattle.std.proofs.Common.{◌≡◌, ℕ, ◌+◌, ◌<◌, List, [], ◌∷◌, ◌++◌, length, take, sym, ap, ◌∙◌, arith}
use Rattle.std.specs.Prelude.{slice_index_or}
use Rattle.std.proofs.lemmas.List.{take_more}
use Rattle.hm_kernel_lang.specs.declared.text.ElementType.{ElementType}
use Rattle.hm_kernel_lang.specs.declared.text.Line.{Line}
use Rattle.hm_kernel_lang.specs.Language.{line_steps, lines_steps}

steps_append : (t : ElementType) (n : ℕ) (ls : List Line) (l : Line) → lines_steps t n (ls ++ (l ∷ [])) ≡ lines_steps t n ls + line_steps t n l.expr
steps_append t n [] l = omega arith
steps_append t n (x ∷ ls) l = omega (arith, steps_append t n ls l)

pub steps_next : (t : ElementType) (n : ℕ) (ls : List Line) (k : ℕ) (l : Line) (a b : ℕ) → k < length ls → l ≡ slice_index_or ls k l
    → a ≡ lines_steps t n (take k ls) + 1 → b ≡ line_steps t n l.expr
    → a + b ≡ lines_steps t n (take (k + 1) ls) + 1
steps_next t n ls k l a b h is e f =
    let more = ap (lines_steps t n) (take_more ls k l h) ∙ steps_append t n (take k ls) (slice_index_or ls k l)
    ∙ ap (λ (x : Line). lines_steps t n (take k ls) + line_steps t n x.expr) (sym is) in
    omega arith
