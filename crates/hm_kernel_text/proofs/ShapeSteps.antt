-- What is open, as the code holds it: the innermost at the end.
use Rattle.std.proofs.Common.{◌≡◌, ℕ, ◌+◌, ◌<◌, ◌≤◌, ◌≢◌, cond, eqb, List, [], ◌∷◌, length, get_or, drop, Option, Some}
use Rattle.std.proofs.Common.{None, refl, sym, ap, subst, ◌∙◌, arith}
use Rattle.std.specs.Prelude.{option_and_then, option_map}
use Rattle.std.proofs.lemmas.List.{drop_more, drop_all}
use Rattle.std.proofs.lemmas.Bool.{ne_eqb, eq-eqb}
use Rattle.hm_kernel_text.specs.Words.{words_behind}
use Rattle.hm_kernel_text.specs.Trees.{leaves}
use Rattle.hm_kernel_text.specs.ReadTree.{tree_in}
use Rattle.hm_kernel_text.proofs.WordSteps.{words_cut}
use Rattle.hm_kernel_text.proofs.TreeLaws.{leaves_are}
use Rattle.hm_kernel_text.specs.declared.shape.Side.{Side}
use Rattle.hm_kernel_text.specs.Shapes.{close_side, closed_sides, leaves_after, leaves_from, operations_behind, shape_in}

closed_more : (ss : List Side) (brackets : List ℕ) (i : ℕ) → i < length brackets
    → closed_sides ss (drop i brackets)
    ≡ cond (eqb (get_or brackets i 0) 41) (option_and_then (λ more. closed_sides more (drop (i + 1) brackets)) (close_side ss)) None
unfolding closed_sides
closed_more ss brackets i lt = rw (drop_more brackets i 0 lt) refl

-- a byte that is no bracket
pub closed_other : (ss : List Side) (brackets : List ℕ) (i : ℕ) → i < length brackets → get_or brackets i 0 ≢ 41
    → closed_sides ss (drop i brackets) ≡ None
closed_other ss brackets i lt other = closed_more ss brackets i lt ∙ rw (ne_eqb _ _ other) refl

-- a bracket that closes nothing
pub closed_none : (ss : List Side) (brackets : List ℕ) (i : ℕ) → i < length brackets → get_or brackets i 0 ≡ 41 → close_side ss ≡ None
    → closed_sides ss (drop i brackets) ≡ None
closed_none ss brackets i lt is none = closed_more ss brackets i lt ∙ rw (eq-eqb _ _ is, none) refl

-- a bracket that closes one
pub closed_next : (ss more : List Side) (brackets : List ℕ) (i : ℕ) → i < length brackets → get_or brackets i 0 ≡ 41 → close_side ss ≡ Some more
    → closed_sides ss (drop i brackets) ≡ closed_sides more (drop (i + 1) brackets)
closed_next ss more brackets i lt is one = closed_more ss brackets i lt ∙ rw (eq-eqb _ _ is, one) refl

pub closed_end : (ss : List Side) (brackets : List ℕ) (i : ℕ) → length brackets ≤ i → closed_sides ss (drop i brackets) ≡ Some ss
unfolding closed_sides
closed_end ss brackets i le = rw (drop_all i brackets le) refl

-- the first words of what is left
pub leaves_more : (ss : List Side) (n : ℕ) (words : List (List ℕ)) (w : List ℕ) (ws : List (List ℕ)) → words ≡ w ∷ ws
    → leaves_from ss n words ≡ leaves_after (shape_in ss w) (operations_behind n w) ws (λ more. leaves_from more (operations_behind n w) ws)
unfolding leaves_from
leaves_more ss n words w ws is = ap (leaves_from ss n) is

pub no_words : (rest : List ℕ) → length rest ≡ 0 → words_behind rest ≡ []
no_words [] none = refl
no_words (b ∷ rest) none = absurd (omega arith)

abbrev pub HasWords : List (List ℕ) → Type 0
HasWords [] = ⊥
HasWords (w ∷ ws) = Unit {0}

pub some_words : (rest : List ℕ) → 0 < length rest → HasWords (words_behind rest)
some_words [] some = absurd (omega arith)
some_words (b ∷ rest) some = subst HasWords (sym (words_cut rest)) tt

-- words that no expression begins with, as the code finds them
pub wrong_word : (ss : List Side) (n : ℕ) (text words : List (List ℕ)) (w : List ℕ) (ws : List (List ℕ)) → words ≡ w ∷ ws → shape_in ss w ≡ None
    → leaves_from ss n words ≡ leaves_from [] 0 text
    → None ≡ option_map leaves (tree_in text)
wrong_word ss n text words w ws is none so_far = sym (leaves_more ss n words w ws is ∙ rw none refl) ∙ so_far ∙ leaves_are text

-- the last word
pub last_word : (ss : List Side) (n : ℕ) (text words : List (List ℕ)) (w : List ℕ) (ws : List (List ℕ)) → words ≡ w ∷ ws
    → shape_in ss w ≡ Some None → ws ≡ [] → leaves_from ss n words ≡ leaves_from [] 0 text
    → Some (operations_behind n w + 1) ≡ option_map leaves (tree_in text)
last_word ss n text words w ws is ends none so_far = sym (leaves_more ss n words w ws is ∙ rw (ends, none) refl) ∙ so_far ∙ leaves_are text

too_many : (n : ℕ) (ws : List (List ℕ)) (more : List Side → Option ℕ) → HasWords ws → leaves_after (Some None) n ws more ≡ None
too_many n [] more some = absurd some
too_many n (w ∷ ws) more some = refl

-- a word behind the last
pub words_left : (ss : List Side) (n : ℕ) (text words : List (List ℕ)) (w : List ℕ) (ws : List (List ℕ)) → words ≡ w ∷ ws
    → shape_in ss w ≡ Some None → HasWords ws → leaves_from ss n words ≡ leaves_from [] 0 text
    → None ≡ option_map leaves (tree_in text)
words_left ss n text words w ws is ends some so_far =
    sym (leaves_more ss n words w ws is ∙ rw ends (too_many (operations_behind n w) ws (λ more. leaves_from more (operations_behind n w) ws) some)) ∙ so_far
    ∙ leaves_are text

-- a word inside
pub word_inside : (ss more : List Side) (n : ℕ) (text words : List (List ℕ)) (w : List ℕ) (ws : List (List ℕ)) → words ≡ w ∷ ws
    → shape_in ss w ≡ Some (Some more) → leaves_from ss n words ≡ leaves_from [] 0 text
    → leaves_from more (operations_behind n w) ws ≡ leaves_from [] 0 text
word_inside ss more n text words w ws is inside so_far = sym (leaves_more ss n words w ws is ∙ rw inside refl) ∙ so_far

-- no word at all
pub words_end : (ss : List Side) (n : ℕ) (text words : List (List ℕ)) → words ≡ [] → leaves_from ss n words ≡ leaves_from [] 0 text
    → None ≡ option_map leaves (tree_in text)
unfolding leaves_from
words_end ss n text words is so_far = sym (ap (leaves_from ss n) is) ∙ so_far ∙ leaves_are text
