-- Values read one after another, as a loop does.
use Rattle.std.proofs.Common.{◌≡◌, ℕ, ◌≤◌, cond, leb, Bool, true, false, List, [], ◌∷◌, ◌++◌, Option, Some, None, refl, ap, sym, ◌∙◌}
use Rattle.std.proofs.Common.{append_assoc}
use Rattle.std.specs.Prelude.{option_map}
use Rattle.std.proofs.lemmas.List.{append-nil}
use Rattle.std.proofs.lemmas.Bool.{le-leb}
use Rattle.hm_kernel_text.specs.Words.{number_below}
use Rattle.hm_kernel_text.specs.ReadLine.{values_in}

-- values in front of those that are read
abbrev pub with_front : List ℕ → Option (List ℕ) → Option (List ℕ)
with_front front read = option_map (λ vs. front ++ vs) read

abbrev nothing : Option (List ℕ)
nothing = None

regroup : (front : List ℕ) (v : ℕ) (read : Option (List ℕ)) → with_front front (option_map (λ vs. v ∷ vs) read) ≡ with_front (front ++ v ∷ []) read
regroup front v None = refl
regroup front v (Some vs) = ap (λ (r : List ℕ). let o : Option (List ℕ) = Some r in o) (sym (append_assoc front (v ∷ []) vs))

pub value_more : (limit v : ℕ) (front : List ℕ) (words : List (List ℕ)) (w : List ℕ) (ws : List (List ℕ)) (text : Option (List ℕ)) → words ≡ w ∷ ws
    → Some v ≡ number_below limit w → with_front front (values_in limit words) ≡ text
    → with_front (front ++ v ∷ []) (values_in limit ws) ≡ text
unfolding values_in
value_more limit v front words w ws text is one so_far =
    sym (ap (λ (u : List (List ℕ)). with_front front (values_in limit u)) is ∙ rw (← one) (regroup front v (values_in limit ws))) ∙ so_far

either : (b : Bool) → nothing ≡ cond b nothing nothing
either true = refl
either false = refl

pub value_none : (limit : ℕ) (front : List ℕ) (words : List (List ℕ)) (w : List ℕ) (ws : List (List ℕ)) (text : Option (List ℕ)) (most : ℕ) (n : ℕ)
    → words ≡ w ∷ ws → None ≡ number_below limit w → with_front front (values_in limit words) ≡ text
    → None ≡ cond (leb n most) text None
unfolding values_in
value_none limit front words w ws text most n is none so_far =
    let gone : text ≡ None = sym so_far ∙ ap (λ (u : List (List ℕ)). with_front front (values_in limit u)) is ∙ rw (← none) refl in
    rw gone (either (leb n most))

pub value_end : (limit : ℕ) (front : List ℕ) (words : List (List ℕ)) (text : Option (List ℕ)) (most n : ℕ) → words ≡ [] → n ≤ most
    → with_front front (values_in limit words) ≡ text → Some front ≡ cond (leb n most) text None
unfolding values_in
value_end limit front words text most n is le so_far =
    rw (le-leb n most le) (ap (λ (r : List ℕ). let o : Option (List ℕ) = Some r in o) (sym (append-nil front))
    ∙ sym (ap (λ (u : List (List ℕ)). with_front front (values_in limit u)) is) ∙ so_far)
