-- The contents of files that were read.
use Rattle.std.proofs.Common.{◌≡◌, ℕ, ◌+◌, ◌<◌, ◌≤◌, arith, ◌∷◌, List, [], map, get_or, length, Vec, Global, sym, ap, ◌∙◌}
use Rattle.std.proofs.lemmas.List.{get_or-map}

-- those of file k are the bytes of vector k
pub content_is : (contents : List (Vec ℕ Global)) (k : ℕ) (v : Vec ℕ Global) (bytes : List ℕ) → k < length contents → get_or contents k v ≡ v → bytes ≡ v.items
    → get_or (map (λ (v : Vec ℕ Global). v.items) contents) k [] ≡ bytes
content_is contents k v bytes some is same = get_or-map (λ (v : Vec ℕ Global). v.items) contents k v [] some ∙ ap (λ (v : Vec ℕ Global). v.items) is ∙ sym same

-- there is a first file
pub one_more : (n : ℕ) (name : List ℕ) (names : List (List ℕ)) → n ≡ length (name ∷ names) → 0 < n
one_more n name names is = omega arith

pub at_least_one : (n m : ℕ) → 1 + m ≤ n → 0 < n
at_least_one n m few = omega arith
