-- The activations, the newest first.
use Rattle.std.proofs.Common.{◌≡◌, ◌+◌, ◌-◌, ◌<◌, List, [], ◌∷◌, ◌++◌, length, take, get_or, arith, sym, ◌∙◌, ap}
use Rattle.std.specs.Prelude.{reverse}
use Rattle.std.proofs.lemmas.List.{reverse-append, take_more, take_all, get_or_default}

module _ {A : Type 0} (xs : List A) (some : 0 < length xs) where
  pub last_first : (v : A) → v ≡ get_or xs (length xs - 1) v → reverse xs ≡ v ∷ reverse (take (length xs - 1) xs)
  last_first v e =
      let n : length xs - 1 + 1 ≡ length xs = omega arith in
      let whole : take (length xs - 1 + 1) xs ≡ xs = take_all (length xs - 1 + 1) xs (omega arith) in
      let split : take (length xs - 1 + 1) xs ≡ take (length xs - 1) xs ++ get_or xs (length xs - 1) v ∷ [] = take_more xs (length xs - 1) v (omega arith) in
      ap reverse (sym whole ∙ split) ∙ reverse-append (take (length xs - 1) xs) (get_or xs (length xs - 1) v ∷ [])
      ∙ ap (λ (u : A). u ∷ reverse (take (length xs - 1) xs)) (sym e)

  pub dropped : (ys : List A) (x : A) (rest : List A) → ys ≡ take (length xs - 1) xs → reverse xs ≡ x ∷ rest → reverse ys ≡ rest
  dropped ys x rest e h =
      let l : get_or xs (length xs - 1) x ≡ get_or xs (length xs - 1) (get_or xs (length xs - 1) x) =
      get_or_default xs (length xs - 1) x (get_or xs (length xs - 1) x) (omega arith) in
      let f = last_first (get_or xs (length xs - 1) x) l in
      let g : reverse (take (length xs - 1) xs) ≡ rest = cc in
      ap reverse e ∙ g
