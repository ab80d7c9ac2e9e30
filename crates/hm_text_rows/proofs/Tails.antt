-- The last of some tokens.
use Rattle.std.proofs.Common.{◌≡◌, List, [], ◌∷◌, ◌++◌, length, length-append, refl, ap, arith}
use Rattle.hm_tokens.specs.Tokens.{Tok}

cons_one : (x y : Tok) (xs ys : List Tok) → x ∷ xs ≡ y ∷ ys → (x ≡ y) × (xs ≡ ys)
cons_one x y xs ys e = (cc, cc)

pub last_one : (xs ys : List Tok) (t u : Tok) → xs ++ t ∷ [] ≡ ys ++ u ∷ [] → (xs ≡ ys) × (t ≡ u)
last_one [] [] t u e = (refl, (cons_one t u [] [] e).0)
last_one [] (y ∷ ys) t u e = absurd (let n = ap length e in omega (arith, n, length-append ys (u ∷ [])))
last_one (x ∷ xs) [] t u e = absurd (let n = ap length e in omega (arith, n, length-append xs (t ∷ [])))
last_one (x ∷ xs) (y ∷ ys) t u e =
    let c = cons_one x y (xs ++ t ∷ []) (ys ++ u ∷ []) e in
    let rest = last_one xs ys t u c.1 in
    (ap2_cons c.0 rest.0, rest.1)
  where
    ap2_cons : x ≡ y → xs ≡ ys → x ∷ xs ≡ y ∷ ys
    ap2_cons a b = cc
