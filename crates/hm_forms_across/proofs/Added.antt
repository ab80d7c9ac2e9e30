-- The terms of a word, one after another.
use Rattle.std.proofs.Common.{◌≡◌, ℕ, ◌+◌, ◌%◌, ◌^◌, Bool, true, false, get_or, length, cond, List, [], ◌∷◌, refl, ap, ◌∙◌, arith}
use Rattle.hm_forms_across.specs.Forms.{added}

module _ (m : ℕ) (f : ℕ → ℕ → ℕ) where
  abbrev plus : Bool → ℕ → ℕ → ℕ
  plus p sum term = cond p ((sum + term) % m) sum

  four_active : (a : List Bool) → length a ≡ 4 → (w x y z w' x' y' z' sum : ℕ)
      → plus (get_or a 3 false) (plus (get_or a 2 false) (plus (get_or a 1 false) (plus (get_or a 0 false) sum (f w w')) (f x x')) (f y y')) (f z z')
      ≡ added m f a (w ∷ x ∷ y ∷ z ∷ []) (w' ∷ x' ∷ y' ∷ z' ∷ []) sum
  four_active (p ∷ q ∷ r ∷ s ∷ []) e w x y z w' x' y' z' sum = refl
  four_active [] e w x y z w' x' y' z' sum = cc
  four_active (p ∷ []) e w x y z w' x' y' z' sum = cc
  four_active (p ∷ q ∷ []) e w x y z w' x' y' z' sum = cc
  four_active (p ∷ q ∷ r ∷ []) e w x y z w' x' y' z' sum = cc
  four_active (p ∷ q ∷ r ∷ s ∷ t ∷ l) e w x y z w' x' y' z' sum = absurd (omega arith)

  -- four terms of the lanes of two words are added one after another
  pub four_added : (a : List Bool) (u v : ℕ → ℕ) (t0 t1 t2 t3 sum s0 s1 s2 s3 : ℕ) → length a ≡ 4 → t0 ≡ f (u 0) (v 0) → t1 ≡ f (u 1) (v 1) → t2 ≡ f (u 2) (v 2)
      → t3 ≡ f (u 3) (v 3)
      → s0 ≡ plus (get_or a 0 false) sum t0 → s1 ≡ plus (get_or a 1 false) s0 t1 → s2 ≡ plus (get_or a 2 false) s1 t2 → s3 ≡ plus (get_or a 3 false) s2 t3
      → s3 ≡ added m f a (u 0 ∷ u 1 ∷ u 2 ∷ u 3 ∷ []) (v 0 ∷ v 1 ∷ v 2 ∷ v 3 ∷ []) sum
  four_added a u v t0 t1 t2 t3 sum s0 s1 s2 s3 four e0 e1 e2 e3 h0 h1 h2 h3 =
      h3 ∙ (λ j. plus (get_or a 3 false) (h2 j) (e3 j)) ∙ (λ j. plus (get_or a 3 false) (plus (get_or a 2 false) (h1 j) (e2 j)) (f (u 3) (v 3)))
      ∙ (λ j. plus (get_or a 3 false) (plus (get_or a 2 false) (plus (get_or a 1 false) (h0 j) (e1 j)) (f (u 2) (v 2))) (f (u 3) (v 3)))
      ∙ (λ j. plus (get_or a 3 false) (plus (get_or a 2 false) (plus (get_or a 1 false) (plus (get_or a 0 false) sum (e0 j)) (f (u 1) (v 1))) (f (u 2) (v 2)))
      (f (u 3) (v 3)))
      ∙ four_active a four (u 0) (u 1) (u 2) (u 3) (v 0) (v 1) (v 2) (v 3) sum

-- the low word of a sum of 64 bits is the sum of 32 bits that begins with its low word
pub added_low : (f : ℕ → ℕ → ℕ) (ps : List Bool) (xs ys : List ℕ) (sum : ℕ) → added (2 ^ 64) f ps xs ys sum % 2 ^ 32 ≡ added (2 ^ 32) f ps xs ys (sum % 2 ^ 32)
added_low f (p ∷ ps) (x ∷ xs) (y ∷ ys) sum = added_low f ps xs ys (cond p ((sum + f x y) % 2 ^ 64) sum) ∙ ap (added (2 ^ 32) f ps xs ys) (one p)
  where
    one : (p : Bool) → cond p ((sum + f x y) % 2 ^ 64) sum % 2 ^ 32 ≡ cond p ((sum % 2 ^ 32 + f x y) % 2 ^ 32) (sum % 2 ^ 32)
    one true = omega arith
    one false = refl
added_low f [] xs ys sum = refl
added_low f (p ∷ ps) [] ys sum = refl
added_low f (p ∷ ps) (x ∷ xs) [] sum = refl
