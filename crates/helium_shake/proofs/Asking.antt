-- What words ask for.
use Rattle.std.proofs.Common.{◌≡◌, ◌≢◌, ℕ, List, [], ◌∷◌, length, map, None, refl}
use Rattle.helium_shake.specs.Words.{asked_of}

-- words that are not four ask for nothing
pub no_words : {A : Type 0} (f : A → List ℕ) (words : List A) → length words ≢ 4 → asked_of (map f words) ≡ None
no_words f [] four = refl
no_words f (a ∷ []) four = refl
no_words f (a ∷ b ∷ []) four = refl
no_words f (a ∷ b ∷ c ∷ []) four = refl
no_words f (a ∷ b ∷ c ∷ d ∷ []) four = absurd (four refl)
no_words f (a ∷ b ∷ c ∷ d ∷ e ∷ words) four = refl
