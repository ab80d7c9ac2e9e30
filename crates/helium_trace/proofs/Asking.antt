-- What words ask for.
use Rattle.std.proofs.Common.{◌≡◌, ◌≢◌, ℕ, List, [], ◌∷◌, length, map, None, refl}
use Rattle.helium_trace.specs.Words.{asked_of}

-- words that are not four and not six ask for nothing
pub no_words : {A : Type 0} (f : A → List ℕ) (words : List A) → length words ≢ 4 → length words ≢ 6 → asked_of (map f words) ≡ None
no_words f [] four six = refl
no_words f (a ∷ []) four six = refl
no_words f (a ∷ b ∷ []) four six = refl
no_words f (a ∷ b ∷ c ∷ []) four six = refl
no_words f (a ∷ b ∷ c ∷ d ∷ []) four six = absurd (four refl)
no_words f (a ∷ b ∷ c ∷ d ∷ e ∷ []) four six = refl
no_words f (a ∷ b ∷ c ∷ d ∷ e ∷ g ∷ []) four six = absurd (six refl)
no_words f (a ∷ b ∷ c ∷ d ∷ e ∷ g ∷ h ∷ words) four six = refl
