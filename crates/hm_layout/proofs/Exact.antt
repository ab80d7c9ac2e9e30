-- An answer that is found, or that there is none, is exact where at most one value has the property.
use Rattle.std.proofs.Common.{◌≡◌, ap, subst, Option, Some, None, IfSome, IfNone, ◌↔◌}

some_one : {A : Type 0} (a b : A) → Some a ≡ Some b → a ≡ b
some_one a b e = cc

pub exact : {A : Type 0} (P : A → Type 0) → ((a b : A) → P a → P b → a ≡ b) → (x : Option A) → IfSome x P → IfNone x ((a : A) → P a → ⊥)
    → (a : A) → (x ≡ Some a) ↔ P a
exact P one (Some b) found none a = (λ e. subst P (some_one b a e) found, λ p. ap Some (one b a found p))
exact P one None found none a = (λ e. cc, λ p. absurd (none a p))
