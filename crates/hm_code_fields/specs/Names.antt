-- Names of operations that are found by their codes without fields.
use Rattle.std.specs.Prelude.{ℕ, ◌≡◌, ◌<◌, ◌^◌, Bool, Option, Some, IfSome}

-- a look-up finds by a number the name whose base that is, and finds each name by its base
abbrev pub FindsNames : {N : Type 0} → (N → ℕ) → (ℕ → Option N → Type 0) → Type 0
FindsNames {N = N} base Gives =
    (w : ℕ) (found : Option N) → w < 2 ^ 32 → Gives w found → IfSome found (λ x. base x ≡ w) × ((x : N) → base x ≡ w → found ≡ Some x)

-- a test is true of exactly those names that say by a bit whether elements are signed
abbrev pub TellsSigns : {N : Type 0} → (N → Bool) → (N → Bool → Type 0) → Type 0
TellsSigns {N = N} has_sign Says = (x : N) (says : Bool) → Says x says → says ≡ has_sign x
