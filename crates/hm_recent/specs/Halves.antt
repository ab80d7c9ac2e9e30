-- The code that two halfwords begin with.
use Rattle.std.specs.Prelude.{ℕ, if◌then◌else◌, List, [], ◌∷◌}
use Rattle.hm_codes.specs.Listing.{is_long}

-- both, or the first alone where that begins no code of two
abbrev pub code_of : ℕ → ℕ → List ℕ
code_of first second = if is_long first then first ∷ second ∷ [] else first ∷ []
