-- Fields at their places.
use Rattle.std.specs.Prelude.{ℕ, ◌*◌, ◌^◌}

-- x, where it stands at bit p
infixl 70 ◌↑◌
-- the number x moved up by p bits
abbrev pub ◌↑◌ : ℕ → ℕ → ℕ
x ↑ p = x * 2 ^ p
