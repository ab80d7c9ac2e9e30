-- What the draws of a run begin with, and what they say.
use Rattle.std.specs.Prelude.{ℕ, ◌+◌, ◌*◌, ◌/◌, ◌%◌, ◌^◌}
use Rattle.hm_base.specs.Draws.{draw}

-- what is drawn from in a run, by the seed and its number
abbrev pub first : ℕ → ℕ → ℕ
first seed run = draw ((draw seed + 2654435769 * run) % 2 ^ 32)

-- a number below n, by a draw
abbrev pub part : ℕ → ℕ → ℕ
part x n = x * n / 2 ^ 32
