-- Numbers of many bits as words of 32 bits, the lowest first.
use Rattle.std.specs.Prelude.{ℕ, zero, suc, ◌+◌, ◌*◌, ◌/◌, ◌%◌, ◌^◌, List, [], ◌∷◌}

-- the number that words are
abbrev pub number_of : List ℕ → ℕ
number_of [] = 0
number_of (w ∷ ws) = number_of ws * 2 ^ 32 + w

-- the lowest words of a number, so many of them
unfoldable pub words_of : ℕ → ℕ → List ℕ
words_of zero x = []
words_of (suc n) x = x % 2 ^ 32 ∷ words_of n (x / 2 ^ 32)
