-- Where instructions are kept that were decoded of late.
use Rattle.std.specs.Prelude.{ℕ, ◌/◌, ◌%◌}

-- the place of an address, of so many, which it shares with others
abbrev pub place_of : ℕ → ℕ → ℕ
place_of count addr = addr / 2 % count
