-- Bytes of texts that separate and end.
use Rattle.std.specs.Prelude.{ℕ}

-- the space
abbrev pub space : ℕ
space = 32

-- the end of a line
abbrev pub line_end : ℕ
line_end = 10

-- what may stand before the end of a line in files of other systems
abbrev pub carriage_return : ℕ
carriage_return = 13

-- the minus, which also joins words
abbrev pub minus_sign : ℕ
minus_sign = 45
