-- Reading numbers.
use Rattle.std.specs.Prelude.{ℕ, ◌+◌, ◌-◌, ◌*◌, ◌^◌, List, [], ◌∷◌, length, slice_index, Option, Some, None, option_and_then, ◌==◌, nat_lt, nat_le, ◌&&◌, ◌||◌}
use Rattle.std.specs.Prelude.{if◌then◌else◌}
use Rattle.std.specs.Char.{is_ascii_digit}

-- the number below 16 that is written as 0 to 9 or a to f
abbrev pub digit_in : ℕ → Option ℕ
digit_in c = if nat_le 48 c && nat_le c 57 then Some (c - 48) else if nat_le 97 c && nat_le c 102 then Some (c - 97 + 10) else None

-- the number that these hexadecimal digits give after those that gave n
unfoldable pub hex_in : ℕ → List ℕ → Option ℕ
hex_in n [] = Some n
hex_in n (c ∷ cs) = option_and_then (λ d. hex_in (n * 16 + d) cs) (digit_in c)

-- a word in eight hexadecimal digits
abbrev pub hex8_in : List ℕ → Option ℕ
hex8_in text = if length text == 8 then hex_in 0 text else None

-- the number that these decimal digits give after those that gave n
unfoldable pub digits_in : ℕ → List ℕ → Option ℕ
digits_in n [] = Some n
digits_in n (c ∷ cs) = if is_ascii_digit c then digits_in (n * 10 + (c - 48)) cs else None

-- one to so many decimal digits with no leading zero
abbrev pub digits_up_to : ℕ → List ℕ → Option ℕ
digits_up_to most text = if (length text == 0) || (nat_lt most (length text) || (nat_lt 1 (length text) && (slice_index text 0 == 48))) then None
    else digits_in 0 text

-- one to eight decimal digits with no leading zero
abbrev pub number_in : List ℕ → Option ℕ
number_in text = digits_up_to 8 text

-- a number below 2 ^ 32 in decimal digits with no leading zero
abbrev pub word_in : List ℕ → Option ℕ
word_in text = option_and_then (λ n. if nat_lt n (2 ^ 32) then Some n else None) (digits_up_to 10 text)
