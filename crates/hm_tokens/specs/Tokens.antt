-- Tokens of assembly text, and the longest at the front of a text.
use Rattle.std.specs.Prelude.{ℕ, Bool, true, false, ◌+◌, ◌-◌, ◌*◌, min, List, [], ◌∷◌, length, slice_index, drop, decimal, Option, Some, None}
use Rattle.std.specs.Prelude.{◌==◌, nat_le, nat_lt, ◌&&◌, ◌||◌, if◌then◌else◌}
use Rattle.hm_text_base.specs.Marks.{space}
use Rattle.hm_tokens.specs.declared.marks.Mark.{Mark}
use Rattle.hm_tokens.specs.declared.marks.Mark.TheVariants as marks
use Rattle.hm_tokens.specs.Marks.{is_mark, mark_byte}
use Rattle.hm_tokens.specs.declared.token.Token.{Token}
use Rattle.hm_tokens.specs.declared.token.Token.TheVariants as tokens
use Rattle.hm_tokens.specs.declared.token.Class.{Class}
use Rattle.hm_tokens.specs.declared.token.Class.TheVariants as classes

-- a word, a number, or a mark
pub data Tok : Type 0 where
  word : List ℕ → Tok
  number : ℕ → Tok
  mark : ℕ → Tok

-- the token of a mark
abbrev pub mark_token : Mark → Tok
mark_token m = mark (mark_byte m)

-- between two operands
abbrev pub comma : Tok
comma = mark_token marks.Comma

-- before the base of an address
abbrev pub open_bracket : Tok
open_bracket = mark_token marks.OpenBracket

-- behind the offset of an address
abbrev pub close_bracket : Tok
close_bracket = mark_token marks.CloseBracket

-- before a list of registers
abbrev pub open_brace : Tok
open_brace = mark_token marks.OpenBrace

-- behind a list of registers
abbrev pub close_brace : Tok
close_brace = mark_token marks.CloseBrace

-- behind a base that is written back
abbrev pub bang : Tok
bang = mark_token marks.Bang

-- before a constant
abbrev pub hash_mark : Tok
hash_mark = mark_token marks.Hash

-- before what is added to a label
abbrev pub plus_mark : Tok
plus_mark = mark_token marks.Plus

-- before a number that is taken away, and inside a range of registers
abbrev pub minus_mark : Tok
minus_mark = mark_token marks.Minus

-- whether a token is a number
abbrev pub is_number : Tok → Bool
is_number (word w) = false
is_number (number n) = true
is_number (mark c) = false

-- whether a token is this mark
abbrev pub is_the_mark : Mark → Tok → Bool
is_the_mark m (word w) = false
is_the_mark m (number n) = false
is_the_mark m (mark c) = c == mark_byte m

-- a token of the program, as a token of these definitions
abbrev pub tok : Token → Tok
tok (tokens.Word w) = word w.now
tok (tokens.Number n) = number n
tok (tokens.Mark m) = mark_token m

-- BYTES
-- the point, with which the suffix of a first word begins
abbrev pub point : ℕ
point = 46

-- the line below, which may stand where a letter may
abbrev pub underscore : ℕ
underscore = 95

-- `a`, the first letter in lower case
abbrev pub first_letter : ℕ
first_letter = 97

-- `z`, the last letter in lower case
abbrev pub last_letter : ℕ
last_letter = 122

-- `f`, the last letter that is a hexadecimal digit
abbrev pub last_hex_letter : ℕ
last_hex_letter = 102

-- `x`, which stands behind the 0 of a hexadecimal number
abbrev pub hex_sign : ℕ
hex_sign = 120

-- the byte that a digit of 0 to 9 is written as
abbrev pub digit_byte : ℕ → ℕ
digit_byte d = 48 + d

-- whether a byte is one of 0 to 9
abbrev pub is_digit : ℕ → Bool
is_digit c = nat_le (digit_byte 0) c && nat_le c (digit_byte 9)

-- whether a byte is a letter in lower case
abbrev pub is_lower : ℕ → Bool
is_lower c = nat_le first_letter c && nat_le c last_letter

-- whether a byte is of a class: those of words, of decimal or of hexadecimal numbers, or the space
abbrev pub is_in : Class → ℕ → Bool
is_in classes.Word c = is_lower c || (is_digit c || ((c == underscore) || (c == point)))
is_in classes.Decimal c = is_digit c
is_in classes.Hex c = is_digit c || (nat_le first_letter c && nat_le c last_hex_letter)
is_in classes.Space c = c == space

-- the longest front of bytes of a class, and the rest
unfoldable pub run : Class → List ℕ → List ℕ × List ℕ
run class [] = ([], [])
run class (b ∷ bs) = if is_in class b then (b ∷ (run class bs).0, (run class bs).1) else ([], b ∷ bs)

-- the text without the spaces at its front
abbrev pub skip : List ℕ → List ℕ
skip text = (run classes.Space text).1

-- NUMBERS
-- the number that a digit stands for, up to 15
abbrev pub digit : ℕ → ℕ
digit c = if nat_le first_letter c then c - first_letter + 10 else c - digit_byte 0

-- the number that digits write after n; all from 2 ^ 32 on are one, since they fit nowhere
unfoldable pub value : ℕ → ℕ → List ℕ → ℕ
value base n [] = n
value base n (c ∷ cs) = value base (min (n * base + digit c) 0x1_0000_0000) cs

-- a hexadecimal number begins here
abbrev pub is_hex : List ℕ → Bool
is_hex text =
    nat_lt 2 (length text)
    && ((slice_index text 0 == digit_byte 0) && ((slice_index text 1 == hex_sign) && is_in classes.Hex (slice_index text 2)))

-- TOKENS
-- the number that digits of this base write, and what stands behind them
abbrev pub number_token : ℕ → List ℕ × List ℕ → Option (Tok × List ℕ)
number_token base s = Some (number (value base 0 s.0), s.1)

-- the word of these bytes, and what stands behind it
abbrev pub word_token : List ℕ × List ℕ → Option (Tok × List ℕ)
word_token s = Some (word s.0, s.1)

-- the longest token at the front, and the rest; None where a byte of no token stands there, or none
unfoldable pub token_at : List ℕ → Option (Tok × List ℕ)
token_at text =
    if length text == 0 then None
    else if is_hex text then number_token 16 (run classes.Hex (drop 2 text))
    else if is_digit (slice_index text 0) then number_token 10 (run classes.Decimal text)
    else if is_in classes.Word (slice_index text 0) then word_token (run classes.Word text)
    else if is_mark (slice_index text 0) then Some (mark (slice_index text 0), drop 1 text)
    else None

-- a token as it is printed: a number in decimal
abbrev pub spell : Tok → List ℕ
spell (word w) = w
spell (number n) = decimal n
spell (mark c) = c ∷ []
