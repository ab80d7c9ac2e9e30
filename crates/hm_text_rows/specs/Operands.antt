-- What a text gives numbers for, read without a refusal, since the row that is found is asked for its text.
use Rattle.std.specs.Prelude.{ℕ, ◌+◌, ◌-◌, ◌^◌, min, Bool, true, false, List, [], ◌∷◌, length, get_or, Option, Some, None, ◌==◌, if◌then◌else◌}
use Rattle.hm_tokens.specs.declared.marks.Mark.{Mark}
use Rattle.hm_tokens.specs.declared.marks.Mark.TheVariants as marks
use Rattle.hm_tokens.specs.Names.{condition_in, is_number_given, register_in, vector_in}
use Rattle.hm_tokens.specs.Tokens.{Tok, word, number, mark, comma, digit_byte, is_the_mark}

-- WORDS
-- `b`, with which the first word of a branch begins
abbrev pub branch_letter : ℕ
branch_letter = 98

-- S25 and T16: the condition of B: what stands behind the `b` of its first word (DDI0553, "B")
abbrev pub branch_condition_in : List ℕ → Option ℕ
branch_condition_in [] = None
branch_condition_in (c ∷ name) = if c == branch_letter then condition_in name else None

-- whether a word is the name of a vector register
unfoldable pub is_vector_name : List ℕ → Bool
is_vector_name w = is_number_given (vector_in w)

-- the number of an element size, by its last digit: of 16, 32 and 64, and of 8
abbrev pub size_by : ℕ → ℕ
size_by c = if c == digit_byte 6 then 1 else if c == digit_byte 2 then 2 else if c == digit_byte 4 then 3 else 0

-- the number of the element size that a suffix names: 0 to 3 for 8, 16, 32 and 64 bits
unfoldable pub size_of : List ℕ → ℕ
size_of suffix = size_by (get_or suffix (length suffix - 1) 0)

-- TOKENS
-- the first of tokens, where that is a word, and else none
abbrev pub first_word : List Tok → List ℕ
first_word [] = []
first_word (word w ∷ ts) = w
first_word (number n ∷ ts) = []
first_word (mark c ∷ ts) = []

-- whether a token names a vector register
abbrev pub is_vector : Tok → Bool
is_vector (word w) = is_vector_name w
is_vector (number n) = false
is_vector (mark c) = false

-- the number that a token stands for, by that of a word: a number itself, at most 2^32 - 1, and 0 of a mark
abbrev pub value_by : (List ℕ → ℕ) → Tok → ℕ
value_by of_word (word w) = of_word w
value_by of_word (number n) = min n 0xffff_ffff
value_by of_word (mark c) = 0

-- operand k, counted from 0 and without the marks; a comma where there is none
abbrev pub operand : ℕ → List Tok → Tok
operand k [] = comma
operand k (word w ∷ ts) = if k == 0 then word w else operand (k - 1) ts
operand k (number n ∷ ts) = if k == 0 then number n else operand (k - 1) ts
operand k (mark c ∷ ts) = operand k ts

-- ADDRESSES
-- the first token; a number where there is none
abbrev pub first_of : List Tok → Tok
first_of [] = number 0
first_of (t ∷ ts) = t

-- the token behind the first mark m; a number where there is none
abbrev pub token_behind : Mark → List Tok → Tok
token_behind m [] = number 0
token_behind m (t ∷ ts) = if is_the_mark m t then first_of ts else token_behind m ts

-- 0 where a minus sign stands behind `#`
abbrev pub added : List Tok → ℕ
added ts = if is_the_mark marks.Minus (token_behind marks.Hash ts) then 0 else 1

-- 0 where a comma stands behind `]`
abbrev pub before : List Tok → ℕ
before ts = if is_the_mark marks.Comma (token_behind marks.CloseBracket ts) then 0 else 1

-- 1 where a comma or `!` stands behind `]`
abbrev pub back_in : List Tok → ℕ
back_in ts =
    if is_the_mark marks.Comma (token_behind marks.CloseBracket ts) then 1
    else if is_the_mark marks.Bang (token_behind marks.CloseBracket ts) then 1
    else 0

-- LISTS
-- the bit of a register in a list; 0 where there is no register
abbrev pub bit_or_none : Option ℕ → ℕ
bit_or_none (Some n) = 2 ^ n
bit_or_none None = 0

-- the bit of the core register of this name in a list; 0 where none has it
unfoldable pub bit_in : List ℕ → ℕ
bit_in w = bit_or_none (register_in w)

-- the bit of the core register that a token names in a list; 0 where it names none
abbrev pub token_bit : Tok → ℕ
token_bit (word w) = bit_in w
token_bit (number n) = 0
token_bit (mark c) = 0

-- the bits of all registers that are named, added up, at most 2^16 - 1
unfoldable pub bits_of : List Tok → ℕ
bits_of [] = 0
bits_of (t ∷ ts) = min (token_bit t + bits_of ts) 0xffff

-- what stands behind the first `{`
unfoldable pub braced : List Tok → List Tok
braced [] = []
braced (t ∷ ts) = if is_the_mark marks.OpenBrace t then ts else braced ts
