-- The shapes that texts of rows have.
use Rattle.std.specs.Prelude.{ℕ, zero, suc, ◌+◌, cond, List, [], ◌∷◌, ◌++◌, codes, nat_eq, if◌then◌else◌}
use Rattle.hm_isa.specs.Rules.{listed_in}
use Rattle.hm_tokens.specs.Names.{register_name, vector_name}
use Rattle.hm_tokens.specs.Tokens.{Tok, word, number, bang, close_brace, close_bracket, comma, hash_mark, minus_mark, open_brace, open_bracket}

-- OPERANDS
-- the name of vector register d
abbrev pub q : ℕ → Tok
q d = word (vector_name d)

-- the name of core register n
abbrev pub r : ℕ → Tok
r n = word (register_name n)

-- as some operands 15 is `zr`
abbrev pub or_zero : ℕ → Tok
or_zero n = word (cond (nat_eq n 15) (codes "zr") (register_name n))

-- a constant as an operand, `#n`
abbrev pub constant : ℕ → List Tok
constant n = hash_mark ∷ number n ∷ []

-- one of two mnemonics, by a bit
abbrev pub either : ℕ → List ℕ → List ℕ → List ℕ
either bit zero_ one_ = cond (nat_eq bit 0) zero_ one_

-- SHAPES
-- a first word and one operand
abbrev pub one : List ℕ → Tok → List Tok
one name a = word name ∷ a ∷ []

-- a first word and two operands
abbrev pub two : List ℕ → Tok → Tok → List Tok
two name a b = word name ∷ a ∷ comma ∷ b ∷ []

-- a first word and three operands
abbrev pub three : List ℕ → Tok → Tok → Tok → List Tok
three name a b c = word name ∷ a ∷ comma ∷ b ∷ comma ∷ c ∷ []

-- a first word and four operands
abbrev pub four : List ℕ → Tok → Tok → Tok → Tok → List Tok
four name a b c d = word name ∷ a ∷ comma ∷ b ∷ comma ∷ c ∷ comma ∷ d ∷ []

-- and one operand more
abbrev pub and_operand : List Tok → Tok → List Tok
and_operand front a = front ++ comma ∷ a ∷ []

-- and a constant behind them
abbrev pub and_constant : List Tok → ℕ → List Tok
and_constant front n = front ++ comma ∷ constant n

-- and a shift, as `lsl #n`, by 0 too
abbrev pub and_any_shift : List Tok → List ℕ → ℕ → List Tok
and_any_shift front kind n = front ++ comma ∷ word kind ∷ constant n

-- and a shift, where it is not by 0
abbrev pub and_shift : List Tok → List ℕ → ℕ → List Tok
and_shift front kind n = cond (nat_eq n 0) front (and_any_shift front kind n)

-- ADDRESSES
-- a minus sign, where the offset is taken away
abbrev pub minus : ℕ → List Tok
minus a = cond (nat_eq a 0) (minus_mark ∷ []) []

-- `!`, where the address is written back
abbrev pub back : ℕ → List Tok
back w = cond (nat_eq w 0) [] (bang ∷ [])

-- the offset of an address, `,#n`
abbrev pub offset : ℕ → ℕ → List Tok
offset a n = comma ∷ hash_mark ∷ (minus a ++ number n ∷ [])

-- an address with its offset in the brackets: `[base,#n]`, and `[base,#n]!` where it is written back
abbrev pub inside : ℕ → ℕ → Tok → ℕ → List Tok
inside a w base n = open_bracket ∷ base ∷ (offset a n ++ close_bracket ∷ back w)

-- an address whose offset goes to the base alone, `[base],#n`
abbrev pub outside : ℕ → Tok → ℕ → List Tok
outside a base n = open_bracket ∷ base ∷ close_bracket ∷ offset a n

-- an address with an offset: behind the brackets where p is 0, as `[base],#n`, else within them
abbrev pub indexed : ℕ → ℕ → ℕ → Tok → ℕ → List Tok
indexed p a w base n = cond (nat_eq p 0) (outside a base n) (inside a w base n)

-- an address with a register that is shifted, `[rn,rm,lsl #k]`
abbrev pub scaled : ℕ → ℕ → ℕ → List Tok
scaled n m k = open_bracket ∷ r n ∷ comma ∷ r m ∷ comma ∷ word (codes "lsl") ∷ hash_mark ∷ number k ∷ close_bracket ∷ []

-- LISTS
-- those of the registers from k up, so many, that stand in a list
abbrev pub registers_from : ℕ → ℕ → ℕ → List ℕ
registers_from zero k list = []
registers_from (suc n) k list = if listed_in list k then k ∷ registers_from n (k + 1) list else registers_from n (k + 1) list

-- registers, each behind a mark: the first behind this one, and the others behind a comma
abbrev pub listed : Tok → List ℕ → List Tok
listed t [] = []
listed t (k ∷ ks) = t ∷ r k ∷ listed comma ks

-- `{..}`, the registers in rising order
abbrev pub braces : ℕ → List Tok
braces list = listed open_brace (registers_from 16 0 list) ++ close_brace ∷ []
