-- Registers in braces: a range, as `r0-r3`, stands for each of them.
use Rattle.std.specs.Prelude.{ℕ, zero, suc, ◌+◌, ◌-◌, Bool, false, List, [], ◌∷◌, ◌++◌, Option, Some, None, nat_lt, ◌&&◌, ◌||◌, not, if◌then◌else◌}
use Rattle.hm_tokens.specs.declared.marks.Mark.TheVariants as marks
use Rattle.hm_tokens.specs.Names.{register_in, register_name}
use Rattle.hm_tokens.specs.Tokens.{Tok, word, number, mark, comma, is_the_mark}

-- the number of the core register that a token names, if it names one
abbrev pub register_of : Tok → Option ℕ
register_of (word w) = register_in w
register_of (number n) = None
register_of (mark c) = None

-- the register behind a `-`
abbrev pub last_register : List Tok → Option ℕ
last_register [] = None
last_register (t ∷ []) = None
last_register (t ∷ u ∷ ts) = if is_the_mark marks.Minus t then register_of u else None

-- the first register of a range is below the last
abbrev pub is_rising : Option ℕ → Option ℕ → Bool
is_rising (Some k) (Some j) = nat_lt k j
is_rising (Some k) None = false
is_rising None last = false

-- register k and the n behind it, with commas between
unfoldable pub rising : ℕ → ℕ → List Tok
rising k zero = word (register_name k) ∷ []
rising k (suc n) = word (register_name k) ∷ comma ∷ rising (k + 1) n

-- the registers from the first of a range to its last, with commas between; nothing where one of the two is not given
abbrev pub range_tokens : Option ℕ → Option ℕ → List Tok
range_tokens (Some k) (Some j) = rising k (j - k)
range_tokens (Some k) None = []
range_tokens None last = []

-- whether what stands behind a token stands in braces
abbrev pub is_inside : Bool → Tok → Bool
is_inside inside t = is_the_mark marks.OpenBrace t || (inside && not (is_the_mark marks.CloseBrace t))

-- tokens with single registers; a range is told at its first token, and the two behind it are left out
unfoldable pub singles : ℕ → Bool → List Tok → List Tok
singles over inside [] = []
singles (suc over) inside (t ∷ ts) = singles over inside ts
singles zero inside (t ∷ ts) =
    if inside && is_rising (register_of t) (last_register ts) then range_tokens (register_of t) (last_register ts) ++ singles 2 inside ts
    else t ∷ singles 0 (is_inside inside t) ts

-- the tokens of a text with single registers in place of ranges
abbrev pub normal : List Tok → List Tok
normal ts = singles 0 false ts
