-- The marks of assembly text.
use Rattle.std.specs.Prelude.{ℕ, Bool, codes, ◌==◌, if◌then◌else◌}
use Rattle.std.specs.List.{list_any}
use Rattle.hm_tokens.specs.declared.marks.Mark.{Mark}
use Rattle.hm_tokens.specs.declared.marks.Mark.TheVariants as marks

-- the byte of each mark
abbrev pub mark_byte : Mark → ℕ
mark_byte marks.Colon = 58
mark_byte marks.Comma = 44
mark_byte marks.Hash = 35
mark_byte marks.OpenBracket = 91
mark_byte marks.CloseBracket = 93
mark_byte marks.OpenBrace = 123
mark_byte marks.CloseBrace = 125
mark_byte marks.Bang = 33
mark_byte marks.Minus = 45
mark_byte marks.Plus = 43

-- the mark that a byte is; of any other byte `+`, which nobody asks for
abbrev pub mark_of : ℕ → Mark
mark_of c =
    if c == mark_byte marks.Colon then marks.Colon
    else if c == mark_byte marks.Comma then marks.Comma
    else if c == mark_byte marks.Hash then marks.Hash
    else if c == mark_byte marks.OpenBracket then marks.OpenBracket
    else if c == mark_byte marks.CloseBracket then marks.CloseBracket
    else if c == mark_byte marks.OpenBrace then marks.OpenBrace
    else if c == mark_byte marks.CloseBrace then marks.CloseBrace
    else if c == mark_byte marks.Bang then marks.Bang
    else if c == mark_byte marks.Minus then marks.Minus
    else marks.Plus

-- whether a byte is one of the marks
abbrev pub is_mark : ℕ → Bool
is_mark c = list_any (λ m. c == m) (codes ":,#[]{}!-+")
