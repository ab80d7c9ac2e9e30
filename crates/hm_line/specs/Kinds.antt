-- What the form of a line asks of a token.
use Rattle.hm_tokens.specs.declared.marks.Mark.{Mark}
use Rattle.hm_tokens.specs.Marks.{mark_of}
use Rattle.hm_tokens.specs.Tokens.{Tok}
use Rattle.hm_tokens.specs.Tokens as tokens

-- that it is a word or a number, or which mark it is
pub data Kind : Type 0 where
  word : Kind
  number : Kind
  mark : Mark → Kind

-- the kind of a token
abbrev pub kind : Tok → Kind
kind (tokens.word w) = word
kind (tokens.number n) = number
kind (tokens.mark c) = mark (mark_of c)
