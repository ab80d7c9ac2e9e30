-- The tokens of an instruction's text.
use Rattle.std.specs.Prelude.{◌≡◌, ℕ, Bool, true, false, List, [], ◌∷◌, ◌++◌, codes, length, slice_index, Some, ◌==◌, ◌&&◌, ◌||◌, if◌then◌else◌}
use Rattle.hm_text_base.specs.Marks.{space}
use Rattle.hm_text_base.specs.Texts.{hex8}
use Rattle.hm_tokens.specs.declared.marks.Mark.TheVariants as marks
use Rattle.hm_tokens.specs.Tokens.{Tok, word, number, mark, is_the_mark, skip, spell, token_at}

-- READING
-- the tokens of a text, each the longest there; spaces may stand between them
abbrev pub AreTokensOf : List ℕ → List Tok → Type 0
AreTokensOf text [] = skip text ≡ []
AreTokensOf text (t ∷ ts) = (rest : List ℕ) × (token_at (skip text) ≡ Some (t, rest)) × AreTokensOf rest ts

-- a space, or the end
abbrev pub is_gap : List ℕ → Bool
is_gap rest = (length rest == 0) || (slice_index rest 0 == space)

-- the tokens of a line, of which the first stands apart, as the first word of an instruction does
abbrev pub IsLineOf : List ℕ → List Tok → Type 0
IsLineOf text [] = ⊥
IsLineOf text (t ∷ ts) = (rest : List ℕ) × (token_at (skip text) ≡ Some (t, rest)) × (is_gap rest ≡ true) × AreTokensOf rest ts

-- PRINTING
-- whether a token is a word
abbrev pub is_word : Tok → Bool
is_word (word w) = true
is_word (number n) = false
is_word (mark c) = false

-- whether a token is `#`
abbrev pub is_hash : Tok → Bool
is_hash = is_the_mark marks.Hash

-- what stands before a token: between a word and `#`, as in `lsl #2`, a space, and else nothing
abbrev pub gap : Bool → Tok → List ℕ
gap after_word t = if after_word && is_hash t then space ∷ [] else []

-- tokens one behind another, behind a word or behind none
abbrev pub spelled_behind : Bool → List Tok → List ℕ
spelled_behind after_word [] = []
spelled_behind after_word (t ∷ ts) = gap after_word t ++ (spell t ++ spelled_behind (is_word t) ts)

-- tokens one behind another
abbrev pub spelled : List Tok → List ℕ
spelled ts = spelled_behind false ts

-- the first word, and behind a space the operands
abbrev pub printed : List Tok → List ℕ
printed [] = []
printed (t ∷ []) = spell t
printed (t ∷ u ∷ ts) = spell t ++ space ∷ spelled (u ∷ ts)

-- an address: `0x` and eight digits
abbrev pub address : ℕ → List ℕ
address a = codes "0x" ++ hex8 a

-- the text with an address for its last operand, behind a space where it has no other
abbrev pub printed_at : List Tok → ℕ → List ℕ
printed_at [] a = []
printed_at (t ∷ []) a = spell t ++ space ∷ address a
printed_at (t ∷ u ∷ ts) a = printed (t ∷ u ∷ ts) ++ address a
