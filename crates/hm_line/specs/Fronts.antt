-- The tokens at the front of a text.
use Rattle.std.specs.Prelude.{◌≡◌, ℕ, List, [], ◌∷◌, Option, Some, None, option_and_then, if◌then◌else◌}
use Rattle.hm_tokens.specs.declared.marks.Mark.{Mark}
use Rattle.hm_tokens.specs.Tokens.{Tok, word, number, mark, is_the_mark, skip, token_at}

-- the tokens at the front of a text, and what stands behind them
abbrev pub AreFront : List ℕ → List Tok → List ℕ → Type 0
AreFront text [] rest = text ≡ rest
AreFront text (t ∷ ts) rest = (after : List ℕ) × (token_at (skip text) ≡ Some (t, after)) × AreFront after ts rest

-- a word at the front, and what stands behind it
abbrev pub word_with : Tok → List ℕ → Option (List ℕ × List ℕ)
word_with (word w) rest = Some (w, rest)
word_with (number n) rest = None
word_with (mark c) rest = None

-- the word that is the first token of a text, and what stands behind it; None where no word is first
abbrev pub word_in_front : List ℕ → Option (List ℕ × List ℕ)
word_in_front text = option_and_then (λ x. word_with x.0 x.1) (token_at (skip text))

-- what stands behind a mark at the front
abbrev pub mark_with : Mark → Tok → List ℕ → Option (List ℕ)
mark_with m t rest = if is_the_mark m t then Some rest else None

-- what stands behind the first token of a text, where that is this mark
abbrev pub behind_mark : Mark → List ℕ → Option (List ℕ)
behind_mark m text = option_and_then (λ x. mark_with m x.0 x.1) (token_at (skip text))
