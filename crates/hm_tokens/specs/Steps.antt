-- Reading at most so many tokens, as the code does it.
use Rattle.std.specs.Prelude.{ℕ, zero, suc, List, [], ◌∷◌, length, Option, Some, None, option_and_then, option_map, ◌==◌, if◌then◌else◌}
use Rattle.hm_tokens.specs.Tokens.{Tok, skip, token_at}
use Rattle.hm_tokens.specs.Lines.{is_gap}

-- the tokens of a text with no spaces in front, of which there are at most so many
unfoldable pub tokens_from : ℕ → List ℕ → Option (List Tok)
tokens_from zero text = if length text == 0 then Some [] else None
tokens_from (suc most) text = if length text == 0 then Some []
    else option_and_then (λ x. option_map (λ ts. x.0 ∷ ts) (tokens_from most (skip x.1))) (token_at text)

-- the tokens of an instruction's text, of which there are at most 40
unfoldable pub line_in : List ℕ → Option (List Tok)
line_in text = option_and_then (λ x. if is_gap x.1 then option_map (λ ts. x.0 ∷ ts) (tokens_from 39 (skip x.1)) else None) (token_at (skip text))
