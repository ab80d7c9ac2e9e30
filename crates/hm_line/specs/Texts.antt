-- Texts that are of a form, and where the others leave it.
use Rattle.std.specs.Prelude.{◌≡◌, ℕ, ◌+◌, ◌-◌, ◌^◌, min, Bool, List, [], ◌∷◌, ◌++◌, length, Option, Some, option_map, ◌==◌, nat_lt, if◌then◌else◌}
use Rattle.hm_tokens.specs.Tokens.{skip, token_at}
use Rattle.hm_line.specs.declared.form.Form.{Form}
use Rattle.hm_line.specs.Kinds.{kind}
use Rattle.hm_line.specs.Forms.{Spaced, IsForm, Begins}

-- TOKENS
-- a space stands at the front
abbrev pub is_spaced : List ℕ → Bool
is_spaced text = nat_lt (length (skip text)) (length text)

-- the next token of a text, and what stands behind it
abbrev pub next : List ℕ → Option (Spaced × List ℕ)
next text = option_map (λ x. ((is_spaced text, kind x.0), x.1)) (token_at (skip text))

-- the first tokens of a text, and what stands behind them
abbrev pub AreTokens : List ℕ → List Spaced → List ℕ → Type 0
AreTokens text [] rest = text ≡ rest
AreTokens text (t ∷ ts) rest = (after : List ℕ) × (next text ≡ Some (t, after)) × AreTokens after ts rest

-- a text whose tokens are of the form
abbrev pub IsOfForm : Form → List ℕ → Type 0
IsOfForm form text = (ts : List Spaced) × (rest : List ℕ) × AreTokens text ts rest × (skip rest ≡ []) × IsForm form ts

-- REFUSALS
-- the longest front of a text's tokens that begins one of the form, and what stands behind it
abbrev pub IsFront : Form → List ℕ → List Spaced → List ℕ → Type 0
IsFront form text ts rest =
    AreTokens text ts rest × Begins form ts × ((t : Spaced) (after : List ℕ) → next rest ≡ Some (t, after) → Begins form (ts ++ t ∷ []) → ⊥)

-- the column, from 1, of what stands in a text before so much of it; those past 2^32 - 1 are told as that
abbrev pub column : List ℕ → List ℕ → ℕ
column text rest = min (length text - length rest + 1) (2 ^ 32 - 1)

-- the column of the first token, or byte of no token, behind that front; where nothing stands there, one past the last token
abbrev pub refusal_column : List ℕ → List ℕ → ℕ
refusal_column text rest = if length (skip rest) == 0 then column text rest else column text (skip rest)

-- a text that is not of the form, and the column where it is refused
abbrev pub IsRefused : Form → List ℕ → ℕ → Type 0
IsRefused form text c =
    (ts : List Spaced) × (rest : List ℕ) × IsFront form text ts rest × (skip rest ≡ [] → IsForm form ts → ⊥) × (c ≡ refusal_column text rest)

-- THE LAST TOKEN
-- the last token of a text begins behind the spaces here: there are tokens before it, and spaces behind it
abbrev pub IsLast : List ℕ → List ℕ → Type 0
IsLast text here = (ts : List Spaced) × (t : Spaced) × (rest : List ℕ) × AreTokens text ts here × (next here ≡ Some (t, rest)) × (skip rest ≡ [])
