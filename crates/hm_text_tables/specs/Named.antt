-- What a label names, where a row has one.
use Rattle.std.specs.Prelude.{◌≡◌, ◌≤◌, ℕ, ◌^◌, List, Option, Some, None}
use Rattle.hm_tokens.specs.Tokens.{Tok, word, number, mark}
use Rattle.hm_text_rows.specs.Labels.{Names}

-- the address is what the label names, and any where there is no label
abbrev pub NamesGiven : (List ℕ → Option ℕ) → Option Tok → ℕ → Type 0
NamesGiven labels (Some t) a = Names labels t a
NamesGiven labels None a = Unit {0}

-- it names none: it is a name that is not defined, or no label
abbrev pub IsUnknown : (List ℕ → Option ℕ) → Tok → Type 0
IsUnknown labels (word w) = labels w ≡ None
IsUnknown labels (number n) = 2 ^ 32 ≤ n
IsUnknown labels (mark c) = Unit {0}

-- the label of a row, where it has one, names no address; a row without a label has none to miss
abbrev pub IsUnknownGiven : (List ℕ → Option ℕ) → Option Tok → Type 0
IsUnknownGiven labels (Some t) = IsUnknown labels t
IsUnknownGiven labels None = ⊥
