-- Tokens of rows whose last operand may be a label, whatever the table of the rows is.
use Rattle.std.specs.Prelude.{◌≡◌, ◌++◌, Bool, List, [], ◌∷◌, Option, Some, None, if◌then◌else◌}
use Rattle.hm_tokens.specs.Tokens.{Tok}
use Rattle.hm_text_rows.specs.Labels.{IsLabel}

-- the tokens of a row, where t stands for its label, if it has one
abbrev pub with_label : Bool → List Tok → Tok → List Tok
with_label b row t = if b then row ++ t ∷ [] else row

-- the label of a row, where it has one
abbrev pub label_where : Bool → Tok → Option Tok
label_where b t = if b then Some t else None

-- tokens are a row's and some label behind it
abbrev pub Labelled : List Tok → List Tok → Type 0
Labelled row ts = (t : Tok) × IsLabel t × (row ++ t ∷ [] ≡ ts)

-- tokens are a row's, and some label behind it where it has one
abbrev pub AreLabelled : Bool → List Tok → List Tok → Type 0
AreLabelled b row ts = (t : Tok) × IsLabel t × (with_label b row t ≡ ts)
