-- Where a text of an instruction is refused, and as what. The first that holds is told: the form, then the row, then a name that
-- is not defined, then an address out of reach.
use Rattle.std.specs.Prelude.{◌≡◌, ℕ, List, Option, Some, None}
use Rattle.hm_isa.specs.declared.Instr.{Instr}
use Rattle.hm_line.specs.declared.errors.AsmKind.{AsmKind}
use Rattle.hm_line.specs.declared.errors.AsmKind.TheVariants as kinds
use Rattle.hm_line.specs.declared.form.Form.TheVariants as forms
use Rattle.hm_line.specs.Texts.{IsLast, IsOfForm, IsRefused, column}
use Rattle.hm_tokens.specs.Tokens.{Tok, skip, word}
use Rattle.hm_text_rows.specs.Labels.{Names}
use Rattle.hm_text_tables.specs.Tables.{label_of}
use Rattle.hm_text_tables.specs.Texts.{IsRowText, IsTextOf}

-- COLUMNS
-- that of the first word, which is the first token
abbrev pub IsAtFirstWord : List ℕ → ℕ → Type 0
IsAtFirstWord text c = c ≡ column text (skip text)

-- that of the label, which is the last token
abbrev pub IsAtLabel : List ℕ → ℕ → Type 0
IsAtLabel text c = (here : List ℕ) × IsLast text here × (c ≡ column text (skip here))

-- CAUSES
-- the text is of the form, and no row has it
pub record IsNoRow (text : List ℕ) (c : ℕ) : Type 0 where
  pub form : IsOfForm forms.Instruction text
  pub none : (i : Instr) (t : Tok) → IsRowText text i t → ⊥
  pub column : IsAtFirstWord text c

-- a row has the text, and its label is a name that is not defined
pub record IsMissing (text : List ℕ) (labels : List ℕ → Option ℕ) (c : ℕ) : Type 0 where
  pub instr : Instr
  pub name : List ℕ
  pub row : IsRowText text instr (word name)
  pub labelled : label_of instr (word name) ≡ Some (word name)
  pub unknown : labels name ≡ None
  pub column : IsAtLabel text c

-- a row has the text, and its label names an address, but none that a row with this text names from pc
pub record IsOutOfReach (text : List ℕ) (pc : ℕ) (labels : List ℕ → Option ℕ) (c : ℕ) : Type 0 where
  pub instr : Instr
  pub label : Tok
  pub row : IsRowText text instr label
  pub labelled : label_of instr label ≡ Some label
  pub address : ℕ
  pub names : Names labels label address
  pub none : (i : Instr) → IsTextOf text pc labels i → ⊥
  pub column : IsAtLabel text c

-- a text that is read for its width alone is refused as this, at column c
abbrev pub IsShapeRefused : AsmKind → List ℕ → ℕ → Type 0
IsShapeRefused kinds.Syntax text c = IsRefused forms.Instruction text c
IsShapeRefused kinds.Row text c = IsNoRow text c
IsShapeRefused kinds.Missing text c = ⊥
IsShapeRefused kinds.Double text c = ⊥
IsShapeRefused kinds.Offset text c = ⊥
IsShapeRefused kinds.Place text c = ⊥

-- a text that stands at pc is refused as this, at column c
abbrev pub IsTextRefused : AsmKind → List ℕ → ℕ → (List ℕ → Option ℕ) → ℕ → Type 0
IsTextRefused kinds.Syntax text pc labels c = IsRefused forms.Instruction text c
IsTextRefused kinds.Row text pc labels c = IsNoRow text c
IsTextRefused kinds.Missing text pc labels c = IsMissing text labels c
IsTextRefused kinds.Double text pc labels c = ⊥
IsTextRefused kinds.Offset text pc labels c = IsOutOfReach text pc labels c
IsTextRefused kinds.Place text pc labels c = ⊥
