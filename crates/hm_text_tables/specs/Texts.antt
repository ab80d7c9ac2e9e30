-- Which text names which instruction.
use Rattle.std.specs.Prelude.{◌≡◌, ℕ, List, Option}
use Rattle.hm_isa.specs.declared.Instr.{Instr}
use Rattle.hm_line.specs.declared.form.Form.TheVariants as forms
use Rattle.hm_line.specs.Texts.{IsOfForm}
use Rattle.hm_tokens.specs.Tokens.{Tok}
use Rattle.hm_text_rows.specs.Labels.{NamesTarget}
use Rattle.hm_isa.specs.Code.{width_of}
use Rattle.hm_text_tables.specs.Tables.{HasText, label_of, target}

-- the text is of the form, and has the tokens of a row, where t stands for its label
pub record IsRowText (text : List ℕ) (i : Instr) (t : Tok) : Type 0 where
  pub form : IsOfForm forms.Instruction text
  pub has : HasText i t text

-- the text is that of an instruction which stands at pc, where the labels say what names name
pub record IsTextOf (text : List ℕ) (pc : ℕ) (labels : List ℕ → Option ℕ) (i : Instr) : Type 0 where
  pub label : Tok
  pub row : IsRowText text i label
  pub names : NamesTarget labels label (target i pc)

-- some row has the text, wherever it stands and whatever its label names, and its code has n bytes
pub record HasWidth (text : List ℕ) (n : ℕ) : Type 0 where
  pub instr : Instr
  pub label : Tok
  pub row : IsRowText text instr label
  pub bytes : n ≡ width_of instr

-- a row with the text has this width and this label, or none
abbrev pub IsShape : List ℕ → ℕ → Option Tok → Type 0
IsShape text w l = (i : Instr) × (t : Tok) × IsRowText text i t × (w ≡ width_of i) × (l ≡ label_of i t)

-- each row with the text has this width and this label, or none
abbrev pub IsOnlyShape : List ℕ → ℕ → Option Tok → Type 0
IsOnlyShape text w l = (i : Instr) (t : Tok) → IsRowText text i t → (w ≡ width_of i) × (l ≡ label_of i t)
