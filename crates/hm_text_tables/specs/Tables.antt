-- The texts of all tables together: which row has a text, and what its label names.
use Rattle.std.specs.Prelude.{◌≡◌, ◌⊎◌, ℕ, Bool, false, List, Option, Some, None}
use Rattle.hm_isa.specs.declared.Instr.{Instr}
use Rattle.hm_isa.specs.declared.Instr.TheVariants.{Scalar, Branch, Vector}
use Rattle.hm_isa.specs.declared.widths.ByWidth.{ByWidth}
use Rattle.hm_isa.specs.declared.widths.ByWidth.TheVariants as by
use Rattle.hm_isa.specs.Widths.{by_width}
use Rattle.hm_tokens.specs.Lines.{IsLineOf, printed}
use Rattle.hm_tokens.specs.Ranges.{normal}
use Rattle.hm_tokens.specs.Tokens.{Tok}
use Rattle.hm_text_rows.specs.Labels.{IsLabel, Reaches, printed_with}
use Rattle.hm_text16_rows.specs.Rows as narrow_rows
use Rattle.hm_text16_rows.specs.Targets as narrow_targets
use Rattle.hm_text32_rows.specs.Rows as wide_rows
use Rattle.hm_text32_rows.specs.Targets as wide_targets
use Rattle.hm_textv_rows.specs.Rows as vectors
use Rattle.hm_text_tables.specs.Labels.{label_where}

-- LABELS
-- whether the last operand of a row is a label, by its table
abbrev pub has_label_by : ByWidth → Bool
has_label_by (by.Narrow r) = narrow_rows.has_label r
has_label_by (by.Wide r) = wide_rows.has_label r
has_label_by (by.Vector v) = false

-- whether the last operand of a row is a label
abbrev pub has_label : Instr → Bool
has_label i = has_label_by (by_width i)

-- the label of a row, where it has one
abbrev pub label_of : Instr → Tok → Option Tok
label_of i t = label_where (has_label i) t

-- the address that the label of a row names, by its table
abbrev pub target_by : ByWidth → ℕ → Option ℕ
target_by (by.Narrow r) pc = narrow_targets.target r pc
target_by (by.Wide r) pc = wide_targets.target r pc
target_by (by.Vector v) pc = None

-- the address that the label of a row names, where the instruction stands at pc; None where it has none
abbrev pub target : Instr → ℕ → Option ℕ
target i pc = target_by (by_width i) pc

-- TOKENS of rows of one halfword, and of two that are no vector rows
-- tokens are those of a row as it is printed, where t stands for its label, or those of its other text, by its table
abbrev pub AreOfRow : ByWidth → Tok → List Tok → Type 0
AreOfRow (by.Narrow r) t ts = narrow_rows.tokens_of r t ≡ ts
AreOfRow (by.Wide r) t ts = (wide_rows.tokens_of r t ≡ ts) ⊎ (wide_rows.other_tokens r ≡ Some ts)
AreOfRow (by.Vector v) t ts = ⊥

-- tokens are those of a row, with some label behind them where it has one, by its table
abbrev pub AreRowTokens : ByWidth → List Tok → Type 0
AreRowTokens w ts = (t : Tok) × IsLabel t × AreOfRow w t ts

-- tokens with single registers are a row's, where t stands for its label; where it has none, t is any label
pub record HasTokens (i : Instr) (t : Tok) (ts : List Tok) : Type 0 where
  pub label : IsLabel t
  pub tokens : AreOfRow (by_width i) t ts

-- tokens with single registers are a row's that stands at pc, with a label that names the address a
pub record IsRowOf (ts : List Tok) (pc : ℕ) (a : ℕ) (i : Instr) : Type 0 where
  pub label : Tok
  pub has : HasTokens i label ts
  pub reaches : Reaches (target i pc) a

-- TEXTS
-- a text has tokens that are such a row's, where t stands for its label; its lists may have ranges
pub record IsTokenText (text : List ℕ) (i : Instr) (t : Tok) : Type 0 where
  pub tokens : List Tok
  pub line : IsLineOf text tokens
  pub has : HasTokens i t (normal tokens)

-- a text has the tokens of a vector row, which has no label
abbrev pub IsVectorText : List ℕ → Instr → Type 0
IsVectorText text (Scalar i) = ⊥
IsVectorText text (Branch i) = ⊥
IsVectorText text (Vector v) = vectors.IsTextOf text v

-- a text has the tokens of a row, where t stands for its label; where it has none, t is any label
abbrev pub HasText : Instr → Tok → List ℕ → Type 0
HasText i t text = IsTokenText text i t ⊎ IsVectorText text i

-- a row has the text and stands at pc, with a label that names the address a
pub record IsRowAt (text : List ℕ) (pc : ℕ) (a : ℕ) (i : Instr) : Type 0 where
  pub label : Tok
  pub has : HasText i label text
  pub reaches : Reaches (target i pc) a

-- what a text shows of its row: how many bytes its code has, and its label
abbrev pub Seen : Type 0
Seen = ℕ × Option Tok

-- PRINTED
-- the text of a row that stands at pc, by its table: of one with a label, with the address that this names
abbrev pub printed_by : ByWidth → ℕ → List ℕ
printed_by (by.Narrow r) pc = printed_with (narrow_rows.row_tokens r) (narrow_targets.target r pc)
printed_by (by.Wide r) pc = printed_with (wide_rows.row_tokens r) (wide_targets.target r pc)
printed_by (by.Vector v) pc = printed (vectors.tokens_of v)

-- the text of a row that stands at pc
abbrev pub printed_text : Instr → ℕ → List ℕ
printed_text i pc = printed_by (by_width i) pc
