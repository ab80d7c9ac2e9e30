-- The first pass: where each line stands, which labels there are, and the first line that is refused.
use Rattle.std.specs.Prelude.{◌≡◌, ℕ, zero, suc, Bool, true, false, List, [], ◌∷◌, Option, Some, None, is_none}
use Rattle.std.specs.FinMap.{get, insert}
use Rattle.hm_line.specs.Labels.{LabelMap}
use Rattle.hm_line.specs.Sources.{IsLine}
use Rattle.hm_line.specs.declared.errors.AsmKind.{AsmKind}
use Rattle.hm_line.specs.declared.errors.AsmKind.TheVariants as kinds
use Rattle.hm_source.specs.Lines.{name_of, text_of, name_column, text_column}
use Rattle.hm_source.specs.Places.{HasPlace, next_place}
use Rattle.hm_source.specs.Statements.{Said, Says}
use Rattle.hm_source.specs.Unread.{IsUnread}

-- LABELS
-- a name is not there yet
abbrev pub is_new : LabelMap → Option (List ℕ) → Bool
is_new m None = true
is_new m (Some name) = is_none (get m name)

-- a name with the place of its line, which is that before `.org` and `.align`
abbrev pub with_name : LabelMap → Option (List ℕ) → ℕ → LabelMap
with_name m None a = m
with_name m (Some name) a = insert m name a

-- ONE LINE, which stands at a place, behind lines that gave labels
-- a line is of the form, says this, gives no label that is there already, and has its place at a
pub record IsFine (m : LabelMap) (a : ℕ) (line : List ℕ) (said : Said) : Type 0 where
  pub form : IsLine line
  pub says : Says (text_of line) said
  pub new : is_new m (name_of line) ≡ true
  pub place : HasPlace said a

-- its label is there already
pub record IsDouble (m : LabelMap) (line : List ℕ) (c : ℕ) : Type 0 where
  pub form : IsLine line
  pub said : Said
  pub says : Says (text_of line) said
  pub there : is_new m (name_of line) ≡ false
  pub column : c ≡ name_column line

-- it has no place
pub record IsMisplaced (m : LabelMap) (a : ℕ) (line : List ℕ) (c : ℕ) : Type 0 where
  pub form : IsLine line
  pub said : Said
  pub says : Says (text_of line) said
  pub new : is_new m (name_of line) ≡ true
  pub none : HasPlace said a → ⊥
  pub column : c ≡ text_column line

-- the line is refused as this, at column c: Syntax, Row, Double, Place are tried in this order
abbrev pub IsRefusedAs : AsmKind → LabelMap → ℕ → List ℕ → ℕ → Type 0
IsRefusedAs kinds.Double m a line c = IsDouble m line c
IsRefusedAs kinds.Place m a line c = IsMisplaced m a line c
IsRefusedAs kind m a line c = IsUnread kind line c

-- LINES one behind another, the first at a place
-- all are fine, and give labels to those before them
abbrev pub AreFine : LabelMap → ℕ → List (List ℕ) → LabelMap → Type 0
AreFine m a [] all = m ≡ all
AreFine m a (l ∷ ls) all = (said : Said) × IsFine m a l said × AreFine (with_name m (name_of l) a) (next_place said a) ls all

-- n are fine, and the next one is refused as this, at column c
abbrev pub IsFirstRefused : AsmKind → LabelMap → ℕ → List (List ℕ) → ℕ → ℕ → Type 0
IsFirstRefused kind m a [] n c = ⊥
IsFirstRefused kind m a (l ∷ ls) zero c = IsRefusedAs kind m a l c
IsFirstRefused kind m a (l ∷ ls) (suc n) c = (said : Said) × IsFine m a l said × IsFirstRefused kind (with_name m (name_of l) a) (next_place said a) ls n c
