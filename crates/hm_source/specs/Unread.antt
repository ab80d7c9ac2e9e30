-- Lines that are refused wherever they stand.
use Rattle.std.specs.Prelude.{◌≡◌, ℕ, List}
use Rattle.hm_line.specs.Sources.{IsLine, IsLineRefused}
use Rattle.hm_line.specs.declared.errors.AsmKind.{AsmKind}
use Rattle.hm_line.specs.declared.errors.AsmKind.TheVariants as kinds
use Rattle.hm_source.specs.Lines.{text_of, text_column}
use Rattle.hm_source.specs.Statements.{Said, Says}

-- the line is of the form and says nothing
pub record IsNoRow (line : List ℕ) (c : ℕ) : Type 0 where
  pub form : IsLine line
  pub none : (said : Said) → Says (text_of line) said → ⊥
  pub column : c ≡ text_column line

-- the line alone is refused as this, at column c: Syntax is tried before Row
abbrev pub IsUnread : AsmKind → List ℕ → ℕ → Type 0
IsUnread kinds.Syntax line c = IsLineRefused line c
IsUnread kinds.Row line c = IsNoRow line c
IsUnread kind line c = ⊥
