-- What the text of a line says, behind its label and before its comment.
use Rattle.std.specs.Prelude.{◌≡◌, ◌≢◌, ℕ, List, [], ◌∷◌}
use Rattle.hm_tokens.specs.Tokens.{point}
use Rattle.hm_text_tables.specs.Texts.{HasWidth}
use Rattle.hm_source.specs.Directives.{Directed, IsDirective}

-- nothing, an instruction whose code has so many bytes, or a directive
pub data Said : Type 0 where
  nothing : Said
  instruction : ℕ → Said
  directive : Directed → Said

-- a text that begins with `.` is a directive, and no other is
abbrev pub Says : List ℕ → Said → Type 0
Says [] nothing = Unit {0}
Says (b ∷ bs) (instruction n) = (b ≢ point) × HasWidth (b ∷ bs) n
Says (b ∷ bs) (directive asked) = (b ≡ point) × IsDirective (b ∷ bs) asked
Says text said = ⊥
