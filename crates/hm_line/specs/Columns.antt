-- Where the operands of a text begin.
use Rattle.std.specs.Prelude.{◌≡◌, ℕ, zero, suc, Bool, true, false, List, [], ◌∷◌, if◌then◌else◌}
use Rattle.hm_tokens.specs.declared.marks.Mark.TheVariants.{Comma, OpenBracket, CloseBracket, OpenBrace, CloseBrace}
use Rattle.hm_line.specs.Forms.{Spaced, kinds}
use Rattle.hm_line.specs.Kinds.{Kind, mark}
use Rattle.hm_line.specs.Texts.{AreTokens}

-- whether what stands behind a token stands in brackets or braces
abbrev pub is_inside : Bool → Kind → Bool
is_inside inside (mark OpenBracket) = true
is_inside inside (mark OpenBrace) = true
is_inside inside (mark CloseBracket) = false
is_inside inside (mark CloseBrace) = false
is_inside inside k = inside

-- whether a token is a comma between two operands
abbrev pub is_between : Bool → Kind → Bool
is_between false (mark Comma) = true
is_between inside k = false

-- tokens with n commas between operands, of which the last token is the last
abbrev pub ArePassed : ℕ → Bool → List Kind → Type 0
ArePassed zero inside ks = ks ≡ []
ArePassed (suc n) inside [] = ⊥
ArePassed (suc n) inside (k ∷ ks) = ArePassed (if is_between inside k then n else suc n) (is_inside inside k) ks

-- operand n of a text, counted from 0, begins behind the spaces here: behind the first word, and n commas
abbrev pub IsOperand : List ℕ → ℕ → List ℕ → Type 0
IsOperand text n here = (t : Spaced) × (ts : List Spaced) × AreTokens text (t ∷ ts) here × ArePassed n false (kinds ts)
