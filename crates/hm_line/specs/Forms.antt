-- The form of a line's tokens.
use Rattle.std.specs.Prelude.{◌≡◌, ◌⊎◌, Bool, true, false, List, [], ◌∷◌, ◌++◌, map}
use Rattle.hm_tokens.specs.declared.marks.Mark.TheVariants.{Colon, Comma, Hash, OpenBracket, CloseBracket, OpenBrace, CloseBrace, Bang, Minus, Plus}
use Rattle.hm_line.specs.declared.form.Form.{Form}
use Rattle.hm_line.specs.declared.form.Form.TheVariants as forms
use Rattle.hm_line.specs.Kinds.{Kind, word, number, mark}

-- OPERANDS
-- those that begin with neither `[` nor `{`; a number may have `-` before it
pub data Plain : Type 0 where
  single : Plain
  written_back : Plain
  shift : Plain
  lane : Plain
  immediate : Bool → Plain
  literal : Bool → Plain
  sum : Plain

-- an optional mark
abbrev pub optional : Bool → Kind → List Kind
optional true k = k ∷ []
optional false k = []

-- the tokens of an operand that begins with neither `[` nor `{`
abbrev pub plain : Plain → List Kind
plain single = word ∷ []
plain written_back = word ∷ mark Bang ∷ []
plain shift = word ∷ mark Hash ∷ number ∷ []
plain lane = word ∷ mark OpenBracket ∷ number ∷ mark CloseBracket ∷ []
plain (immediate minus) = mark Hash ∷ (optional minus (mark Minus) ++ number ∷ [])
plain (literal minus) = optional minus (mark Minus) ++ number ∷ []
plain sum = word ∷ mark Plus ∷ number ∷ []

-- what stands in a list: a word, or two words with `-` between them
pub data Item : Type 0 where
  one : Item
  range : Item

-- the tokens of one item of a list
abbrev pub item : Item → List Kind
item one = word ∷ []
item range = word ∷ mark Minus ∷ word ∷ []

-- each with a comma before it
abbrev pub behind_commas : {A : Type 0} → (A → List Kind) → List A → List Kind
behind_commas tokens [] = []
behind_commas tokens (x ∷ xs) = mark Comma ∷ (tokens x ++ behind_commas tokens xs)

-- an address has brackets around one or more, and an optional `!`; a list has braces around one or more
pub data Operand : Type 0 where
  simple : Plain → Operand
  address : Plain → List Plain → Bool → Operand
  list : Item → List Item → Operand

-- the tokens of an operand
abbrev pub operand : Operand → List Kind
operand (simple p) = plain p
operand (address p ps back) = mark OpenBracket ∷ (plain p ++ (behind_commas plain ps ++ mark CloseBracket ∷ optional back (mark Bang)))
operand (list i is) = mark OpenBrace ∷ (item i ++ (behind_commas item is ++ mark CloseBrace ∷ []))

-- LINES
-- a token: whether a space stands before it, and its kind
abbrev pub Spaced : Type 0
Spaced = Bool × Kind

-- the kinds of tokens, without the spaces before them
abbrev pub kinds : List Spaced → List Kind
kinds ts = map (λ t. t.1) ts

-- what may stand behind the first word of an instruction or directive: nothing, or a space and operands with commas between them
abbrev pub AreOperands : List Spaced → Type 0
AreOperands [] = Unit {0}
AreOperands (t ∷ ts) = (t.0 ≡ true) × (o : Operand) × (os : List Operand) × (kinds (t ∷ ts) ≡ operand o ++ behind_commas operand os)

-- an instruction or directive: its first word, and its operands
abbrev pub IsInstruction : List Spaced → Type 0
IsInstruction [] = ⊥
IsInstruction (t ∷ ts) = (t.1 ≡ word) × AreOperands ts

-- no token, or an instruction or directive
abbrev pub IsOptional : List Spaced → Type 0
IsOptional [] = Unit {0}
IsOptional (t ∷ ts) = IsInstruction (t ∷ ts)

-- a label, `:`, and an optional instruction or directive
abbrev pub IsLabelled : List Spaced → Type 0
IsLabelled [] = ⊥
IsLabelled (t ∷ []) = ⊥
IsLabelled (t ∷ u ∷ ts) = (t.1 ≡ word) × (u.1 ≡ mark Colon) × IsOptional ts

-- tokens are of a form: an instruction or directive alone, or a line of a source, which may be empty or have a label
abbrev pub IsForm : Form → List Spaced → Type 0
IsForm forms.Instruction ts = IsInstruction ts
IsForm forms.Line ts = IsOptional ts ⊎ IsLabelled ts

-- tokens begin one of the form: with some behind them they are of it
abbrev pub Begins : Form → List Spaced → Type 0
Begins form ts = (more : List Spaced) × IsForm form (ts ++ more)
