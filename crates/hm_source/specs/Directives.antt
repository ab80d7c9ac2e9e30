-- What directives ask for, and how they are written.
use Rattle.std.specs.Prelude.{◌≡◌, ◌<◌, ◌≤◌, ℕ, ◌-◌, ◌*◌, ◌^◌, Bool, true, false, List, [], ◌∷◌, ◌++◌, codes}
use Rattle.std.specs.List.{AllByRecursion}
use Rattle.hm_tokens.specs.Lines.{AreTokensOf}
use Rattle.hm_tokens.specs.Names.{is_label_name}
use Rattle.hm_tokens.specs.Tokens.{Tok, word, number, comma, minus_mark, plus_mark}
use Rattle.hm_source.specs.declared.directives.Multiple.{Multiple}
use Rattle.hm_source.specs.declared.directives.Multiple.TheVariants.{Two, Four, Eight}
use Rattle.hm_source.specs.declared.values.DatumSize.{DatumSize}
use Rattle.hm_source.specs.declared.values.DatumSize.TheVariants.{Byte, Half, Word}

-- VALUES
-- what stands in a list: a number, before which `-` may stand; a name; or a name and a number more
pub data Datum : Type 0 where
  literal : Bool → ℕ → Datum
  named : List ℕ → Datum
  beyond : List ℕ → ℕ → Datum

-- how a value of a list is written: a number, `-` and a number, a name, or a name, `+` and a number
abbrev pub datum_tokens : Datum → List Tok
datum_tokens (literal true n) = minus_mark ∷ number n ∷ []
datum_tokens (literal false n) = number n ∷ []
datum_tokens (named w) = word w ∷ []
datum_tokens (beyond w n) = word w ∷ plus_mark ∷ number n ∷ []

-- a first one and others, with commas between them
abbrev pub list_tokens : Datum → List Datum → List Tok
list_tokens d [] = datum_tokens d
list_tokens d (e ∷ es) = datum_tokens d ++ comma ∷ list_tokens e es

-- how many bytes each value of a list has
abbrev pub bytes_each : DatumSize → ℕ
bytes_each Byte = 1
bytes_each Half = 2
bytes_each Word = 4

-- a number fits with a sign or without; a name stands for an address, which a word alone holds
abbrev pub Fits : DatumSize → Datum → Type 0
Fits s (literal false n) = n < 2 ^ (8 * bytes_each s)
Fits s (literal true n) = n ≤ 2 ^ (8 * bytes_each s - 1)
Fits Word (named w) = is_label_name w ≡ true
Fits Word (beyond w n) = (is_label_name w ≡ true) × (n < 2 ^ 32)
Fits s d = ⊥

-- DIRECTIVES
-- bytes from an address on; zero bytes up to a multiple; so many zero bytes; or a list of values
pub data Directed : Type 0 where
  org : ℕ → Directed
  align : ℕ → Directed
  space : ℕ → Directed
  values : DatumSize → Datum → List Datum → Directed

-- what `.align` may fill up to
abbrev pub multiple_of : Multiple → ℕ
multiple_of Two = 2
multiple_of Four = 4
multiple_of Eight = 8

-- the directive that lists values of each size: .byte, .half and .word
abbrev pub list_name : DatumSize → List ℕ
list_name Byte = codes ".byte"
list_name Half = codes ".half"
list_name Word = codes ".word"

-- how a directive is written: its name, and behind it a number or a list of values
abbrev pub asked_tokens : Directed → List Tok
asked_tokens (org a) = word (codes ".org") ∷ number a ∷ []
asked_tokens (align n) = word (codes ".align") ∷ number n ∷ []
asked_tokens (space n) = word (codes ".space") ∷ number n ∷ []
asked_tokens (values s d ds) = word (list_name s) ∷ list_tokens d ds

-- what a directive asks for is in its range: an address or a count of 32 bits, a multiple of `.align`, or values that fit
abbrev pub IsInRange : Directed → Type 0
IsInRange (org a) = a < 2 ^ 32
IsInRange (align n) = (m : Multiple) × (n ≡ multiple_of m)
IsInRange (space n) = n < 2 ^ 32
IsInRange (values s d ds) = AllByRecursion (Fits s) (d ∷ ds)

-- a text is that of a directive
abbrev pub IsDirective : List ℕ → Directed → Type 0
IsDirective text asked = AreTokensOf text (asked_tokens asked) × IsInRange asked
