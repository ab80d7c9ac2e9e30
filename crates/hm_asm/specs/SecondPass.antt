-- The second pass: the bytes of each line, where the labels are known, and the first line that has none.
use Rattle.std.specs.Prelude.{◌≡◌, ℕ, zero, suc, ◌+◌, ◌-◌, ◌*◌, ◌^◌, true, false, List, [], ◌∷◌, ◌++◌, Option, Some, None, option_map, take, replicate}
use Rattle.std.specs.Int.{w64, to_le_bytes}
use Rattle.hm_base.specs.Image.{Segment}
use Rattle.hm_code_bytes.specs.Bytes.{code_bytes}
use Rattle.hm_isa.specs.declared.Instr.{Instr}
use Rattle.hm_line.specs.Columns.{IsOperand}
use Rattle.hm_line.specs.Texts.{column}
use Rattle.hm_line.specs.declared.errors.AsmKind.{AsmKind}
use Rattle.hm_line.specs.declared.errors.AsmKind.TheVariants as kinds
use Rattle.hm_text_tables.specs.Refusals.{IsTextRefused}
use Rattle.hm_text_tables.specs.Texts.{IsTextOf}
use Rattle.hm_tokens.specs.Tokens.{skip}
use Rattle.hm_source.specs.declared.values.DatumSize.{DatumSize}
use Rattle.hm_source.specs.Directives.{Datum, literal, named, beyond, Directed, org, align, space, values, bytes_each}
use Rattle.hm_source.specs.Lines.{text_of, text_column, shifted}
use Rattle.hm_source.specs.Places.{padding, next_place}
use Rattle.hm_source.specs.Statements.{Said, nothing, instruction, directive, Says}

-- what names name
abbrev pub Naming : Type 0
Naming = List ℕ → Option ℕ

-- BYTES
-- so many low bytes of a number, the lowest first
abbrev pub low_bytes : ℕ → ℕ → List ℕ
low_bytes k n = take k (to_le_bytes w64 n)

-- the number that a value stands for, of which a list keeps the low bytes; none where its name is not defined
abbrev pub number_of : Naming → DatumSize → Datum → Option ℕ
number_of labels s (literal true n) = Some (2 ^ (8 * bytes_each s) - n)
number_of labels s (literal false n) = Some n
number_of labels s (named w) = labels w
number_of labels s (beyond w n) = option_map (λ a. a + n) (labels w)

-- these are the bytes of the values of a list, each with its low byte first; all names in it are defined
abbrev pub AreValues : Naming → DatumSize → List Datum → List ℕ → Type 0
AreValues labels s [] bs = bs ≡ []
AreValues labels s (d ∷ ds) bs = (n : ℕ) × (rest : List ℕ) × (number_of labels s d ≡ Some n) × AreValues labels s ds rest
    × (bs ≡ low_bytes (bytes_each s) n ++ rest)

-- these are the bytes of a directive at a: none of `.org`, zeros of `.align` and `.space`, and those of the values of a list
abbrev pub AreAsked : Naming → ℕ → Directed → List ℕ → Type 0
AreAsked labels a (org b) bs = bs ≡ []
AreAsked labels a (align n) bs = bs ≡ replicate (padding n a) 0
AreAsked labels a (space n) bs = bs ≡ replicate n 0
AreAsked labels a (values s d ds) bs = AreValues labels s (d ∷ ds) bs

-- the bytes that a text gives which stands at a
abbrev pub AreBytes : Naming → ℕ → List ℕ → Said → List ℕ → Type 0
AreBytes labels a text nothing bs = bs ≡ []
AreBytes labels a text (instruction n) bs = (i : Instr) × IsTextOf text a labels i × (bs ≡ code_bytes i)
AreBytes labels a text (directive asked) bs = AreAsked labels a asked bs

-- REFUSALS
-- n values have their numbers, and the next one is a name that is not defined
abbrev pub IsFirstMissing : Naming → DatumSize → List Datum → ℕ → Type 0
IsFirstMissing labels s [] n = ⊥
IsFirstMissing labels s (d ∷ ds) zero = number_of labels s d ≡ None
IsFirstMissing labels s (d ∷ ds) (suc n) = (m : ℕ) × (number_of labels s d ≡ Some m) × IsFirstMissing labels s ds n

-- the column of operand n of a text, counted from 0
abbrev pub IsOperandColumn : List ℕ → ℕ → ℕ → Type 0
IsOperandColumn text n c = (here : List ℕ) × IsOperand text n here × (c ≡ column text (skip here))

-- a directive is refused as this, at column c of its text: a list for its first name that is not defined, and no other for anything
abbrev pub IsListRefused : AsmKind → Naming → List ℕ → Directed → ℕ → Type 0
IsListRefused kinds.Missing labels text (values s d ds) c = (n : ℕ) × IsFirstMissing labels s (d ∷ ds) n × IsOperandColumn text n c
IsListRefused kind labels text asked c = ⊥

-- a text that stands at a is refused as this, at its column c; where it says an instruction, that is Missing or Offset
abbrev pub IsSaidRefused : AsmKind → Naming → ℕ → List ℕ → Said → ℕ → Type 0
IsSaidRefused kind labels a text nothing c = ⊥
IsSaidRefused kind labels a text (instruction n) c = IsTextRefused kind text a labels c
IsSaidRefused kind labels a text (directive asked) c = IsListRefused kind labels text asked c

-- LINES one behind another, the first at a place
-- what they give, each at its place
abbrev pub AreGiven : Naming → ℕ → List (List ℕ) → List Segment → Type 0
AreGiven labels a [] pieces = pieces ≡ []
AreGiven labels a (l ∷ ls) [] = ⊥
AreGiven labels a (l ∷ ls) (p ∷ ps) =
    (said : Said) × Says (text_of l) said × (p.addr ≡ a) × AreBytes labels a (text_of l) said p.bytes × AreGiven labels (next_place said a) ls ps

-- n give bytes, and the next one is refused as this, at column c
abbrev pub IsNextRefused : AsmKind → Naming → ℕ → List (List ℕ) → ℕ → ℕ → Type 0
IsNextRefused kind labels a [] n c = ⊥
IsNextRefused kind labels a (l ∷ ls) zero c =
    (said : Said) × (k : ℕ) × Says (text_of l) said × IsSaidRefused kind labels a (text_of l) said k × (c ≡ shifted (text_column l) k)
IsNextRefused kind labels a (l ∷ ls) (suc n) c =
    (said : Said) × (bs : List ℕ) × Says (text_of l) said × AreBytes labels a (text_of l) said bs × IsNextRefused kind labels (next_place said a) ls n c
