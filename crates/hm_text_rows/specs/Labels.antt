-- Labels of rows, and what they name.
use Rattle.std.specs.Prelude.{◌≡◌, ◌<◌, ℕ, ◌+◌, ◌-◌, ◌%◌, ◌^◌, true, List, Option, Some, None}
use Rattle.hm_tokens.specs.Lines.{printed, printed_at}
use Rattle.hm_tokens.specs.Names.{is_label_name}
use Rattle.hm_tokens.specs.Tokens.{Tok, word, number, mark}

-- what may stand where a row has a label: a number of 32 bits, or a name that a label may have
abbrev pub IsLabel : Tok → Type 0
IsLabel (word w) = is_label_name w ≡ true
IsLabel (number n) = n < 2 ^ 32
IsLabel (mark c) = ⊥

-- a row without a label reaches every address, and another the one that its label names
abbrev pub Reaches : Option ℕ → ℕ → Type 0
Reaches (Some b) a = b ≡ a
Reaches None a = Unit {0}

-- what a label operand names: a number itself, and a name what the labels say
abbrev pub Names : (List ℕ → Option ℕ) → Tok → ℕ → Type 0
Names labels (word w) a = labels w ≡ Some a
Names labels (number n) a = n ≡ a
Names labels (mark c) a = ⊥

-- where a row has an address to reach, it is the one that its label operand names
abbrev pub NamesTarget : (List ℕ → Option ℕ) → Tok → Option ℕ → Type 0
NamesTarget labels t (Some a) = Names labels t a
NamesTarget labels t None = Unit {0}

-- so far behind the address plus 4
abbrev pub behind : ℕ → ℕ → ℕ
behind pc n = (pc + 4 + n) % 2 ^ 32

-- how far the address a is behind another, modulo 2^32
unfoldable pub distance : ℕ → ℕ → ℕ
distance from a = (a + 0x2_0000_0000 - from) % 0x1_0000_0000

-- what is printed of a row: its tokens, and the address that its label names, where it has one
abbrev pub printed_with : List Tok → Option ℕ → List ℕ
printed_with row (Some a) = printed_at row a
printed_with row None = printed row
