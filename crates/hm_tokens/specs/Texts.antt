-- The text of an instruction, as what it is printed from.
use Rattle.std.specs.Prelude.{ℕ, Bool, false, List, ◌∷◌, ◌++◌, length, drop, map, Option, Some, None, nat_eq, bytes_eq, if◌then◌else◌}
use Rattle.std.specs.List.{starts_with}
use Rattle.hm_tokens.specs.declared.text.Part.{Part}
use Rattle.hm_tokens.specs.declared.text.Part.TheVariants as parts
use Rattle.hm_tokens.specs.declared.text.InstrText.{InstrText}
use Rattle.hm_tokens.specs.Tokens.{Tok, word, number, mark_token}

-- the token that a part of an operand is printed as
abbrev pub part_token : Part → Tok
part_token (parts.Word w) = word w.now
part_token (parts.Number n) = number n
part_token (parts.Mark m) = mark_token m

-- the first word: a mnemonic, letters behind it, and a suffix
abbrev pub first_word_of : InstrText → List ℕ
first_word_of t = t.mnemonic.now ++ (t.letters.now ++ t.suffix.now)

-- the tokens of an instruction's text: its first word, and its operands
abbrev pub text_tokens : InstrText → List Tok
text_tokens t = word (first_word_of t) ∷ map part_token t.operands.items

-- what stands in a word behind this piece; None where the word does not begin with it
abbrev pub behind : List ℕ → List ℕ → Option (List ℕ)
behind piece name = if starts_with nat_eq name piece then Some (drop (length piece) name) else None

-- whether the rest of a word is there and is this piece
abbrev pub is_last : List ℕ → Option (List ℕ) → Bool
is_last piece (Some rest) = bytes_eq rest piece
is_last piece None = false

-- whether the rest of a word is there and is the pieces b and c, one behind the other
abbrev pub is_rest : List ℕ → List ℕ → Option (List ℕ) → Bool
is_rest b c (Some rest) = is_last c (behind b rest)
is_rest b c None = false

-- whether a word is the pieces a, b and c, one behind another
abbrev pub is_pieces : List ℕ → List ℕ → List ℕ → List ℕ → Bool
is_pieces a b c name = is_rest b c (behind a name)
