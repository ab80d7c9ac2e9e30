-- The listing of what stands in flash.
use Rattle.std.specs.Prelude.{◌≡◌, ◌≤◌, ◌<◌, ℕ, ◌+◌, ◌*◌, ◌/◌, ◌%◌, List, [], ◌∷◌, ◌++◌, length, map, codes, Option, Some, None}
use Rattle.std.specs.List.{join_with_byte}
use Rattle.hm_codes.specs.Listing.{half_at, Stands}
use Rattle.hm_isa.specs.Code.{halfwords, width_of}
use Rattle.hm_isa.specs.declared.Instr.{Instr}
use Rattle.hm_text_tables.specs.Tables.{printed_text}
use Rattle.hm_text_base.specs.Marks.{line_end, space}
use Rattle.hm_text_base.specs.Texts.{hex2, hex8}

-- a line shows an instruction, or a halfword at which none is shown
pub data Entry : Type 0 where
  shown : Instr → Entry
  half : ℕ → Entry

-- a halfword in four digits
abbrev pub hex4 : ℕ → List ℕ
hex4 h = hex2 (h / 256) ++ hex2 (h % 256)

-- one halfword, or two
abbrev pub halves_from : ℕ → Option ℕ → List ℕ
halves_from first None = first ∷ []
halves_from first (Some second) = first ∷ second ∷ []

-- the halfwords of a line
abbrev pub halves_of : Entry → List ℕ
halves_of (shown i) = halfwords i
halves_of (half h) = h ∷ []

-- the text of a line that shows an entry at a: an instruction as it is printed there, or `.half` and the halfword
abbrev pub entry_text : ℕ → Entry → List ℕ
entry_text a (shown i) = printed_text i a
entry_text a (half h) = codes ".half 0x" ++ hex4 h

-- A LINE: an address, halfwords and a text, with spaces between them
-- one line with its end; the address has eight digits and each halfword four
abbrev pub listing_line : ℕ → List ℕ → List ℕ → List ℕ
listing_line a halves text = hex8 a ++ space ∷ (join_with_byte space (map hex4 halves) ++ space ∷ (text ++ line_end ∷ []))

-- the line that shows an entry at a
abbrev pub entry_line : ℕ → Entry → List ℕ
entry_line a e = listing_line a (halves_of e) (entry_text a e)

-- what a line shows at an address: the instruction that stands there and ends at hi or before, else the halfword
abbrev pub IsEntry : (ℕ → ℕ) → ℕ → ℕ → Entry → Type 0
IsEntry flash a hi (shown i) = Stands flash a i × (a + width_of i ≤ hi)
IsEntry flash a hi (half h) = ((i : Instr) → Stands flash a i → hi < a + width_of i) × (h ≡ half_at flash a)

-- what the lines show from an address up to hi
abbrev pub AreEntries : (ℕ → ℕ) → ℕ → ℕ → List Entry → Type 0
AreEntries flash a hi [] = a ≡ hi
AreEntries flash a hi (e ∷ es) = (a < hi) × IsEntry flash a hi e × AreEntries flash (a + 2 * length (halves_of e)) hi es

-- the lines of entries that stand one behind another, the first at a
abbrev pub lines_from : ℕ → List Entry → List ℕ
lines_from a [] = []
lines_from a (e ∷ es) = entry_line a e ++ lines_from (a + 2 * length (halves_of e)) es

-- a text is the listing of a flash from lo up to hi
abbrev pub IsListed : (ℕ → ℕ) → ℕ → ℕ → List ℕ → Type 0
IsListed flash lo hi text = (es : List Entry) × AreEntries flash lo hi es × (text ≡ lines_from lo es)
