-- What stands at a row's places.
use Rattle.std.proofs.Common.{◌≡◌, ℕ, true, List, sym, ◌∙◌, ap}
use denote.Struct.Declared as struct
use denote.Enum.Declared as enum
use Rattle.hm_layout.proofs.Places.{Place, digits}
use Rattle.hm_layout.proofs.Rows.{CodeRow, is_row, row_digits, Named, Plain, places_after, places_of}

-- the places of a row of several names, and of one
abbrev pub places_named : {T : struct.Declared} {E : enum.Record} {code : T.D → ℕ} {base : E.D → ℕ} → Named T E code base → List Place
places_named {T = T} {E = E} row = places_after E T.parts row.layout

abbrev pub places_plain : {T : struct.Declared} {code : T.D → ℕ} → Plain T code → List Place
places_plain {T = T} row = places_of T.parts row.layout

-- what stands at a row's places in the code of one of its values
pub read : {R : Type 0} (row : CodeRow R) → is_row row ≡ true → (w : ℕ) (r : R) → row.code r ≡ w → digits (row.places (row.name r)) w ≡ row.numbers r
read row e w r is = ap (digits (row.places (row.name r))) (sym is) ∙ row_digits row e r
