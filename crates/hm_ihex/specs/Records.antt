-- Records of Intel HEX: a line each.
use Rattle.std.specs.Prelude.{ℕ, ◌+◌, ◌-◌, ◌*◌, ◌%◌, ◌&&◌, List, [], ◌∷◌, length, take, Option, Some, None, nat_eq, nat_le, if◌then◌else◌, option_map}
use Rattle.std.specs.Prelude.{option_and_then}

-- the number below 16 of a hexadecimal digit, of either case
abbrev pub digit_in : ℕ → Option ℕ
digit_in c =
    if nat_le 48 c && nat_le c 57 then Some (c - 48) else
    (if nat_le 65 c && nat_le c 70 then Some (c - 65 + 10) else
    (if nat_le 97 c && nat_le c 102 then Some (c - 97 + 10) else None))

-- a byte of two digits, the high one first
abbrev pub byte_in : ℕ → ℕ → Option ℕ
byte_in high low = option_and_then (λ h. option_map (λ l. 16 * h + l) (digit_in low)) (digit_in high)

-- the bytes of digits, two for each
unfoldable pub bytes_in : List ℕ → Option (List ℕ)
bytes_in [] = Some []
bytes_in (c ∷ []) = None
bytes_in (c ∷ d ∷ cs) = option_and_then (λ b. option_map (λ bs. b ∷ bs) (bytes_in cs)) (byte_in c d)

-- the sum of bytes
unfoldable pub sum_of : List ℕ → ℕ
sum_of [] = 0
sum_of (b ∷ bs) = b + sum_of bs

-- a big-endian number of two bytes
abbrev pub pair_of : List ℕ → ℕ
pair_of (high ∷ low ∷ rest) = 256 * high + low
pair_of bytes = 0

-- WHAT A RECORD IS: data at an offset from the base; the end of the file; a new base; or a start address, which is not read
pub data Record : Type 0 where
  data_at : (offset : ℕ) (bytes : List ℕ) → Record
  end : Record
  new_base : (base : ℕ) → Record
  start : Record

-- the record of a kind: data does not run past the 65,536 bytes that an offset counts, and the others have a length of their own
abbrev pub record_of : ℕ → ℕ → List ℕ → Option Record
record_of kind offset bytes =
    if nat_eq kind 0 then (if nat_le (offset + length bytes) 65536 then Some (data_at offset bytes) else None) else
    (if nat_eq kind 1 then (if nat_eq (length bytes) 0 then Some end else None) else
    (if nat_eq kind 2 then (if nat_eq (length bytes) 2 then Some (new_base (16 * pair_of bytes)) else None) else
    (if nat_eq kind 4 then (if nat_eq (length bytes) 2 then Some (new_base (65536 * pair_of bytes)) else None) else
    (if nat_eq kind 3 then (if nat_eq (length bytes) 4 then Some start else None) else
    (if nat_eq kind 5 then (if nat_eq (length bytes) 4 then Some start else None) else None)))))

-- the bytes of a record: its length, the offset, high byte first, the kind, so many bytes, and a check byte by which the sum of all is 0 modulo 256
abbrev pub record_in : List ℕ → Option Record
record_in (len ∷ high ∷ low ∷ kind ∷ rest) =
    if nat_eq (length rest) (len + 1) && nat_eq (sum_of (len ∷ high ∷ low ∷ kind ∷ rest) % 256) 0 then record_of kind (256 * high + low) (take len rest)
    else None
record_in bytes = None

-- the mark in front of a record
abbrev pub colon : ℕ
colon = 58

-- a line of a record: a colon, and the digits of its bytes
abbrev pub line_in : List ℕ → Option Record
line_in [] = None
line_in (c ∷ digits) = if nat_eq c colon then option_and_then record_in (bytes_in digits) else None
