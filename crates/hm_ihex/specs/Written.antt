-- The one file of Intel HEX that an image is written as.
use Rattle.std.specs.Prelude.{ℕ, zero, suc, ◌+◌, ◌-◌, ◌/◌, ◌%◌, ◌<◌, List, [], ◌∷◌, ◌++◌, codes, drop, length, take, nat_eq, nat_lt, if◌then◌else◌}
use Rattle.std.specs.List.{AllByRecursion, flat_map}
use Rattle.hm_base.specs.Image.{Segment, segment}
use Rattle.hm_text_base.specs.Spans.{line}
use Rattle.hm_ihex.specs.Records.{colon, sum_of}

-- a hexadecimal digit in upper case
abbrev pub digit : ℕ → ℕ
digit d = if nat_lt d 10 then 48 + d else 55 + d

-- two digits for each byte, the high one first
abbrev pub digits_of : List ℕ → List ℕ
digits_of [] = []
digits_of (b ∷ bs) = digit (b / 16) ∷ digit (b % 16) ∷ digits_of bs

-- the byte by which a sum becomes 0 modulo 256
abbrev pub check_of : List ℕ → ℕ
check_of bytes = (256 - sum_of bytes % 256) % 256

-- a record: a colon, the digits of its bytes and of its check byte
abbrev pub record_text : List ℕ → List ℕ
record_text bytes = colon ∷ digits_of (bytes ++ check_of bytes ∷ [])

-- data at an offset from the base
abbrev pub data_text : ℕ → List ℕ → List ℕ
data_text offset bytes = record_text (length bytes ∷ offset / 256 ∷ offset % 256 ∷ 0 ∷ bytes)

-- a base, by the upper half of its address
abbrev pub base_text : ℕ → List ℕ
base_text upper = record_text (2 ∷ 0 ∷ 0 ∷ 4 ∷ upper / 256 ∷ upper % 256 ∷ [])

-- the end record
abbrev pub end_text : List ℕ
end_text = codes ":00000001FF"

-- how many bytes a record from an address on may have: 16, or fewer up to a multiple of 65,536
abbrev pub room_at : ℕ → ℕ
room_at a = if nat_lt (65536 - a % 65536) 16 then 65536 - a % 65536 else 16

-- so many pieces of bytes from an address on, each as long as its record may be
unfoldable pub pieces : ℕ → ℕ → List ℕ → List Segment
pieces zero a bytes = []
pieces (suc n) a [] = []
pieces (suc n) a (b ∷ bs) = segment a (take (room_at a) (b ∷ bs)) ∷ pieces n (a + room_at a) (drop (room_at a) (b ∷ bs))

-- the pieces of all segments, in order
abbrev pub all_pieces : List Segment → List Segment
all_pieces [] = []
all_pieces (s ∷ ss) = pieces (length s.bytes) s.addr s.bytes ++ all_pieces ss

-- the base, where the upper half of an address is not the last one
abbrev pub base_lines : ℕ → ℕ → List (List ℕ)
base_lines upper a = if nat_eq (a / 65536) upper then [] else base_text (a / 65536) ∷ []

-- the lines of pieces, behind a base with this upper half, and the end
abbrev pub lines_of_pieces : ℕ → List Segment → List (List ℕ)
lines_of_pieces upper [] = end_text ∷ []
lines_of_pieces upper (p ∷ ps) = base_lines upper p.addr ++ data_text (p.addr % 65536) p.bytes ∷ lines_of_pieces (p.addr / 65536) ps

-- the lines, each with its end
abbrev pub text_of : ℕ → List Segment → List ℕ
text_of upper ps = flat_map line (lines_of_pieces upper ps)

-- the file of an image
abbrev pub hex_file : List Segment → List ℕ
hex_file image = text_of 0 (all_pieces image)

-- a segment in front of others, made one with the next where they touch
abbrev pub joined_to : Segment → List Segment → List Segment
joined_to s [] = s ∷ []
joined_to s (t ∷ ts) = if nat_eq t.addr (s.addr + length s.bytes) then segment s.addr (s.bytes ++ t.bytes) ∷ ts else s ∷ t ∷ ts

-- the segments that touch made one
abbrev pub joined : List Segment → List Segment
joined [] = []
joined (s ∷ ss) = joined_to s (joined ss)

-- the bytes of all segments are bytes
abbrev pub AreBytes : List Segment → Type 0
AreBytes image = AllByRecursion (λ s. AllByRecursion (λ b. b < 256) s.bytes) image
