-- Files of Intel HEX, as a relation between bytes and an image. What is read of other bytes, the first refusal, stands in Files.
use Rattle.std.specs.Prelude.{◌≡◌, ◌⊎◌, ◌↔◌, ℕ, ◌+◌, ◌-◌, ◌*◌, ◌/◌, ◌%◌, ◌<◌, ◌≤◌, true, All, List, [], ◌∷◌, ◌++◌, length, slice_index}
use Rattle.std.specs.List.{AllByRecursion}
use Rattle.hm_base.specs.Image.{IsApart, IsImage, IsPlaced, Segment, covers, segment}
use Rattle.hm_text_base.specs.Marks.{carriage_return, line_end}
use Rattle.hm_ihex.specs.Records.{Record, data_at, end, new_base, pair_of, start, sum_of, colon}

-- ---- lines

-- a line ends with LF or with CR LF
abbrev pub IsLineEnd : List ℕ → Type 0
IsLineEnd mark = (mark ≡ line_end ∷ []) ⊎ (mark ≡ carriage_return ∷ line_end ∷ [])

-- a text of lines, each with its end; the last may have none
abbrev pub AreLines : List (List ℕ) → List ℕ → Type 0
AreLines [] text = text ≡ []
AreLines (l ∷ ls) text = ((ls ≡ []) × (text ≡ l)) ⊎ ((mark : List ℕ) × (rest : List ℕ) × IsLineEnd mark × (text ≡ l ++ (mark ++ rest)) × AreLines ls rest)

-- ---- records

-- the digit of a number below 16, in either case
abbrev pub IsDigit : ℕ → ℕ → Type 0
IsDigit c d = ((d < 10) × (c ≡ 48 + d)) ⊎ ((10 ≤ d) × (d < 16) × ((c ≡ 55 + d) ⊎ (c ≡ 87 + d)))

-- two digits for each byte, the high one first
abbrev pub AreDigits : List ℕ → List ℕ → Type 0
AreDigits [] [] = Unit {0}
AreDigits (h ∷ l ∷ digits) (b ∷ bytes) = IsDigit h (b / 16) × IsDigit l (b % 16) × AreDigits digits bytes
AreDigits digits bytes = ⊥

-- the base that a number sets: 16 times it by kind 2, 65,536 times it by kind 4
abbrev pub IsBase : ℕ → ℕ → ℕ → Type 0
IsBase kind number base = ((kind ≡ 2) × (base ≡ 16 * number)) ⊎ ((kind ≡ 4) × (base ≡ 65536 * number))

-- what a record of a kind says: 0 is data that does not run past the 65,536 bytes that an offset counts, 1 the end, 2 and 4 a new base, 3 and 5 a start address
abbrev pub Says : ℕ → ℕ → List ℕ → Record → Type 0
Says kind offset content (data_at at bytes) = (kind ≡ 0) × (offset ≡ at) × (content ≡ bytes) × (at + length bytes ≤ 65536)
Says kind offset content end = (kind ≡ 1) × (content ≡ [])
Says kind offset content (new_base base) = (length content ≡ 2) × IsBase kind (pair_of content) base
Says kind offset content start = (length content ≡ 4) × ((kind ≡ 3) ⊎ (kind ≡ 5))

-- the bytes of a record: the length of its content, an offset, high byte first, a kind, the content, and a check byte by which the sum of all is 0 modulo 256
pub record IsRecord (bytes : List ℕ) (said : Record) : Type 0 where
  pub high : ℕ
  pub low : ℕ
  pub kind : ℕ
  pub content : List ℕ
  pub check : ℕ
  pub form : bytes ≡ length content ∷ high ∷ low ∷ kind ∷ (content ++ check ∷ [])
  pub sum : sum_of bytes % 256 ≡ 0
  pub says : Says kind (256 * high + low) content said

-- a line is the text of a record: a colon, and the digits of its bytes
abbrev pub IsRecordLine : List ℕ → Record → Type 0
IsRecordLine line said = (digits : List ℕ) × (bytes : List ℕ) × (line ≡ colon ∷ digits) × AreDigits digits bytes × IsRecord bytes said

-- a line for each record
abbrev pub AreRecordLines : List (List ℕ) → List Record → Type 0
AreRecordLines [] [] = Unit {0}
AreRecordLines (l ∷ ls) (r ∷ rs) = IsRecordLine l r × AreRecordLines ls rs
AreRecordLines ls rs = ⊥

-- the end record comes once, and last
abbrev pub EndsOnce : List Record → Type 0
EndsOnce [] = ⊥
EndsOnce (end ∷ rs) = rs ≡ []
EndsOnce (r ∷ rs) = EndsOnce rs

-- ---- the bytes that records give

-- data at an address, where it has a byte
abbrev pub some_at : ℕ → List ℕ → List Segment
some_at a [] = []
some_at a (b ∷ bs) = segment a (b ∷ bs) ∷ []

-- THE DATA of records behind a base, each at the base and its own offset
abbrev pub data_behind : ℕ → List Record → List Segment
data_behind base [] = []
data_behind base (data_at offset bytes ∷ rs) = some_at (base + offset) bytes ++ data_behind base rs
data_behind base (new_base next ∷ rs) = data_behind next rs
data_behind base (r ∷ rs) = data_behind base rs

-- the base is 0 before the first record
abbrev pub data_of : List Record → List Segment
data_of records = data_behind 0 records

-- no two segments share an address
abbrev pub AreApart : List Segment → Type 0
AreApart [] = Unit {0}
AreApart (s ∷ ss) = IsApart s ss × AreApart ss

-- a segment gives a byte at an address
abbrev pub GivesByte : Segment → ℕ → ℕ → Type 0
GivesByte s a b = (covers s a ≡ true) × (slice_index s.bytes (a - s.addr) ≡ b)

-- one of segments does
abbrev pub HasByte : List Segment → ℕ → ℕ → Type 0
HasByte [] a b = ⊥
HasByte (s ∷ ss) a b = GivesByte s a b ⊎ HasByte ss a b

-- no segment touches a later one: an address lies between them
abbrev pub AreParted : List Segment → Type 0
AreParted [] = Unit {0}
AreParted (s ∷ ss) = All (λ t. s.addr + length s.bytes < t.addr) ss × AreParted ss

-- THE BYTES ARE A FILE OF THE IMAGE: lines of records, the end record last; all data lies whole in flash or whole in SRAM, and gives no byte twice; each byte
-- of the image is one that a record gives, and each that one gives is the image's; and its segments are the longest runs of them
pub record IsHexFile (bytes : List ℕ) (image : List Segment) : Type 0 where
  pub lines : List (List ℕ)
  pub records : List Record
  pub text : AreLines lines bytes
  pub each_record : AreRecordLines lines records
  pub ended : EndsOnce records
  pub placed : AllByRecursion IsPlaced (data_of records)
  pub once : AreApart (data_of records)
  pub sound : IsImage image
  pub longest : AreParted image
  pub same : (a b : ℕ) → HasByte image a b ↔ HasByte (data_of records) a b
