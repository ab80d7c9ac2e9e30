-- Reading the file of an image: the image, or the first refusal.
use Rattle.std.specs.Prelude.{ℕ, ◌+◌, ◌*◌, Bool, nat_lt, nat_le, ◌==◌, ◌&&◌, ◌||◌, List, [], ◌∷◌, length, Option, Some, None, Result, Ok, Err}
use Rattle.std.specs.Prelude.{if◌then◌else◌}
use Rattle.std.specs.List.{list_all}
use Rattle.hm_base.specs.Results.{unless}
use Rattle.hm_base.specs.Image.{Segment, with_segment, flash_size, sram_start, sram_size, flat}
use Rattle.hm_base.specs.declared.errors.ImageErr.{ImageErr}
use Rattle.hm_base.specs.declared.errors.ImageErr.TheVariants as refusals
use Rattle.hm_text_base.specs.Reading.{◌>>=◌}
use Rattle.hm_elf.specs.declared.reading.ProgramHeader.{ProgramHeader}
use Rattle.hm_elf.specs.Elf.{begins_as_elf, header_size, entry_size, most_headers, class_of, order_of, kind_of, machine_of, table_start, entry_size_of}
use Rattle.hm_elf.specs.Elf.{header_count, headers_of, loads, loaded}

-- a check, and the refusal where it fails
abbrev pub Check : Type 0
Check = Bool × ImageErr

-- the refusal of the first check that fails
abbrev pub first_failing : List Check → Option ImageErr
first_failing [] = None
first_failing ((passes, refusal) ∷ checks) = if passes then first_failing checks else Some refusal

-- ---- flat images

-- the checks of a flat image: it has a vector table's first two words, and fits in flash
abbrev pub flat_checks : List ℕ → List Check
flat_checks bytes = (nat_le 8 (length bytes), refusals.Short) ∷ (nat_le (length bytes) flash_size, refusals.Long) ∷ []

-- the flat image of the bytes, or the first refusal
unfoldable pub flat_in : List ℕ → Result (List Segment) ImageErr
flat_in bytes = unless (first_failing (flat_checks bytes)) (Ok (flat bytes))

-- ---- ELF files

-- the checks of the file header, in their order
abbrev pub header_checks : List ℕ → List Check
header_checks bytes =
    (nat_le header_size (length bytes), refusals.Truncated (length bytes))
    ∷ (class_of bytes == 1, refusals.Class)
    ∷ (order_of bytes == 1, refusals.Order)
    ∷ (kind_of bytes == 2, refusals.Kind)
    ∷ (machine_of bytes == 40, refusals.Machine)
    ∷ ((header_count bytes == 0) || (entry_size_of bytes == entry_size), refusals.Header)
    ∷ (nat_le (header_count bytes) most_headers, refusals.TooMany)
    ∷ (nat_le (table_start bytes + entry_size * header_count bytes) (length bytes), refusals.Truncated (length bytes))
    ∷ []

-- whether a segment has a byte, and lies whole in flash or whole in SRAM
abbrev pub is_placed : Segment → Bool
is_placed s =
    nat_lt 0 (length s.bytes) && (nat_le (s.addr + length s.bytes) flash_size
    || (nat_le sram_start s.addr && nat_le (s.addr + length s.bytes) (sram_start + sram_size)))

-- whether one of two segments ends before the other begins
abbrev pub is_clear : Segment → Segment → Bool
is_clear s t = nat_le (s.addr + length s.bytes) t.addr || nat_le (t.addr + length t.bytes) s.addr

-- an image with the segment that program header k asks for, which is to be placed and to overlap none
unfoldable pub place_in : ℕ → Segment → List Segment → Result (List Segment) ImageErr
place_in k s image = if is_placed s && list_all (is_clear s) image then Ok (with_segment s image) else Err (refusals.Segment k)

-- the checks of the sizes of program header k
abbrev pub size_checks : List ℕ → ℕ → ProgramHeader → List Check
size_checks bytes k h = (nat_le (h.offset + h.file_size) (length bytes), refusals.Truncated (length bytes))
    ∷ (nat_le h.file_size h.memory_size, refusals.Segment k) ∷ []

-- the image with what program header k loads
unfoldable pub load_in : List ℕ → ℕ → ProgramHeader → List Segment → Result (List Segment) ImageErr
load_in bytes k h image = if loads h then unless (first_failing (size_checks bytes k h)) (place_in k (loaded bytes h) image) else Ok image

-- the image with what the program headers from k on load
unfoldable pub loads_in : List ℕ → ℕ → List ProgramHeader → List Segment → Result (List Segment) ImageErr
loads_in bytes k [] image = Ok image
loads_in bytes k (h ∷ hs) image = load_in bytes k h image >>= λ more. loads_in bytes (k + 1) hs more

-- the image that an ELF file loads, or the first refusal
unfoldable pub elf_in : List ℕ → Result (List Segment) ImageErr
elf_in bytes = unless (first_failing (header_checks bytes)) (loads_in bytes 0 (headers_of bytes) [])

-- ---- files of images

-- the checks before a segment is looked at
abbrev pub first_checks : List ℕ → List Check
first_checks bytes = if begins_as_elf bytes then header_checks bytes else flat_checks bytes

-- the image of a file, which is ELF where it begins so and else flat, or the first refusal
unfoldable pub image_in : List ℕ → Result (List Segment) ImageErr
image_in bytes = if begins_as_elf bytes then elf_in bytes else flat_in bytes
