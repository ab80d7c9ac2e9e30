-- An ELF file of 32 bits, the least significant byte first: what it says, and the image that it loads.
use Rattle.std.specs.Prelude.{◌≡◌, ◌⊎◌, ℕ, zero, suc, ◌+◌, ◌*◌, ◌≤◌, Bool, true, false, nat_lt, nat_eq, ◌==◌, ◌&&◌, List, [], ◌∷◌, length, take, drop, map}
use Rattle.std.specs.Prelude.{slice_index, if◌then◌else◌}
use Rattle.std.specs.List.{AllByRecursion, starts_with}
use Rattle.hm_base.specs.Image.{Segment, segment, with_segment, word_at, flash_size, flat, IsImage}
use Rattle.hm_elf.specs.declared.reading.ProgramHeader.{ProgramHeader}

-- the number of two bytes that begin at a place, lowest byte first
abbrev pub half : List ℕ → ℕ → ℕ
half bytes at = slice_index bytes at + 0x100 * slice_index bytes (at + 1)

-- the number of four bytes that begin at a place, lowest byte first
abbrev pub word : List ℕ → ℕ → ℕ
word bytes at = word_at (slice_index bytes) at

-- how many bytes the file header has
abbrev pub header_size : ℕ
header_size = 52

-- how many bytes a program header has
abbrev pub entry_size : ℕ
entry_size = 32

-- the most program headers
abbrev pub most_headers : ℕ
most_headers = 64

-- the first bytes of an ELF file
abbrev pub elf_magic : List ℕ
elf_magic = 0x7f ∷ 0x45 ∷ 0x4c ∷ 0x46 ∷ []

-- whether bytes begin as an ELF file does
abbrev pub begins_as_elf : List ℕ → Bool
begins_as_elf bytes = starts_with nat_eq bytes elf_magic

-- ---- the file header (e_ident, e_type, e_machine, e_phoff, e_phentsize, e_phnum)

-- the class of e_ident: whether the file is of 32 or of 64 bits
abbrev pub class_of : List ℕ → ℕ
class_of bytes = slice_index bytes 4

-- the order of bytes of e_ident: which byte of a number comes first
abbrev pub order_of : List ℕ → ℕ
order_of bytes = slice_index bytes 5

-- e_type: the kind of the file
abbrev pub kind_of : List ℕ → ℕ
kind_of bytes = half bytes 16

-- e_machine: the machine that the file is for
abbrev pub machine_of : List ℕ → ℕ
machine_of bytes = half bytes 18

-- e_phoff: where the program headers begin in the file
abbrev pub table_start : List ℕ → ℕ
table_start bytes = word bytes 28

-- e_phentsize: how many bytes each program header has
abbrev pub entry_size_of : List ℕ → ℕ
entry_size_of bytes = half bytes 42

-- e_phnum: how many program headers there are
abbrev pub header_count : List ℕ → ℕ
header_count bytes = half bytes 44

-- classes: 1 is of 32 bits; orders: 1 is the least significant byte first; kinds: 2 is an executable file; machines: 40 is Arm
pub record IsHeader (bytes : List ℕ) : Type 0 where
  pub whole : header_size ≤ length bytes
  pub class : class_of bytes ≡ 1
  pub order : order_of bytes ≡ 1
  pub kind : kind_of bytes ≡ 2
  pub machine : machine_of bytes ≡ 40
  pub entries : (header_count bytes ≡ 0) ⊎ (entry_size_of bytes ≡ entry_size)
  pub few : header_count bytes ≤ most_headers
  pub table : table_start bytes + entry_size * header_count bytes ≤ length bytes

-- ---- program headers (p_type, p_offset, p_paddr, p_filesz, p_memsz)

-- the program header at the front of a table
abbrev pub header_at : List ℕ → ProgramHeader
header_at table = record { kind = word table 0; offset = word table 4; address = word table 12; file_size = word table 16; memory_size = word table 20 }

-- so many program headers, one after another
abbrev pub headers_in : ℕ → List ℕ → List ProgramHeader
headers_in zero table = []
headers_in (suc n) table = header_at table ∷ headers_in n (drop 32 table)

-- the program headers of a file
abbrev pub headers_of : List ℕ → List ProgramHeader
headers_of bytes = headers_in (header_count bytes) (drop (table_start bytes) bytes)

-- a program header loads bytes where its kind is 1, and it has some
abbrev pub loads : ProgramHeader → Bool
loads h = (h.kind == 1) && nat_lt 0 h.file_size

-- the program headers that load bytes
abbrev pub loading : List ProgramHeader → List ProgramHeader
loading [] = []
loading (h ∷ hs) = if loads h then h ∷ loading hs else loading hs

-- the bytes of the file that a program header loads, at its physical address
abbrev pub loaded : List ℕ → ProgramHeader → Segment
loaded bytes h = segment h.address (take h.file_size (drop h.offset bytes))

-- the bytes that a program header loads lie in the file, and there is room for them in memory
abbrev pub IsLoaded : List ℕ → ProgramHeader → Type 0
IsLoaded bytes h = (h.offset + h.file_size ≤ length bytes) × (h.file_size ≤ h.memory_size)

-- an image with more segments, each put in its place by address
abbrev pub with_segments : List Segment → List Segment → List Segment
with_segments image [] = image
with_segments image (s ∷ ss) = with_segments (with_segment s image) ss

-- ---- files of images

-- the bytes are an ELF file that loads the image
pub record IsElf (bytes : List ℕ) (image : List Segment) : Type 0 where
  pub header : IsHeader bytes
  pub each_loaded : AllByRecursion (IsLoaded bytes) (loading (headers_of bytes))
  pub segments : image ≡ with_segments [] (map (loaded bytes) (loading (headers_of bytes)))
  pub sound : IsImage image

-- the bytes lie in flash from 0 on: at least those of a vector table's first two words
pub record IsFlat (bytes : List ℕ) (image : List Segment) : Type 0 where
  pub long : 8 ≤ length bytes
  pub short : length bytes ≤ flash_size
  pub is_flat : image ≡ flat bytes

-- bytes that begin as an ELF file are one, and all others are flat
abbrev pub IsImageFile : List ℕ → List Segment → Type 0
IsImageFile bytes image = ((begins_as_elf bytes ≡ true) × IsElf bytes image) ⊎ ((begins_as_elf bytes ≡ false) × IsFlat bytes image)
