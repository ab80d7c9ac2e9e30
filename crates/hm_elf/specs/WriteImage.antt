-- The one ELF file that an image is written as.
use Rattle.std.specs.Prelude.{ℕ, ◌+◌, ◌*◌, List, [], ◌∷◌, ◌++◌, length}
use Rattle.std.specs.Int.{w16, w32, to_le_bytes}
use Rattle.std.specs.List.{flat_map}
use Rattle.hm_base.specs.Image.{Segment}
use Rattle.hm_elf.specs.Elf.{elf_magic, header_size, entry_size}

-- a number in two bytes, lowest byte first
abbrev pub half_bytes : ℕ → List ℕ
half_bytes n = to_le_bytes w16 n

-- a number in four bytes, lowest byte first
abbrev pub word_bytes : ℕ → List ℕ
word_bytes n = to_le_bytes w32 n

-- magic, class, order, version and padding; kind, machine, version, entry, the starts of both tables, flags; the sizes of the file header
-- and of a program header, the number of program headers; the size and number of section headers, and the one with their names
abbrev pub file_header : ℕ → List ℕ
file_header count =
    elf_magic ++ (1 ∷ 1 ∷ 1 ∷ 0 ∷ 0 ∷ 0 ∷ 0 ∷ 0 ∷ 0 ∷ 0 ∷ 0 ∷ 0 ∷ []
    ++ (half_bytes 2 ++ (half_bytes 40 ++ (word_bytes 1 ++ (word_bytes 0 ++ (word_bytes header_size ++ (word_bytes 0 ++ (word_bytes 0
    ++ (half_bytes header_size ++ (half_bytes entry_size ++ (half_bytes count
    ++ (half_bytes 0 ++ (half_bytes 0 ++ half_bytes 0)))))))))))))

-- kind, offset, virtual and physical address, size in the file and in memory, flags, alignment
abbrev pub program_header : ℕ → Segment → List ℕ
program_header offset s = flat_map word_bytes (1 ∷ offset ∷ s.addr ∷ s.addr ∷ length s.bytes ∷ length s.bytes ∷ 7 ∷ 1 ∷ [])

-- the program headers of segments whose bytes lie one after another in the file
abbrev pub program_headers : ℕ → List Segment → List ℕ
program_headers offset [] = []
program_headers offset (s ∷ ss) = program_header offset s ++ program_headers (offset + length s.bytes) ss

-- the bytes of all segments, one after another
abbrev pub all_bytes : List Segment → List ℕ
all_bytes image = flat_map (λ s. s.bytes) image

-- the ELF file of an image: its file header, a program header for each segment, and the bytes of them all
abbrev pub elf_file : List Segment → List ℕ
elf_file image = file_header (length image) ++ (program_headers (header_size + entry_size * length image) image ++ all_bytes image)
