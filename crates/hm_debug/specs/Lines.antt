-- THE LINES that commands print: ticks, bytes of memory, and lines of the listing.
use Rattle.std.specs.Prelude.{ℕ, zero, suc, ◌+◌, ◌-◌, ◌*◌, Bool, true, ◌&&◌, nat_lt, if◌then◌else◌, List, [], ◌++◌, codes, length, min, Result, Ok, Err}
use Rattle.std.specs.Fmt.{decimal}
use Rattle.hm_base.specs.Image.{flash_size, in_sram}
use Rattle.hm_base.specs.declared.Fault.{Fault}
use Rattle.hm_codes.specs.Listing.{Listing, half_at}
use Rattle.hm_isa.specs.declared.Instr.{Instr}
use Rattle.hm_listing.specs.Listings.{Entry, entry_line, half, halves_of, shown}
use Rattle.hm_state.specs.State.{Byte, State}
use Rattle.hm_text_base.specs.Texts.{separator, hex2, hex8}

-- a tick of the run
abbrev pub tick_line : ℕ → List ℕ
tick_line t = codes "tick " ++ decimal t ++ codes "\n"

-- the last tick, where there is none that was asked for
abbrev pub end_line : ℕ → List ℕ
end_line t = codes "end " ++ decimal t ++ codes "\n"

-- BYTES OF MEMORY
-- a byte is there in flash and in SRAM
abbrev pub is_mapped : ℕ → Bool
is_mapped a = if nat_lt a flash_size then true else in_sram a

-- whether n bytes from an address on are all there
abbrev pub all_mapped : ℕ → ℕ → Bool
all_mapped a zero = true
all_mapped a (suc n) = is_mapped a && all_mapped (a + 1) n

-- n bytes from an address on, two hexadecimal digits each
abbrev pub bytes_text : State → ℕ → ℕ → List ℕ
bytes_text s a zero = []
bytes_text s a (suc n) = hex2 (s.cell (Byte a)).n ++ bytes_text s (a + 1) n

-- n bytes, or that one of them is not there
abbrev pub contents_text : State → ℕ → ℕ → List ℕ
contents_text s a n = if all_mapped a n then bytes_text s a n else codes "unmapped"

-- a line of an address and n bytes from there on
abbrev pub memory_line : State → ℕ → ℕ → List ℕ
memory_line s a n = hex8 a ++ separator ++ contents_text s a n ++ codes "\n"

-- rows of sixteen bytes, the last of as many as are left
abbrev pub memory_lines : State → ℕ → ℕ → ℕ → List ℕ
memory_lines s a len zero = []
memory_lines s a len (suc rows) = memory_line s a (min len 16) ++ memory_lines s (a + 16) (len - 16) rows

-- LINES OF THE LISTING of a flash
-- what the line at an address shows: the instruction that stands there, or the halfword where none does
abbrev pub entry_of : (ℕ → ℕ) → ℕ → Result Instr Fault → Entry
entry_of flash a (Ok i) = shown i
entry_of flash a (Err fault) = half (half_at flash a)

-- what the line at an address shows, by the listing
abbrev pub entry_at : (ℕ → ℕ) → Listing → ℕ → Entry
entry_at flash listing a = entry_of flash a (listing a)

-- the address behind a line
abbrev pub after_entry : ℕ → Entry → ℕ
after_entry a e = a + 2 * length (halves_of e)

-- so many from an address on, up to the end of flash
abbrev pub listing_lines : (ℕ → ℕ) → Listing → ℕ → ℕ → List ℕ
listing_lines flash listing a zero = []
listing_lines flash listing a (suc n) =
    if nat_lt a flash_size
    then entry_line a (entry_at flash listing a) ++ listing_lines flash listing (after_entry a (entry_at flash listing a)) n
    else []
