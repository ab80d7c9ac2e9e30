-- Instructions that were decoded of late.
use Rattle.std.specs.Prelude.{◌≡◌, ℕ, List, Option, Some, None, length, slice_index_or}
use Rattle.hm_codes.specs.Listing.{Stands}
use Rattle.hm_recent.specs.Decodings.{instr_of}
use Rattle.hm_recent.specs.Places.{place_of}
use Rattle.hm_recent.specs.declared.decoded.Decoded.{Decoded}
use Rattle.hm_recent.specs.declared.recent.Entry.{Entry}
use Rattle.hm_recent.specs.declared.recent.Cached.{Cached}

-- the instruction of an entry, if there is one
abbrev pub entry_in : Option Entry → Option Decoded
entry_in (Some x) = Some x.instr
entry_in None = None

-- the instruction that is kept in a place
abbrev pub instr_in : Cached → Option Decoded
instr_in s = entry_in s.entry

-- the instruction that is kept of an address
abbrev pub kept_of : List Cached → ℕ → Option Decoded
kept_of r addr = instr_in (slice_index_or r (place_of (length r) addr) (record { entry = None }))

-- the instruction that stands at an address is kept
abbrev pub HasKept : List Cached → (ℕ → ℕ) → ℕ → Type 0
HasKept r flash addr = (d : Decoded) × (kept_of r addr ≡ Some d) × Stands flash addr (instr_of d)
