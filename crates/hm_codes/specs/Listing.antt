-- The instruction that stands at an address.
use Rattle.std.specs.Prelude.{Bool, ◌≡◌, ℕ, ◌+◌, ◌*◌, ◌/◌, ◌%◌, ◌≤◌, nat_le, nat_lt, ◌&&◌, if◌then◌else◌, List, [], ◌∷◌, Result, Ok, Err}
use Rattle.hm_base.specs.declared.Fault.{Fault}
use Rattle.hm_base.specs.declared.FaultKind.{FaultKind}
use Rattle.hm_base.specs.declared.FaultKind.TheVariants.{Undefined, Fetch}
use Rattle.hm_base.specs.Image.{flash_size}
use Rattle.hm_isa.specs.declared.Instr.{Instr}
use Rattle.hm_isa.specs.Code.{halfwords}

-- Code runs in flash alone. In what follows, flash is the byte at each address.
-- the little-endian halfword at an address
abbrev pub half_at : (ℕ → ℕ) → ℕ → ℕ
half_at flash a = flash a + 256 * flash (a + 1)

-- these halfwords stand in flash from an address on
abbrev pub HalvesStand : (ℕ → ℕ) → List ℕ → ℕ → Type 0
HalvesStand flash [] a = Unit {0}
HalvesStand flash (h ∷ hs) a = (a + 2 ≤ flash_size) × (half_at flash a ≡ h) × HalvesStand flash hs (a + 2)

-- the instruction stands at an address, which is even
pub record Stands (flash : ℕ → ℕ) (a : ℕ) (i : Instr) : Type 0 where
  pub even : a % 2 ≡ 0
  pub code : HalvesStand flash (halfwords i) a

-- whether a first halfword begins a code of two: its bits 15 to 11 are 11101, 11110 or 11111
abbrev pub is_long : ℕ → Bool
is_long h = nat_le 29 (h / 2048)

-- the kind of fault where no instruction stands: Fetch where a half of the code is not in flash, else Undefined
abbrev pub missing : (ℕ → ℕ) → ℕ → FaultKind
missing flash a =
    if nat_lt flash_size (a + 2) then Fetch else
    (if is_long (half_at flash a) && nat_lt flash_size (a + 4) then Fetch else Undefined)

-- what there is to execute at an address: the instruction that stands there, or a fault where none does
abbrev pub IsFetched : (ℕ → ℕ) → ℕ → Result Instr Fault → Type 0
IsFetched flash a (Ok i) = Stands flash a i
IsFetched flash a (Err fault) = ((i : Instr) → Stands flash a i → ⊥) × (fault ≡ record { kind = missing flash a; addr = a })

-- a listing tells of each address the instruction that stands there, or the fault where none does
abbrev pub Listing : Type 0
Listing = ℕ → Result Instr Fault

-- the listing of a flash
pub record IsListing (flash : ℕ → ℕ) (listing : Listing) : Type 0 where
  pub at : (a : ℕ) → IsFetched flash a (listing a)
