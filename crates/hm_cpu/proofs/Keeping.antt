-- What stays while instructions are done.
use Rattle.std.proofs.Common.{◌≡◌, ℕ, ap, sym, ◌∙◌, subst, slice_index_or}
use Rattle.hm_codes.specs.Listing.{Listing, IsListing}
use Rattle.hm_cpu.specs.Cpus.{places_of, Keeps, KeepsFlash}
use Rattle.hm_cpu.specs.declared.cpu.Cpu.{Cpu}
use Rattle.hm_mem.specs.Memory.{Around, Memory, flash_at, memory_of}
use Rattle.hm_mem.specs.Seen.{IsSameElsewhere}

pub same_flash : (m n : Memory) → IsSameElsewhere m n → flash_at n ≡ flash_at m
same_flash m n h = λ j. λ (a : ℕ). slice_index_or (h.flash j) a 255

pub moves_then : {x y z : Cpu} → KeepsFlash x y → KeepsFlash y z → KeepsFlash x z
moves_then h k = record { flash = k.flash ∙ h.flash; places = k.places ∙ h.places; room = k.room ∙ h.room }

pub moved_flash : {x y : Cpu} → KeepsFlash x y → flash_at (memory_of y.mem) ≡ flash_at (memory_of x.mem)
moved_flash h = λ j. λ (a : ℕ). slice_index_or (h.flash j) a 255

pub moved_bounds : {x y : Cpu} → KeepsFlash x y → (memory_of y.mem).around.bounds ≡ (memory_of x.mem).around.bounds
moved_bounds h = ap (λ (a : Around). a.bounds) h.places

-- what keeps all moves it
pub keeps_moves : {x y : Cpu} → Keeps x y → KeepsFlash x y
keeps_moves h = record { flash = h.memory.flash; places = ap places_of h.memory.around; room = h.room }

-- a listing of the flash is one of the flash as it is now
pub listed_still : {x y : Cpu} → KeepsFlash x y → (listing : Listing) → IsListing (flash_at (memory_of x.mem)) listing
    → IsListing (flash_at (memory_of y.mem)) listing
listed_still h listing is = subst (λ (f : ℕ → ℕ). IsListing f listing) (sym (moved_flash h)) is
