-- Flash and SRAM as cells, each given a byte or not, and the segments that given cells make.
use Rattle.std.specs.Prelude.{ℕ, ◌+◌, ◌-◌, Bool, ◌&&◌, List, [], ◌∷◌, ◌++◌, set, get_or, length, Option, Some, None, is_none, nat_eq, nat_le, nat_lt}
use Rattle.std.specs.Prelude.{if◌then◌else◌, option_map}
use Rattle.std.proofs.Math.ListN.{replicate}
use Rattle.hm_base.specs.Image.{Segment, segment, flash_size, sram_size, sram_start}

-- the cells of flash and of SRAM
pub record Cells : Type 0 where
  pub flash : List (Option ℕ)
  pub sram : List (Option ℕ)

-- so many cells that are not given
unfoldable pub no_cells : ℕ → List (Option ℕ)
no_cells count = replicate count None

-- the cells of flash and of SRAM, none of them given
abbrev pub first_cells : Cells
first_cells = record { flash = no_cells flash_size; sram = no_cells sram_size }

-- a cell is there, and is not given
abbrev pub is_free : ℕ → List (Option ℕ) → Bool
is_free k cells = nat_lt k (length cells) && is_none (get_or cells k None)

-- bytes given to the cells from number k on; none where a cell is not there, or is given already
unfoldable pub put_in : ℕ → List ℕ → List (Option ℕ) → Option (List (Option ℕ))
put_in k [] cells = Some cells
put_in k (b ∷ bs) cells = if is_free k cells then put_in (k + 1) bs (set cells k (Some b)) else None

-- data from an address on: whole in SRAM where it begins there, else whole in flash
abbrev pub with_data : ℕ → List ℕ → Cells → Option Cells
with_data a bytes m =
    if nat_le sram_start a then option_map (λ cells. record m { sram = cells }) (put_in (a - sram_start) bytes m.sram)
    else option_map (λ cells. record m { flash = cells }) (put_in a bytes m.flash)

-- a cell in front of the runs behind it: a given one is in front of the run that begins behind it, or is a run of its own
abbrev pub onto_runs : ℕ → Option ℕ → List Segment → List Segment
onto_runs a None runs = runs
onto_runs a (Some b) [] = segment a (b ∷ []) ∷ []
onto_runs a (Some b) (s ∷ ss) = if nat_eq s.addr (a + 1) then segment a (b ∷ s.bytes) ∷ ss else segment a (b ∷ []) ∷ s ∷ ss

-- THE LONGEST RUNS of given cells, from an address on
unfoldable pub runs : ℕ → List (Option ℕ) → List Segment
runs a [] = []
runs a (c ∷ cs) = onto_runs a c (runs (a + 1) cs)

-- the bytes of the given cells in front, up to the first that is not given
unfoldable pub front_of : List (Option ℕ) → List ℕ
front_of [] = []
front_of (None ∷ cs) = []
front_of (Some b ∷ cs) = b ∷ front_of cs

-- the image of cells: the runs of flash, and those of SRAM
abbrev pub image_of : Cells → List Segment
image_of m = runs 0 m.flash ++ runs sram_start m.sram
