-- What is shown of two states.
use Rattle.std.specs.Prelude.{◌≡◌, ℕ, false, List}
use Rattle.hm_base.specs.Image.{Segment}
use Rattle.hm_codes.specs.Listing.{Listing}
use Rattle.hm_run.specs.InOrder.{Running, in_order}
use Rattle.hm_mem.specs.Devices.{open_devices}
use Rattle.hm_state.specs.State.{State, Byte, regs_of}

-- The same registers, the same output, the same device words that a thread may read; and each byte that is not tainted in the
-- first is the second's.
pub record ShownAlike (s t : State) : Type 0 where
  pub registers : regs_of s ≡ regs_of t
  pub output : s.rest.output ≡ t.rest.output
  pub devices : open_devices s.rest.devices ≡ open_devices t.rest.devices
  pub bytes : (a : ℕ) → (s.cell (Byte a)).taint ≡ false → (s.cell (Byte a)).n ≡ (t.cell (Byte a)).n

-- n whole instructions in order run to a state that is shown alike
pub record ShownInOrder (listing : Listing) (image : List Segment) (n : ℕ) (s : State) : Type 0 where
  pub order : State
  pub runs : in_order listing image n ≡ Running order
  pub alike : ShownAlike s order
