-- WHAT THE CODE OF A TEXT DOES, in whole instructions in order.
use Rattle.std.specs.Prelude.{◌≡◌, ℕ, ◌+◌, ◌<◌, ◌≤◌, List, slice_index}
use Rattle.hm_base.specs.Image.{Segment, sram_size, sram_start}
use Rattle.hm_codes.specs.Listing.{Listing}
use Rattle.hm_run.specs.declared.Reason.{Reason}
use Rattle.hm_run.specs.declared.Reason.TheVariants.{Break}
use Rattle.hm_run.specs.Headline.{taint_bit_in}
use Rattle.hm_run.specs.InOrder.{Halted, in_order}
use Rattle.hm_state.specs.Start.{start}
use Rattle.hm_state.specs.State.{Byte, State}
use Rattle.hm_kernel_lang.specs.declared.text.Text.{Text}
use Rattle.hm_kernel_lang.specs.Language.{first_memory, meaning, steps}

-- so many instructions in order halt by a breakpoint, and SRAM is what the text means
pub record Computes (x : Text) (image : List Segment) (listing : Listing) : Type 0 where
  pub state : State
  pub halts : in_order listing image (steps x) ≡ Halted (Break 0) (steps x) state
  pub begins : (a : ℕ) → 0x20000000 ≤ a → a < 0x20040000 → ((start image).cell (Byte a)).n ≡ first_memory x a
  pub memory : (a : ℕ) → 0x20000000 ≤ a → a < 0x20040000 → (state.cell (Byte a)).n ≡ meaning x a

-- a run that halts so has halted at the end of the code, and each byte of its file that is not tainted is what the text means
pub record IsFileOf (x : Text) (file : List ℕ) (reason : Reason) (n : ℕ) : Type 0 where
  pub reason_is : reason ≡ Break 0
  pub count : n ≡ steps x
  pub bytes : (j : ℕ) → j < sram_size → taint_bit_in file j ≡ 0 → slice_index file j ≡ meaning x (sram_start + j)
