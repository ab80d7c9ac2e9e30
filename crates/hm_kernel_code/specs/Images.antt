-- The image of a text.
use Rattle.std.specs.Prelude.{◌≡◌, ℕ, ◌+◌, ◌*◌, ◌<◌, ◌≤◌, List, ◌++◌}
use Rattle.hm_base.specs.Image.{Segment, first_byte, flash_byte, flat}
use Rattle.hm_codes.specs.Listing as codes
use Rattle.hm_isa.specs.declared.Instr.{Instr}
use Rattle.hm_state.specs.Start.{reset_pc}
use Rattle.hm_code_bytes.specs.Bytes.{all_halves, half_bytes, word_bytes}
use Rattle.hm_kernel_lang.specs.declared.text.ElementType.{ElementType}
use Rattle.hm_kernel_lang.specs.declared.text.Text.{Text}
use Rattle.hm_kernel_lang.specs.Language.{first_memory}
use Rattle.hm_kernel_lang.specs.declared.machine.Item.{Item}
use Rattle.hm_kernel_lang.specs.Machine.{item_halves}
use Rattle.hm_kernel_lang.specs.Code.{code}
use Rattle.hm_kernel_lang.specs.Correct.{CodeStands}
use Rattle.hm_kernel_instrs.specs.Instructions.{AreItems, IsItem, StaysIn}
use Rattle.hm_kernel_code.specs.Segments.{with_arrays}

-- an item of the code stands in flash
pub record StandsIn (t : ElementType) (flash : ℕ → ℕ) (a : ℕ) (x : Item) : Type 0 where
  pub instr : Instr
  pub here : codes.Stands flash a instr
  pub is : IsItem t x instr
  pub fits : a + 2 * item_halves x ≤ 0x100000
  pub reach : StaysIn a x

-- an image of a text: its first instruction is at 8, with the bit of Thumb code; from there on it has the text's code, and in SRAM the memory
-- before its first line
pub record IsImageOf (x : Text) (image : List Segment) : Type 0 where
  pub pc : reset_pc image ≡ 9
  pub code : CodeStands (StandsIn x.element (flash_byte image)) 8 (code x)
  pub sram : (a : ℕ) → 0x20000000 ≤ a → a < 0x20040000 → first_byte image a ≡ first_memory x a

-- the bytes of flash: the stack pointer at the reset, the address of the first instruction with the bit of Thumb code, and the codes
abbrev pub flash_bytes : List Instr → List ℕ
flash_bytes is = word_bytes 0x20040000 ++ (word_bytes 9 ++ half_bytes (all_halves is))

-- bytes are those of flash with instructions that are these items
pub record HasItems (t : ElementType) (xs : List Item) (bytes : List ℕ) : Type 0 where
  pub instrs : List Instr
  pub kinds : AreItems t xs instrs
  pub is : bytes ≡ flash_bytes instrs

-- the image that a compiler makes of a text: one segment in flash, with instructions that are those of its code, and one for each array with values
pub record IsMade (x : Text) (image : List Segment) : Type 0 where
  pub instrs : List Instr
  pub kinds : AreItems x.element (code x) instrs
  pub is : image ≡ with_arrays x.element x.arrays.items (flat (flash_bytes instrs))
