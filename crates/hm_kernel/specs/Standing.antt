-- Where the items of a text's code stand.
use Rattle.std.specs.Prelude.{◌≡◌, ℕ, ◌+◌, ◌*◌, ◌≤◌, Ok}
use Rattle.hm_codes.specs.Listing.{Listing}
use Rattle.hm_isa.specs.declared.Instr.{Instr}
use Rattle.hm_kernel_lang.specs.declared.text.ElementType.{ElementType}
use Rattle.hm_kernel_lang.specs.declared.machine.Item.{Item}
use Rattle.hm_kernel_lang.specs.Machine.{item_halves}
use Rattle.hm_kernel_instrs.specs.Instructions.{IsItem, StaysIn}

-- an item stands at an address of a listing
pub record Stands (t : ElementType) (listing : Listing) (a : ℕ) (x : Item) : Type 0 where
  pub instr : Instr
  pub here : listing a ≡ Ok instr
  pub is : IsItem t x instr
  pub fits : a + 2 * item_halves x ≤ 0x100000
  pub reach : StaysIn a x
