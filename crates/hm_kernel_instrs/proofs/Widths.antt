-- How many halfwords the instruction of an item has.
use Rattle.std.proofs.Common.{◌≡◌, ℕ, length, ap}
use Rattle.hm_isa.specs.declared.Instr.{Instr}
use Rattle.hm_isa.specs.Code.{halfwords}
use Rattle.hm_kernel_lang.specs.declared.text.ElementType.{ElementType}
use Rattle.hm_kernel_lang.specs.declared.text.Op.{Op}
use Rattle.hm_kernel_lang.specs.declared.text.Op.TheVariants as op
use Rattle.hm_kernel_lang.specs.declared.machine.Item.{Item}
use Rattle.hm_kernel_lang.specs.declared.machine.Item.TheVariants.{Plain}
use Rattle.hm_kernel_lang.specs.declared.machine.Kind.{Kind}
use Rattle.hm_kernel_lang.specs.declared.machine.Kind.TheVariants.{Do}
use Rattle.hm_kernel_lang.specs.Machine.{halves, item_halves}
use Rattle.hm_kernel_instrs.specs.Instructions.{IsItem, IsKind, IsOperation}

operation_width : (t : ElementType) (o : Op) (q : ℕ) (i : Instr) → IsOperation t o q i → length (halfwords i) ≡ 2
operation_width t op.Add q i k = ap (λ (x : Instr). length (halfwords x)) k.is
operation_width t o q i k = ap (λ (x : Instr). length (halfwords x)) k.is

kind_width : (t : ElementType) (k : Kind) (i : Instr) → IsKind t k i → length (halfwords i) ≡ halves k
kind_width t (Do o q) i k = operation_width t o q i k
kind_width t kind i k = ap (λ (x : Instr). length (halfwords x)) k.is

-- as many as the item is said to have
pub item_width : (t : ElementType) (x : Item) (i : Instr) → IsItem t x i → length (halfwords i) ≡ item_halves x
item_width t (Plain k) i h = kind_width t k i h
item_width t item i h = ap (λ (x : Instr). length (halfwords x)) h.is
