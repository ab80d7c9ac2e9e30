use Rattle.std.proofs.Common.{take}
use Rattle.hm_kernel_code.specs.Images.{HasItems}
use Rattle.hm_kernel_code.proofs.image.flash_bytes.Given as goal

abbrev pub invariant-loop-item : goal.invariant-loop-item
invariant-loop-item l = HasItems l.t (take l.item-index l.items) l.bytes.items
