use Rattle.std.proofs.Common.{rules}
use Rattle.hm_kernel_code.proofs.Flash.{fit_at, item_next}
use Rattle.hm_kernel_code.proofs.image.flash_bytes.Goals as goal

pub instr_of-requires : goal.instr_of-requires
instr_of-requires c = record { fits = fit_at c.args.items.now c.loop-item.item-index _ (search rules) (search rules) c.requires.fit }

pub loop-item-preserved : goal.loop-item-preserved
loop-item-preserved c =
    item_next c.args.t c.args.items.now c.loop-item.item-index _ c.instr_of.result c.loop-item.bytes.items c.add_code.new.out.items
    (search rules) (search rules) c.loop-item.invariant c.instr_of.ensures.row c.in_ok-add_code.ensures.added
