use Rattle.std.proofs.Common.{ℕ, ◌+◌}
use Rattle.hm_base.specs.Image.{sram_start}
use Rattle.hm_mem.specs.Memory.{memory_of, byte_at}
use Rattle.hm_machine.proofs.MemoryTexts.{listed_first, listed_more}
use Rattle.hm_machine.proofs.memory_text.bytes_onto.Goals as goal

pub loop-k-init : goal.loop-k-init
loop-k-init c = listed_first c.args.out.now.items (λ (j : ℕ). byte_at (memory_of c.args.mem.now) (sram_start + j))

pub loop-k-preserved : goal.loop-k-preserved
loop-k-preserved c =
    listed_more c.args.out.now.items c.loop-k.out.items c.push.new.self.items c.loop-k.k c.sram_byte.result
    (λ (j : ℕ). byte_at (memory_of c.args.mem.now) (sram_start + j))
    c.loop-k.invariant c.sram_byte.ensures c.in_ok-push.ensures.items
