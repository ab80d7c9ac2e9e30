use Rattle.std.proofs.Common.{◌≡◌, ◌++◌, ◌+◌}
use Rattle.hm_base.specs.Image.{sram_start}
use Rattle.hm_mem.specs.Memory.{memory_of, byte_at}
use Rattle.hm_state.specs.State.{listed}
use Rattle.hm_machine.proofs.memory_text.bytes_onto.Given as goal

abbrev pub invariant-loop-k : goal.invariant-loop-k
invariant-loop-k l = l.out.items ≡ l.initial.out.items ++ listed l.k (λ j. byte_at (memory_of l.mem) (sram_start + j))
