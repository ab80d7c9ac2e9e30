use Rattle.std.proofs.Common.{◌≡◌, drop, map}
use Rattle.std.specs.List.{list_any}
use Rattle.hm_kernel_text.specs.Held.{array_written}
use Rattle.hm_kernel_text.specs.ReadLine.{share}
use Rattle.hm_kernel_text.proofs.lines.shares.Given as goal

abbrev pub invariant-loop-array : goal.invariant-loop-array
invariant-loop-array l = list_any (λ a. share l.fn.element l.fn.count a.addr l.fn.addr) (map array_written (drop l.array-index l.arrays))
    ≡ list_any (λ a. share l.fn.element l.fn.count a.addr l.fn.addr) (map array_written l.arrays)
