use Rattle.std.proofs.Common.{◌≡◌}
use Rattle.std.specs.Prelude.{slice_index}
use Rattle.hm_kernel_lang.specs.Values.{element_bytes}
use Rattle.hm_kernel_code.proofs.values.value_bytes.Given as goal

abbrev pub invariant-loop-value : goal.invariant-loop-value
invariant-loop-value l = l.out.items ≡ element_bytes l.t l.value-index (λ j. slice_index l.values j)
